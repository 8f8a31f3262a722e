-- What each operation makes of its operands' entries; the code goes by these cases, and the calls of specs/Calls by their own names.
use Rattle.std.specs.Prelude.{Result, ◌||◌}
use Rattle.lists.specs.Prelude.{ℕ, Bool, true, not}
use Rattle.refusal.specs.Verdict.{Verdict, ◌then◌}
use Rattle.refusal.specs.Checks.{finite_work}
use Rattle.matrix.specs.declared.fill.Operation.{Operation}
use Rattle.matrix.specs.declared.fill.Operation.TheVariants.{Zero, Identity, Adjoint, Product, Scale, Add, Subtract}
use Rattle.matrix.specs.declared.DenseMatrix.{DenseMatrix}
use Rattle.refusal.specs.declared.Refusal.{Refusal}
use Rattle.block.specs.Block.{Entries}
use Rattle.matrix.specs.Dense.{entries_of, block_of, checked}
use Rattle.matrix.specs.Calls.{pair_checks, same_shape}
use Rattle.block.specs.Operations.{product, scaled, added, subtracted, adjoint, identity, zeros, all_finite}

-- x has `inner` columns
unfoldable pub made_by : Operation → ℕ → Entries → Entries → Entries
made_by Zero inner x y = zeros
made_by Identity inner x y = identity
made_by Adjoint inner x y = adjoint x
made_by Product inner x y = product inner x y
made_by (Scale factor) inner x y = scaled factor x
made_by Add inner x y = added x y
made_by Subtract inner x y = subtracted x y

-- of two blocks
abbrev pub made_of : Operation → DenseMatrix → DenseMatrix → Entries
made_of op x y = made_by op x.columns (entries_of x) (entries_of y)

-- what a call answers that makes a block, once its checks are asked: 10 where the block is tested and not finite
unfoldable pub answer_of : Verdict → Bool → ℕ → ℕ → Entries → Result DenseMatrix Refusal
answer_of verdict tested rows columns f = checked (verdict then finite_work (not tested || all_finite rows columns f)) (block_of rows columns f)

-- what an operation on two blocks answers
unfoldable pub combined_of : Operation → Bool → DenseMatrix → DenseMatrix → Result DenseMatrix Refusal
combined_of op fits x y = answer_of (pair_checks fits x y) true x.rows y.columns (made_of op x y)

-- and on two of one shape
unfoldable pub alike_of : Operation → DenseMatrix → DenseMatrix → Result DenseMatrix Refusal
alike_of op x y = answer_of (pair_checks (same_shape x y) x y) true x.rows x.columns (made_of op x y)
