-- How a call's answer follows from the verdict on what it was given, and the block that was made. Assumes nothing.
use Rattle.std.specs.Prelude.{Result, Ok, Err, ◌≡◌, ◌||◌}
use Rattle.lists.specs.Prelude.{refl, sym, ap, Bool, true, false, not, ℕ, Float}
use Rattle.refusal.specs.declared.Refusal.{Refusal}
use Rattle.refusal.specs.Verdict.{pass, Verdict, ask, ◌then◌, measured, decide}
use Rattle.refusal.specs.Agreement.{then-end}
use Rattle.refusal.specs.Checks.{finite_work}
use Rattle.block.specs.Block.{Entries}
use Rattle.block.specs.Operations.{all_finite}
use Rattle.matrix.specs.declared.DenseMatrix.{DenseMatrix}
use Rattle.matrix.specs.Dense.{block_of, checked}
use Rattle.matrix.specs.Calls.{pair_checks, same_shape}
use Rattle.matrix.specs.Made.{answer_of}
use Rattle.matrix.proofs.Shapes.{same-columns}

-- what check 10 says of the block that is made
module _ (tested : Bool) (rows columns : ℕ) (f : Entries) (finite : Bool) (e : finite ≡ all_finite rows columns f) where
  pub answer-finite : (block : DenseMatrix) → block ≡ block_of rows columns f → finite_work (not tested || finite) ≡ pass → ◌≡◌ {A = Result DenseMatrix Refusal} (Ok block) (answer_of pass tested rows columns f)
  unfolding answer_of checked
  answer-finite block b h = rw (← e, h, b)

  pub answer-overflow : (r : Refusal) → finite_work (not tested || finite) ≡ Err r → ◌≡◌ {A = Result DenseMatrix Refusal} (Err r) (answer_of pass tested rows columns f)
  unfolding answer_of checked
  answer-overflow r h = rw (← e, h)

-- a block after two questions: made, or the second refused
pub made-last : (v w : Verdict) {x y : DenseMatrix} → v ≡ pass → w ≡ pass → x ≡ y → Ok x ≡ checked (v then w) y
unfolding checked
made-last v w p q e = rw (p, q, e)

pub refused-last : (v w : Verdict) (made : DenseMatrix) (r : Refusal) → v ≡ pass → w ≡ Err r → Err r ≡ checked (v then w) made
unfolding checked
refused-last v w made r p q = rw (p, q)

-- a block that check 10 is not asked of
pub untested : (v : Verdict) (rows columns : ℕ) (f : Entries) → answer_of v false rows columns f ≡ checked v (block_of rows columns f)
unfolding answer_of finite_work ask
untested v rows columns f = ap (λ (w : Verdict). checked w (block_of rows columns f)) (then-end v)

-- where two blocks of one shape pass, either's columns are the block's
pub either-columns : (x y : DenseMatrix) (f : Entries) → let v = pair_checks (same_shape x y) x y in answer_of v true x.rows y.columns f ≡ answer_of v true x.rows x.columns f
unfolding answer_of checked
either-columns x y f = by-verdict (pair_checks (same_shape x y) x y) (same-columns x y)
  where
    by-verdict : (v : Verdict) → (v ≡ pass → x.columns ≡ y.columns) → answer_of v true x.rows y.columns f ≡ answer_of v true x.rows x.columns f
    by-verdict (Ok tt) h = ap (λ (m : ℕ). answer_of pass true x.rows m f) (sym (h refl))
    by-verdict (Err r) h = refl

-- a number that is measured
module _ (v : Verdict) where
  pub measure_is : (x : Float) {y : Float} → v ≡ pass → y ≡ x → Ok y ≡ measured v x
  unfolding measured
  measure_is x p e = rw (p, e)

  -- and a yes or no
  pub decide_is : (b : Bool) {a : Bool} → v ≡ pass → a ≡ b → Ok a ≡ decide v b
  unfolding decide
  decide_is true p e = rw (p, e)
  decide_is false p e = rw (p, e)
