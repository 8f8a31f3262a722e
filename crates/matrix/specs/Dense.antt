-- Document 01, matrix: what a call's block holds, and the block beside a refusal.
use Rattle.std.specs.Prelude.{Result, Ok, Err, ◌-◌, ◌*◌, ◌++◌}
use Rattle.lists.specs.Prelude.{ℕ, replicate}
use Rattle.complex.specs.Arithmetic.{plus_zero}
use Rattle.refusal.specs.Verdict.{Verdict}
use Rattle.block.specs.Block.{Entries, entries_in, lay_out}
use Rattle.matrix.specs.declared.DenseMatrix.{DenseMatrix}
use Rattle.refusal.specs.declared.Refusal.{Refusal}

abbrev pub entries_of : DenseMatrix → Entries
entries_of x = entries_in x.columns x.values

-- how many numbers a block's entries have
abbrev pub count_of : DenseMatrix → ℕ
count_of x = 2 * (x.rows * x.columns)

-- the block of these entries; beyond them it holds +0
unfoldable pub block_of : ℕ → ℕ → Entries → DenseMatrix
block_of rows columns f =
    record { rows = rows; columns = columns; values = lay_out rows columns f ++ replicate (512 - 2 * (rows * columns)) plus_zero }

-- "A block returned beside a refusal is +0 throughout": the block where an answer has none
abbrev pub no_block : DenseMatrix
no_block = record { rows = 0; columns = 0; values = replicate 512 plus_zero }

-- a block that is made, once its questions are asked
unfoldable pub checked : Verdict → DenseMatrix → Result DenseMatrix Refusal
checked (Ok tt) made = Ok made
checked (Err r) made = Err r
