-- A block that is written row by row: one more row, and the end. Assumes nothing.
use Rattle.std.specs.Prelude.{◌≡◌, ◌&&◌, ◌+◌, ◌-◌, ◌*◌}
use Rattle.lists.specs.Prelude.{sym, ap, ◌∙◌, List, ℕ, mul_left_comm, arith, replicate, Float, put_mid}
use Rattle.lists.specs.Indexed.{all_below}
use Rattle.lists.specs.Steps.{all_more, join_more}
use Rattle.lists.specs.Filling.{over, over-part, over-replicate}
use Rattle.complex.specs.Arithmetic.{plus_zero, cfinite}
use Rattle.complex.specs.Filling.{cells, length-cells}
use Rattle.matrix.specs.declared.DenseMatrix.{DenseMatrix}
use Rattle.block.specs.Block.{Entries, lay_out}
use Rattle.matrix.specs.Dense.{block_of}
use Rattle.block.specs.Length.{length-rows}
use Rattle.block.specs.Operations.{all_finite}

-- row i is tested, and written over the part of a slice that follows the rows before it
module _ (i columns : ℕ) (f : Entries) where
  pub finite-more : all_finite (i + 1) columns f ≡ all_finite i columns f && all_below columns (λ j. cfinite (f i j))
  unfolding all_finite
  finite-more = all_more i (λ a. all_below columns (λ j. cfinite (f a j)))

  pub rows_more : (d out row : List Float) → out ≡ over d (lay_out i columns f) → row ≡ cells columns (f i)
      → put_mid (i * (2 * columns)) (i * (2 * columns) + 2 * columns - i * (2 * columns)) out row ≡ over d (lay_out (i + 1) columns f)
  unfolding lay_out
  rows_more d out row e q =
      rw (e, q)
      (over-part d (lay_out i columns f) (cells columns (f i)) (i * (2 * columns)) _ (length-rows i columns f) (length-cells columns (f i) ∙ let s : 2 * columns ≡ i * (2 * columns) + 2 * columns - i * (2 * columns) = omega arith in s)
      ∙ ap (over d) (sym (join_more i (λ a. cells columns (f a)))))

-- entries written over 512 times +0 are an answer's block
pub block_made : (rows columns : ℕ) (f : Entries) (values : List Float) → values ≡ over (replicate 512 plus_zero) (lay_out rows columns f)
    → ◌≡◌ {A = DenseMatrix} (record { rows = rows; columns = columns; values = values }) (block_of rows columns f)
unfolding block_of
block_made rows columns f values e =
    ap (λ (xs : List Float). record { rows = rows; columns = columns; values = xs })
    (e ∙ over-replicate 512 (2 * (rows * columns)) plus_zero (lay_out rows columns f) (length-rows rows columns f ∙ mul_left_comm rows 2 columns))
