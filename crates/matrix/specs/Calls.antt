-- Document 01, matrix: the outcome of each call. Checks 1, 2, 3 and 7 of what it is given come first, then what the module names.
use Rattle.refusal.specs.declared.Refusal.{Refusal}
use Rattle.std.specs.Prelude.{Result, Ok, Err, ◌-◌, ◌*◌, ◌&&◌, ◌++◌}
use Rattle.lists.specs.Prelude.{ℕ, Bool, true, List, eqb, length, replicate, Float}
use Rattle.complex.specs.declared.Complex.{Complex}
use Rattle.complex.specs.Arithmetic.{plus_zero}
use Rattle.complex.specs.Numbers.{pair}
use Rattle.refusal.specs.Verdict.{Verdict, ◌then◌, measured, decide}
use Rattle.refusal.specs.Checks.{not_empty, within_block, fitting, finite_entries, valid_tolerance, finite_work, orbital_below}
use Rattle.matrix.specs.declared.DenseMatrix.{DenseMatrix}
use Rattle.block.specs.Block.{Entries}
use Rattle.matrix.specs.Dense.{entries_of, count_of, block_of, checked}
use Rattle.block.specs.Operations.{product, scaled, added, subtracted, adjoint, identity, zeros, trace, finite_trace, matrix_norm_max, all_finite, hermitian}

-- one complex number, once its questions are asked, and the refusal's number of such an answer: 0 where nothing is refused
unfoldable pub valued : Verdict → Complex → Result Complex Refusal
valued (Ok tt) z = Ok z
valued (Err r) z = Err r

unfoldable pub value_number : Result Complex Refusal → ℕ
value_number (Ok z) = 0
value_number (Err r) = r.number

-- Checks 1 to 3 of one block, with its own question of shape, and of two: check by check, not block by block
abbrev pub shape_of : Bool → ℕ → ℕ → Verdict
shape_of fits rows columns = not_empty rows columns then within_block rows columns then fitting fits

abbrev pub pair_shape : Bool → ℕ → ℕ → ℕ → ℕ → Verdict
pair_shape fits rows columns rows' columns' =
    (not_empty rows columns then not_empty rows' columns') then (within_block rows columns then within_block rows' columns') then fitting fits

-- and check 7 after them
unfoldable pub block_checks : Bool → DenseMatrix → Verdict
block_checks fits x = shape_of fits x.rows x.columns then finite_entries 0 x.values (count_of x)

unfoldable pub pair_checks : Bool → DenseMatrix → DenseMatrix → Verdict
pair_checks fits x y =
    pair_shape fits x.rows x.columns y.rows y.columns
    then (finite_entries 0 x.values (count_of x) then finite_entries 1 y.values (count_of y))

abbrev pub same_shape : DenseMatrix → DenseMatrix → Bool
same_shape x y = eqb x.rows y.rows && eqb x.columns y.columns

abbrev pub square : DenseMatrix → Bool
square x = eqb x.rows x.columns

-- a block that is made: finite, or 10
unfoldable pub finite_block : Verdict → ℕ → ℕ → Entries → Result DenseMatrix Refusal
finite_block verdict rows columns f = checked (verdict then finite_work (all_finite rows columns f)) (block_of rows columns f)

-- `from_numbers`: checks 1, 2, 3 and 7; the block holds the numbers, and +0 beyond them
unfoldable pub from_numbers : ℕ → ℕ → List Float → Result DenseMatrix Refusal
from_numbers rows columns numbers =
    checked (shape_of (eqb (length numbers) (2 * (rows * columns))) rows columns then finite_entries 0 numbers (length numbers))
    (record { rows = rows; columns = columns; values = numbers ++ replicate (512 - length numbers) plus_zero })

-- `from_scalar`: the 1 by 1 block of one number
unfoldable pub from_scalar : Complex → Result DenseMatrix Refusal
from_scalar z = from_numbers 1 1 (pair z)

-- `zero` and `identity`: checks 1 and 2 of their size
unfoldable pub zero_of : ℕ → Result DenseMatrix Refusal
zero_of size = checked (shape_of true size size) (block_of size size zeros)

unfoldable pub identity_of : ℕ → Result DenseMatrix Refusal
identity_of size = checked (shape_of true size size) (block_of size size identity)

unfoldable pub adjoint_of : DenseMatrix → Result DenseMatrix Refusal
adjoint_of x = checked (block_checks true x) (block_of x.columns x.rows (adjoint (entries_of x)))

-- "Product, scale, add and subtract check finiteness; the first block that overflows ends the work with 10."
unfoldable pub product_of : DenseMatrix → DenseMatrix → Result DenseMatrix Refusal
product_of x y = finite_block (pair_checks (eqb x.columns y.rows) x y) x.rows y.columns (product x.columns (entries_of x) (entries_of y))

unfoldable pub scale_of : DenseMatrix → Complex → Result DenseMatrix Refusal
scale_of x factor = finite_block (block_checks true x) x.rows x.columns (scaled factor (entries_of x))

unfoldable pub add_of : DenseMatrix → DenseMatrix → Result DenseMatrix Refusal
add_of x y = finite_block (pair_checks (same_shape x y) x y) x.rows x.columns (added (entries_of x) (entries_of y))

unfoldable pub subtract_of : DenseMatrix → DenseMatrix → Result DenseMatrix Refusal
subtract_of x y = finite_block (pair_checks (same_shape x y) x y) x.rows x.columns (subtracted (entries_of x) (entries_of y))

-- "The trace itself shall give 10 when a part of its sum is not finite" (document 02, L10).
unfoldable pub trace_of : DenseMatrix → Result Complex Refusal
trace_of x = valued (block_checks (square x) x then finite_work (finite_trace x.rows (entries_of x))) (trace x.rows (entries_of x))

-- `max_difference` checks nothing of what it computes and may be infinite.
unfoldable pub max_difference_of : DenseMatrix → DenseMatrix → Result Float Refusal
max_difference_of x y = measured (pair_checks (same_shape x y) x y) (matrix_norm_max x.rows x.columns (subtracted (entries_of x) (entries_of y)))

-- "`is_hermitian`: 8, then no for a non-square matrix"
unfoldable pub is_hermitian : DenseMatrix → Float → Result Bool Refusal
is_hermitian x tolerance = decide (block_checks true x then valid_tolerance tolerance) (square x && hermitian x.rows tolerance (entries_of x))

-- reading an entry: its row below the rows, then its column below the columns, or 12
unfoldable pub entry_of : DenseMatrix → ℕ → ℕ → Result Complex Refusal
entry_of x row column = valued (block_checks true x then orbital_below row x.rows then orbital_below column x.columns) (entries_of x row column)
