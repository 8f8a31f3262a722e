-- Where an entry of a block of at most 16 by 16 stands: within 512 numbers. Assumes nothing.
use Rattle.std.specs.Prelude.{◌+◌, ◌*◌, ◌≤◌, ◌<◌}
use Rattle.lists.specs.Prelude.{ℕ, le_trans, mul-le-mul_left, mul-le-mul_right, mul_left_comm, le_of_suc-le-suc, arith}

-- the rows before row i
pub rows_before : (i columns : ℕ) → i < 16 → columns ≤ 16 → i * columns ≤ 240
rows_before i columns h l = le_trans (mul-le-mul_right columns (le_of_suc-le-suc h)) (mul-le-mul_left 15 l)

-- row i of an answer ends within 512 numbers
pub row_within : (i columns : ℕ) → i < 16 → columns ≤ 16 → i * (2 * columns) + 2 * columns ≤ 512
row_within i columns h l = omega (arith, rows_before i columns h l, mul_left_comm i 2 columns)

-- how many entries there are
pub entries-most : (rows columns : ℕ) → rows ≤ 16 → columns ≤ 16 → rows * columns ≤ 256
entries-most rows columns h l = le_trans (mul-le-mul_right columns h) (mul-le-mul_left 16 l)
