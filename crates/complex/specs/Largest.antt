-- The largest of numbers in the order of a list is that by rows and columns. Assumes nothing.
use Rattle.std.specs.Prelude.{◌≡◌, ◌+◌, ◌*◌}
use Rattle.lists.specs.Prelude.{ap, ◌∙◌, refl, ℕ, zero, suc, add-zero, add-suc, suc-mul, zero-mul, Float}
use Rattle.lists.specs.Indexed.{fold}
use Rattle.complex.specs.Arithmetic.{plus_zero}
use Rattle.complex.specs.Sum.{largest_from, largest_in}

-- the first k, and n more
largest-add : (m : Float) (k n : ℕ) (f : ℕ → Float) → largest_from m (k + n) f ≡ largest_from (largest_from m k f) n (λ j. f (k + j))
unfolding largest_from fold
largest-add m k zero f = rw add-zero
largest-add m k (suc n) f = rw (add-suc, largest-add m k n f)

pub largest_rows_lem : (m : Float) (rows columns : ℕ) (f : ℕ → Float) → largest_from m (rows * columns) f ≡ fold rows (λ a l. largest_from l columns (λ b. f (a * columns + b))) m
unfolding fold
largest_rows_lem m zero columns f = ap (λ (k : ℕ). largest_from m k f) (zero-mul columns) ∙ unfold largest_from in refl
largest_rows_lem m (suc rows) columns f =
    ap (λ (k : ℕ). largest_from m k f) (suc-mul rows columns) ∙ largest-add m (rows * columns) columns f
    ∙ ap (λ (l : Float). largest_from l columns (λ b. f (rows * columns + b))) (largest_rows_lem m rows columns f)

pub largest_in_lem : (rows columns : ℕ) (f : ℕ → Float) → largest_from plus_zero (rows * columns) f ≡ largest_in rows columns (λ a b. f (a * columns + b))
unfolding largest_in
largest_in_lem = largest_rows_lem plus_zero
