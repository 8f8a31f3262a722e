-- The largest norm of a function's numbers in the order of their list is that by places, rows and entries. Assumes nothing.
use Rattle.std.specs.Prelude.{◌≡◌, ◌+◌, ◌*◌, ◌≤◌, ◌<◌}
use Rattle.lists.specs.Prelude.{refl, sym, ap, ◌∙◌, List, ℕ, zero, suc, add-mul, mul_assoc, mul-le-mul_right, add-one, arith, digits_lt, Float}
use Rattle.lists.specs.Indexed.{fold}
use Rattle.complex.specs.Arithmetic.{plus_zero, larger}
use Rattle.complex.specs.Numbers.{entry_at}
use Rattle.complex.specs.Sum.{largest_from, largest_in}
use Rattle.complex.specs.Largest.{largest_rows_lem, largest_in_lem}
use Rattle.largest.specs.Larger.{FromZero, raised-from, raised_in, rows-onward}
use Rattle.block.specs.Operations.{cnorm, matrix_norm_max}
use Rattle.two_time.specs.Layout.{place, read_as, length_of}
use Rattle.two_time.specs.Places.{sized, product-most}
use Rattle.two_time.specs.Parts.{part-within}

-- a block's numbers, from a maximum that +0 does not raise
block-onward : (m : Float) → FromZero m → (n : ℕ) (f : ℕ → Float) → largest_from m (n * n) f ≡ larger m (largest_in n n (λ a b. f (a * n + b)))
block-onward m h n f = largest_rows_lem m n n f ∙ rows-onward m h n n (λ a b. f (a * n + b))

-- block after block, from such a maximum
module _ (n : ℕ) (f : ℕ → Float) (m : Float) (from_zero : FromZero m) where
  abbrev block : ℕ → Float
  block q = largest_in n n (λ a b. f (q * (n * n) + (a * n + b)))

  blocks : (k : ℕ) → fold k (λ q l. largest_from l (n * n) (λ r. f (q * (n * n) + r))) m ≡ largest_from m k block
  unfolding fold
  blocks zero = unfold largest_from in refl
  blocks (suc k) =
      ap (λ (l : Float). largest_from l (n * n) (λ r. f (k * (n * n) + r))) (blocks k)
      ∙ block-onward (largest_from m k block) (raised-from m k block from_zero) n (λ r. f (k * (n * n) + r)) ∙ unfold largest_from in refl

  all_blocks : (k : ℕ) → largest_from m (k * (n * n)) f ≡ largest_from m k block
  all_blocks k = largest_rows_lem m k (n * n) f ∙ blocks k

-- how many numbers a function has
pub count-is : (points n : ℕ) → 2 * (points * points * (n * n)) ≡ length_of points n
count-is points n = simp mul_assoc

-- how many of them are before block (t, u), which lies in the function
pub record Before (capacity n t u : ℕ) : Type 0 where
  pub blocks : t * capacity + u ≤ 65536
  pub numbers : (t * capacity + u) * (n * n) ≤ 16777216
  pub inside : 2 * ((t * capacity + u) * (n * n) + n * n) ≤ length_of capacity n

pub before : {capacity n t u : ℕ} → capacity ≤ 256 → n ≤ 16 → t < capacity → u < capacity → Before capacity n t u
before {capacity} {n} {t} {u} hc hn ht hu =
    let z = sized capacity n hc hn in
    let q : t * capacity + u < capacity * capacity = digits_lt ht hu in
    let blocks : t * capacity + u ≤ 65536 = omega (arith, z.places) in
    record { blocks = blocks; numbers = product-most (t * capacity + u) (n * n) blocks z.block; inside = omega (arith, part-within (n * n) q, count-is capacity n) }

-- the blocks of the points in row t lie in the function
pub record RowBefore (capacity n points t : ℕ) : Type 0 where
  pub block : n * n ≤ 256
  pub width : capacity * (n * n) ≤ 65536
  pub count : points * (n * n) ≤ 65536
  pub numbers : t * (capacity * (n * n)) ≤ 16777216
  pub inside : 2 * (t * (capacity * (n * n)) + points * (n * n)) ≤ length_of capacity n

pub row_before : {capacity n points t : ℕ} → capacity ≤ 256 → n ≤ 16 → points ≤ capacity → t < points → RowBefore capacity n points t
row_before {capacity} {n} {points} {t} hc hn room ht =
    let block = product-most n n hn hn in
    let width = product-most capacity (n * n) hc block in
    let fit = mul-le-mul_right (n * n) room in
    let whole : capacity * capacity * (n * n) ≡ capacity * (capacity * (n * n)) = mul_assoc capacity capacity (n * n) in
    record {
      block = block;
      width = width;
      count = omega arith;
      numbers = product-most t (capacity * (n * n)) (let l : t ≤ 256 = omega arith in l) width;
      inside = omega (arith, part-within {q = t} {k = capacity} (capacity * (n * n)) (let l : t < capacity = omega arith in l), count-is capacity n);
    }

-- where they stand
module _ (capacity n : ℕ) (xs : List Float) where
  stands : (t u a b : ℕ) → 2 * ((t * capacity + u) * (n * n) + (a * n + b)) ≡ place capacity n t u a b
  stands t u a b = let q = t * capacity + u in omega (arith, add-mul (q * n) a n, mul_assoc q n n)

  in_row : (t u a b : ℕ) → 2 * (t * (capacity * (n * n)) + (u * (n * n) + (a * n + b))) ≡ place capacity n t u a b
  in_row t u a b = let split : (t * capacity + u) * (n * n) ≡ t * (capacity * (n * n)) + u * (n * n) = add-mul (t * capacity) u (n * n) ∙ ap (λ (m : ℕ). m + u * (n * n)) (mul_assoc t capacity (n * n)) in
      omega (arith, stands t u a b)

  -- the largest norm in the points' blocks of the first rows, and in one row more
  abbrev pub largest_rows : ℕ → ℕ → Float
  largest_rows points rows = largest_in rows points (λ s u. matrix_norm_max n n (read_as capacity n xs s u))

  pub row-numbers : (points t : ℕ) → largest_from (largest_rows points t) (points * (n * n)) (λ k. cnorm (entry_at xs (2 * (t * (capacity * (n * n)) + k)))) ≡ largest_rows points (t + 1)
  unfolding matrix_norm_max
  row-numbers points t =
      all_blocks n (λ k. cnorm (entry_at xs (2 * (t * (capacity * (n * n)) + k)))) _ (raised_in t points (λ s u. matrix_norm_max n n (read_as capacity n xs s u))) points
      ∙ ap (λ (g : ℕ → Float). largest_from (largest_rows points t) points g) (λ i u. largest_in n n (λ a b. cnorm (entry_at xs (in_row t u a b i))))
      ∙ unfold largest_in fold in refl ∙ ap (largest_rows points) (sym (add-one t))

  pub block-numbers : (t u : ℕ) → largest_from plus_zero (n * n) (λ k. cnorm (entry_at xs (2 * ((t * capacity + u) * (n * n) + k)))) ≡ matrix_norm_max n n (read_as capacity n xs t u)
  unfolding matrix_norm_max
  block-numbers t u =
      largest_in_lem n n (λ k. cnorm (entry_at xs (2 * ((t * capacity + u) * (n * n) + k))))
      ∙ ap (λ (g : ℕ → ℕ → Float). largest_in n n g) (λ i a b. cnorm (entry_at xs (stands t u a b i)))
