-- Document 01, "Arithmetic under everything": "a sum starts at +0+0i and adds in index order". Every sum of the document is this one.
use Rattle.std.specs.Prelude.{◌+◌}
use Rattle.lists.specs.Prelude.{ℕ, Float}
use Rattle.lists.specs.Indexed.{fold}
use Rattle.complex.specs.declared.Complex.{Complex}
use Rattle.complex.specs.Arithmetic.{cadd, czero, larger, plus_zero}

-- start + f from + f (from + 1) + .., count terms, added in that order
unfoldable pub sum_from : Complex → (ℕ → Complex) → ℕ → ℕ → Complex
sum_from start f from count = fold count (λ k s. cadd s (f (from + k))) start

-- f 0 + f 1 + .. + f (n - 1), from +0+0i
abbrev pub sum : ℕ → (ℕ → Complex) → Complex
sum n f = sum_from czero f 0 n

-- the largest of m, f 0, f 1, .., f (n - 1), by `f64::max` in that order
unfoldable pub largest_from : Float → ℕ → (ℕ → Float) → Float
largest_from m n f = fold n (λ k l. larger l (f k)) m

-- the largest of all f a b, rows first. Every maximum of the document begins at +0.
unfoldable pub largest_in : ℕ → ℕ → (ℕ → ℕ → Float) → Float
largest_in rows columns f = fold rows (λ a m. largest_from m columns (f a)) plus_zero
