-- Products of blocks by the places of their numbers in lists. Assumes nothing.
use Rattle.std.specs.Prelude.{◌≡◌, ◌+◌, ◌*◌, ◌≤◌, ◌<◌}
use Rattle.lists.specs.Prelude.{refl, ap, ap₂, true, List, ℕ, arith, leb, leb-true, length, Float}
use Rattle.lists.specs.Agreement.{both}
use Rattle.complex.specs.declared.Complex.{Complex}
use Rattle.complex.specs.Arithmetic.{czero, cmul, conj}
use Rattle.complex.specs.Numbers.{entry_at}
use Rattle.complex.specs.Sum.{sum_from}
use Rattle.complex.specs.Agreement.{sum_agree}
use Rattle.block.specs.Block.{entries_in}
use Rattle.block.specs.Operations.{product, adjoint}
use Rattle.two_time.specs.Layout.{place, read_as, length_of}
use Rattle.two_time.specs.Places.{Placed, within}
use Rattle.two_time.specs.Start.{holds_block}
use Rattle.terms.specs.declared.Factor.TheVariants.{Stored, Adjoint}
use Rattle.terms.specs.Kinds.{right_number}
use Rattle.starts.specs.declared.Right.{Right}

-- a row of the left factor, whose first number stands at i, times a column
abbrev pub dot : ℕ → List Float → ℕ → (ℕ → Complex) → Complex
dot n left i y = sum_from czero (λ k. cmul (entry_at left (i + 2 * k)) (y k)) 0 n

-- number (k, b) of the right factor of place p
abbrev pub right_at : Right → List Float → ℕ → ℕ → ℕ → Complex
right_at columns right p b k = right_number columns.factor (entry_at right (columns.first + p * columns.next + b * columns.beside + k * columns.below))

-- a slice that holds a block
pub block_held : (n : ℕ) (xs : List Float) → holds_block n xs ≡ true → 2 * (n * n) ≤ length xs
unfolding holds_block
block_held n xs h = leb-true (2 * (n * n)) (length xs) (both (leb n 16) (leb (2 * (n * n)) (length xs)) h).1

-- how a block g0 stands, and how the adjoints of G^R(u,0), G^R(u + 1,0), .. do
abbrev pub stored_block : ℕ → Right
stored_block n = record { factor = Stored; first = 0; next = 0; beside = 2; below = 2 * n }

abbrev pub adjoint_column : ℕ → ℕ → ℕ → Right
adjoint_column points n u =
    record { factor = Adjoint; first = u * (points * (2 * n * n)); next = points * (2 * n * n); beside = 2 * n; below = 2 }

module _ (points n : ℕ) where
  -- G^R(t,0)·g0
  pub first-product : (retarded g0 : List Float) (t p a b : ℕ)
      → dot n retarded (t * (points * (2 * n * n)) + a * (2 * n)) (right_at (stored_block n) g0 p b) ≡ product n (read_as points n retarded t 0) (entries_in n g0) a b
  unfolding product right_number
  first-product retarded g0 t p a b = sum_agree czero czero _ _ 0 n refl (λ k hk. ap₂ cmul (ap (entry_at retarded) (left (0 + k))) (ap (entry_at g0) (right (0 + k))))
    where
      left : (k : ℕ) → t * (points * (2 * n * n)) + a * (2 * n) + 2 * k ≡ place points n t 0 a k
      left k = omega arith

      right : (k : ℕ) → 0 + p * 0 + b * 2 + k * (2 * n) ≡ 2 * (k * n + b)
      right k = omega arith

  -- that times G^A(0,u + p)
  pub start-product : (filled retarded : List Float) (u p a b : ℕ)
      → dot n filled (0 + a * (2 * n)) (right_at (adjoint_column points n u) retarded p b) ≡ product n (entries_in n filled) (adjoint (read_as points n retarded (u + p) 0)) a b
  unfolding product adjoint right_number
  start-product filled retarded u p a b =
      sum_agree czero czero _ _ 0 n refl (λ k hk. ap₂ cmul (ap (entry_at filled) (left (0 + k))) (ap (λ (i : ℕ). conj (entry_at retarded i)) (right (0 + k))))
    where
      left : (k : ℕ) → 0 + a * (2 * n) + 2 * k ≡ 2 * (a * n + k)
      left k = omega arith

      right : (k : ℕ) → u * (points * (2 * n * n)) + p * (points * (2 * n * n)) + b * (2 * n) + k * 2 ≡ place points n (u + p) 0 b k
      right k = omega arith

  -- where its numbers stand
  pub adjoint-inside : (len u places : ℕ) → points ≤ 256 → n ≤ 16 → u + places ≤ points → len ≡ length_of points n → (p b k : ℕ) → p < places → b < n → k < n
      → u * (points * (2 * n * n)) + p * (points * (2 * n * n)) + b * (2 * n) + k * 2 + 1 < len
  adjoint-inside len u places hp hn fit long p b k l hb hk =
      let at : Placed points n (u + p) 0 b k = record { first = omega arith; second = omega arith; row = hb; column = hk; stride_most = hp; orbitals-most = hn } in
      omega (arith, (within at).inside)
