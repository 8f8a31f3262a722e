-- Document 01, convolutions: "Each term is product, then scale, then add, s ascending". Every sum over times is this one, and beside its
-- value stands whether every block made for it is finite.
use Rattle.std.specs.Prelude.{◌+◌, ◌&&◌}
use Rattle.lists.specs.Prelude.{ℕ, suc, Bool, Float}
use Rattle.lists.specs.Indexed.{all_below}
use Rattle.complex.specs.Arithmetic.{real, cfinite}
use Rattle.complex.specs.Sum.{sum_from}
use Rattle.block.specs.Block.{Entries}
use Rattle.block.specs.Operations.{product, scaled}

-- a sum over s = from, from + 1, .., `count` of them: what it starts at, and the weight and the two factors of each term
pub record Terms : Type 0 where
  pub start : Entries
  pub weight : ℕ → Float
  pub left : ℕ → Entries
  pub right : ℕ → Entries
  pub from : ℕ
  pub count : ℕ

-- the product of term s, and that product scaled by its weight
unfoldable pub product_at : ℕ → Terms → ℕ → Entries
product_at orbitals x s = product orbitals (x.left s) (x.right s)

unfoldable pub term_at : ℕ → Terms → ℕ → Entries
term_at orbitals x s = scaled (real (x.weight s)) (product_at orbitals x s)

-- entry (a, b) after the first k terms
unfoldable pub partial_sum : ℕ → Terms → ℕ → Entries
partial_sum orbitals x k a b = sum_from (x.start a b) (λ s. term_at orbitals x s a b) x.from k

-- the sum
unfoldable pub weighted_sum : ℕ → Terms → Entries
weighted_sum orbitals x = partial_sum orbitals x x.count

-- entry (a, b) of every product, scaled product and running sum is finite (check 10)
unfoldable pub finite_sum : ℕ → Terms → ℕ → ℕ → Bool
finite_sum orbitals x a b =
    all_below x.count
    (λ k. cfinite (product_at orbitals x (x.from + k) a b) && (cfinite (term_at orbitals x (x.from + k) a b) && cfinite (partial_sum orbitals x (suc k) a b)))
