-- The factors of a product that is finite are finite, and so are those of each term of a sum over times that is finite on the way. Assumes nothing.
use Rattle.std.specs.Prelude.{◌≡◌, ◌&&◌, ◌+◌, ◌-◌, ◌≤◌, ◌<◌}
use Rattle.lists.specs.Prelude.{sym, ap, ◌∙◌, true, ℕ, zero, suc, zero-add, ⊎_elim, eq-or-lt_of_le, arith, eqb, ne_eqb}
use Rattle.lists.specs.Indexed.{fold}
use Rattle.lists.specs.Agreement.{both, other, all-each}
use Rattle.complex.specs.declared.Complex.{Complex}
use Rattle.complex.specs.Arithmetic.{czero, cmul, cfinite}
use Rattle.complex.specs.Sum.{sum_from}
use Rattle.complex.specs.Finite.{cadd-finite, cmul-finite}
use Rattle.block.specs.Block.{Entries}
use Rattle.block.specs.Operations.{product}
use Rattle.two_time.specs.WeightedSum.{Terms, product_at, term_at, partial_sum, weighted_sum, finite_sum}
use Rattle.two_time.specs.OneTest.{one_test}

-- every entry of an n by n block is finite
abbrev pub FiniteBlock : ℕ → Entries → Type 0
FiniteBlock n x = (a b : ℕ) → a < n → b < n → cfinite (x a b) ≡ true

-- each term of a sum that is finite is finite
term-finite : (m : ℕ) (f : ℕ → Complex) → cfinite (sum_from czero f 0 m) ≡ true → (k : ℕ) → k < m → cfinite (f k) ≡ true
unfolding sum_from fold
term-finite zero f h k l = absurd (omega arith)
term-finite (suc m) f h k l =
    let s = cadd-finite (sum_from czero f 0 m) (f (0 + m)) h in
    ⊎_elim (λ e. ap (λ (i : ℕ). cfinite (f i)) (e ∙ sym (zero-add m)) ∙ s.1) (λ less. term-finite m f s.0 k less) (eq-or-lt_of_le (let w : k ≤ m = omega arith in w))

module _ (n : ℕ) (x y : Entries) where
  entry_factors : (a b k : ℕ) → k < n → cfinite (product n x y a b) ≡ true → (cfinite (x a k) ≡ true) × (cfinite (y k b) ≡ true)
  unfolding product
  entry_factors a b k hk h = cmul-finite (x a k) (y k b) (term-finite n (λ i. cmul (x a i) (y i b)) h k hk)

  pub factors_finite : FiniteBlock n (product n x y) → FiniteBlock n x × FiniteBlock n y
  factors_finite h = (λ a k ha hk. (entry_factors a k k hk (h a k ha hk)).0, λ k b hk hb. (entry_factors k b k hk (h k b hk hb)).1)

-- a sum over times that is finite on the way: both factors of each term, and its value where it has a term
module _ (n : ℕ) (x : Terms) (h : (a b : ℕ) → a < n → b < n → finite_sum n x a b ≡ true) where
  pub terms-finite : (s : ℕ) → x.from ≤ s → s < x.from + x.count → FiniteBlock n (x.left s) × FiniteBlock n (x.right s)
  unfolding finite_sum product_at
  terms-finite s lo hi =
      let k : ℕ = s - x.from in
      let at : x.from + k ≡ s = omega arith in
      factors_finite n (x.left s) (x.right s)
      (λ a b ha hb.
      ap (λ (i : ℕ). cfinite (product n (x.left i) (x.right i) a b)) (sym at)
      ∙ (both (cfinite (product_at n x (x.from + k) a b)) (cfinite (term_at n x (x.from + k) a b) && cfinite (partial_sum n x (suc k) a b)) (all-each x.count _ (h a b ha hb) k (omega arith))).0)

  pub sum-finite : 0 < x.count → FiniteBlock n (weighted_sum n x)
  sum-finite some a b ha hb = other (eqb x.count 0) (cfinite (weighted_sum n x a b)) (sym (one_test n x a b) ∙ h a b ha hb) (ne_eqb x.count 0 (λ e. omega arith))
