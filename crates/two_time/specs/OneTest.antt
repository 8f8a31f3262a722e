-- A sum over times by its running sums: one more term, and that one test at its end tests every block made for it. Assumes nothing.
use Rattle.std.specs.Prelude.{◌≡◌, ◌&&◌, ◌||◌, ◌+◌}
use Rattle.lists.specs.Prelude.{refl, sym, ap, ◌∙◌, Bool, and-false, true, false, ℕ, zero, suc, le_refl, add-one, arith, eqb, eqb-true, ne_eqb}
use Rattle.lists.specs.Indexed.{fold, all_below}
use Rattle.complex.specs.Arithmetic.{real, cadd, cmul, cfinite}
use Rattle.complex.specs.Sum.{sum_from}
use Rattle.complex.specs.Finite.{cadd-finite, cmul-finite}
use Rattle.block.specs.Operations.{product, scaled}
use Rattle.refusal.specs.Search.{all-no}
use Rattle.two_time.specs.WeightedSum.{Terms, product_at, term_at, partial_sum, weighted_sum, finite_sum}

last_false : (p q : Bool) → p && (q && false) ≡ false
last_false true true = refl
last_false true false = refl
last_false false q = refl

module _ (n : ℕ) (x : Terms) (a b : ℕ) where
  -- no term, and one more
  pub partial_none : partial_sum n x 0 a b ≡ x.start a b
  unfolding partial_sum sum_from fold
  partial_none = refl

  pub partial_more : (k : ℕ) → partial_sum n x (k + 1) a b
      ≡ cadd (partial_sum n x k a b) (cmul (product n (x.left (x.from + k)) (x.right (x.from + k)) a b) (real (x.weight (x.from + k))))
  unfolding partial_sum sum_from fold term_at product_at scaled
  partial_more k = rw add-one

  -- the running sum after k terms is finite; all that is made for term k is
  abbrev ended : ℕ → Bool
  ended k = cfinite (partial_sum n x k a b)

  abbrev step : ℕ → Bool
  step k = cfinite (product_at n x (x.from + k) a b) && (cfinite (term_at n x (x.from + k) a b) && ended (suc k))

  to_here : (k : ℕ) → ended (suc k) ≡ true → (ended k ≡ true) × (step k ≡ true)
  unfolding partial_sum sum_from fold term_at scaled
  to_here k h =
      let s = x.from + k in
      let sum = cadd-finite (partial_sum n x k a b) (term_at n x s a b) h in
      let term = cmul-finite (product_at n x s a b) (real (x.weight s)) sum.1 in
      (sum.0, rw (term.0, sum.1, h))

  steps : (k : ℕ) → ended k ≡ true → all_below k step ≡ true
  unfolding all_below
  steps zero h = refl
  steps (suc k) h = let p = to_here k h in rw (steps k p.0, p.1)

  up_to : (k : ℕ) → all_below k step ≡ eqb k 0 || ended k
  unfolding all_below
  up_to zero = refl
  up_to (suc k) = by_flag (ended (suc k)) refl ∙ rw (ne_eqb (suc k) 0 (λ e. omega arith))
    where
      by_flag : (c : Bool) → ended (suc k) ≡ c → all_below (suc k) step ≡ ended (suc k)
      by_flag true e = steps (suc k) e ∙ sym e
      by_flag false e = all-no step (suc k) k (le_refl (suc k)) (rw e (last_false (cfinite (product_at n x (x.from + k) a b)) (cfinite (term_at n x (x.from + k) a b)))) ∙ sym e

  pub one_test : finite_sum n x a b ≡ eqb x.count 0 || cfinite (weighted_sum n x a b)
  unfolding finite_sum weighted_sum
  one_test = up_to x.count

  -- the first value is finite where a later one is
  from_start : (k : ℕ) → ended k ≡ true → cfinite (x.start a b) ≡ true
  from_start zero h = sym (ap cfinite partial_none) ∙ h
  from_start (suc k) h = from_start k (to_here k h).0

  -- so the last value tests the start too
  pub started_test : cfinite (x.start a b) && finite_sum n x a b ≡ cfinite (weighted_sum n x a b)
  unfolding weighted_sum
  started_test = ap (λ (f : Bool). cfinite (x.start a b) && f) one_test ∙ by_flags (ended x.count) (eqb x.count 0) refl refl
    where
      by_flags : (c e : Bool) → ended x.count ≡ c → eqb x.count 0 ≡ e → cfinite (x.start a b) && (eqb x.count 0 || ended x.count) ≡ ended x.count
      by_flags true true h g = rw (g, h, from_start x.count h)
      by_flags true false h g = rw (g, h, from_start x.count h)
      by_flags false true h g =
          let start : cfinite (x.start a b) ≡ false = ap cfinite (sym partial_none) ∙ ap ended (sym (eqb-true x.count 0 g)) ∙ h in
          rw start (sym h)
      by_flags false false h g = rw (g, h) (and-false (cfinite (x.start a b)))
