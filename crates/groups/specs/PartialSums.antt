-- A sum over times by the steps of a loop over s that serves many sums: each takes the steps that lie in its interval. Assumes nothing.
use Rattle.std.specs.Prelude.{◌≡◌, ◌&&◌, ◌+◌, ◌-◌, ◌≤◌, ◌<◌}
use Rattle.lists.specs.Prelude.{refl, sym, ap, ◌∙◌, Bool, true, false, cond, List, ℕ, min, arith, leb, ltb, Float, leb-true, leb-false}
use Rattle.lists.specs.Prelude.{ltb-true, ltb-false}
use Rattle.complex.specs.declared.Complex.{Complex}
use Rattle.complex.specs.Arithmetic.{real, cadd, cmul}
use Rattle.block.specs.Operations.{product, scaled}
use Rattle.two_time.specs.declared.sums.Sums.{Sums}
use Rattle.two_time.specs.WeightedSum.{Terms, product_at, term_at, partial_sum, weighted_sum}
use Rattle.two_time.specs.Layout.{read_as}
use Rattle.two_time.specs.Sums.{terms_at}
use Rattle.two_time.specs.OneTest.{partial_none, partial_more}

-- a sum that begins with what it is given
abbrev pub begun : Complex → Terms → Terms
begun first x = record { start = λ a b. first; weight = x.weight; left = x.left; right = x.right; from = x.from; count = x.count }

-- the terms at (t, u) of a kind of sums
abbrev pub terms_of : Sums → ℕ → ℕ → ℕ → List Float → List Float → List Float → ℕ → ℕ → Complex → Terms
terms_of sums points stride n times left right t u first = begun first (terms_at sums points times (read_as stride n left) (read_as stride n right) t u)

-- s is one of the sum's
unfoldable pub held : Terms → ℕ → Bool
held x s = leb x.from s && ltb s (x.from + x.count)

-- how many terms it has before s
abbrev pub passed : Terms → ℕ → ℕ
passed x s = min (s - x.from) x.count

-- what step s makes of a total
unfoldable pub added : ℕ → Terms → ℕ → ℕ → ℕ → Complex → Complex
added n x s a b z = cond (held x s) (cadd z (term_at n x s a b)) z

-- entry (a, b) after the steps before s
unfoldable pub partial_at : ℕ → Terms → ℕ → ℕ → ℕ → Complex
partial_at n x s a b = partial_sum n x (passed x s) a b

module _ (n : ℕ) (x : Terms) (a b : ℕ) where
  -- before its first
  pub steps-none : (s : ℕ) → s ≤ x.from → partial_at n x s a b ≡ x.start a b
  unfolding partial_at
  steps-none s h = ap (λ (k : ℕ). partial_sum n x k a b) (let e : passed x s ≡ 0 = omega arith in e) ∙ partial_none n x a b

  -- after its last
  pub steps_all : (s : ℕ) → x.count ≤ s - x.from → partial_at n x s a b ≡ weighted_sum n x a b
  unfolding partial_at weighted_sum
  steps_all s h = ap (λ (k : ℕ). partial_sum n x k a b) (let e : passed x s ≡ x.count = omega arith in e)

  step_in : (s : ℕ) → x.from ≤ s → s < x.from + x.count → partial_at n x (s + 1) a b ≡ cadd (partial_at n x s a b) (term_at n x s a b)
  unfolding partial_at term_at product_at scaled
  step_in s h l =
      let k = s - x.from in
      let one : passed x (s + 1) ≡ k + 1 = omega arith in
      let now : passed x s ≡ k = omega arith in
      let at : x.from + k ≡ s = omega arith in
      ap (λ (m : ℕ). partial_sum n x m a b) one ∙ partial_more n x a b k
      ∙ ap (λ (m : ℕ). cadd (partial_sum n x k a b) (cmul (product n (x.left m) (x.right m) a b) (real (x.weight m)))) at
      ∙ ap (λ (m : ℕ). cadd (partial_sum n x m a b) (cmul (product n (x.left s) (x.right s) a b) (real (x.weight s)))) (sym now)

  step-out : (s : ℕ) → passed x (s + 1) ≡ passed x s → partial_at n x (s + 1) a b ≡ partial_at n x s a b
  unfolding partial_at
  step-out s e = ap (λ (m : ℕ). partial_sum n x m a b) e

  -- one more step
  pub steps-more : (s : ℕ) → partial_at n x (s + 1) a b ≡ added n x s a b (partial_at n x s a b)
  unfolding added held
  steps-more s = by_flags (leb x.from s) (ltb s (x.from + x.count)) refl refl
    where
      by_flags : (p q : Bool) → leb x.from s ≡ p → ltb s (x.from + x.count) ≡ q
          → partial_at n x (s + 1) a b ≡ cond (leb x.from s && ltb s (x.from + x.count)) (cadd (partial_at n x s a b) (term_at n x s a b)) (partial_at n x s a b)
      by_flags true true e f = rw (e, f) (step_in s (leb-true _ _ e) (ltb-true _ _ f))
      by_flags true false e f = rw (e, f) (step-out s (let h = ltb-false s (x.from + x.count) f in let g = leb-true x.from s e in omega arith))
      by_flags false q e f = rw e (step-out s (let h = leb-false x.from s e in omega arith))

-- a step does not ask where the sum starts
pub added-start : (sums : Sums) (points stride n : ℕ) (times left right : List Float) (t u : ℕ) (y y' : Complex) (s a b : ℕ) (z : Complex)
    → added n (terms_of sums points stride n times left right t u y) s a b z ≡ added n (terms_of sums points stride n times left right t u y') s a b z
unfolding added held term_at product_at
added-start sums points stride n times left right t u y y' s a b z = refl
