-- Whether the sum at a place has s, and by what weight, told by the kind of sums and where the place lies. Assumes nothing.
use Rattle.std.specs.Prelude.{◌≡◌, ◌&&◌, ◌+◌, ◌≤◌, ◌<◌}
use Rattle.lists.specs.Prelude.{refl, ap, Bool, true, List, ℕ, dec_lt, arith, leb, ltb, Float, le-leb, lt-leb, lt-ltb, le-ltb, ne_eqb}
use Rattle.lists.specs.Agreement.{never}
use Rattle.block.specs.Operations.{product}
use Rattle.grid.specs.Weights.{interval_weight}
use Rattle.two_time.specs.declared.sums.Sums.{Sums}
use Rattle.two_time.specs.declared.sums.Sums.TheVariants.{Full, Causal, LesserAdvanced, Lesser, AntiCausal}
use Rattle.two_time.specs.Layout.{TwoTime}
use Rattle.two_time.specs.WeightedSum.{Terms}
use Rattle.two_time.specs.Sums.{interval_count, terms_at}
use Rattle.two_time.specs.Intervals.{interval_count_lem}
use Rattle.terms.specs.Kinds.{right_by, factor_of, lanes_below, lanes_above, lanes_here, common_weight, end_weight, Reaches}

-- a point after the start has a weight that does not depend on the start, and one before the end one that does not depend on the end
after-start : (times : List Float) (s u v t : ℕ) → u < s → v < s → s ≤ t → interval_weight times s u t ≡ interval_weight times s v t
unfolding interval_weight
after-start times s u v t hu hv ht =
    rw (lt-leb t u (omega arith), le-ltb s u (omega arith), le-ltb t s ht, ne_eqb s u (λ e. omega arith), lt-leb t v (omega arith), le-ltb s v (omega arith), ne_eqb s v (λ e. omega arith))

before-end : (times : List Float) (s t u v : ℕ) → t ≤ s → s < u → s < v → interval_weight times s t u ≡ interval_weight times s t v
unfolding interval_weight
before-end times s t u v ht hu hv =
    rw (lt-leb u t (omega arith), le-ltb s t ht, le-ltb u s (omega arith), ne_eqb s u (λ e. omega arith), lt-leb v t (omega arith), le-ltb v s (omega arith), ne_eqb s v (λ e. omega arith))

module _ (points t u s : ℕ) (times : List Float) (x y : TwoTime) where
  -- the terms of a kind at (t, u)
  abbrev at : Sums → Terms
  at sums = terms_at sums points times x y t u

  -- s is one of the sum's
  abbrev pub held_by : Sums → Bool
  held_by sums = leb (at sums).from s && ltb s ((at sums).from + (at sums).count)

  -- the product of its term s
  pub product_is : (sums : Sums) (n a b : ℕ) → product n ((at sums).left s) ((at sums).right s) a b ≡ product n (x t s) (right_by (factor_of sums) y s u) a b
  unfolding terms_at factor_of right_by
  product_is Full n a b = refl
  product_is Causal n a b = refl
  product_is LesserAdvanced n a b = refl
  product_is Lesser n a b = refl
  product_is AntiCausal n a b = refl

  module _ (hs : s < points) where
    -- at a place before s
    pub held_below : (sums : Sums) → Reaches sums t s → u < s → held_by sums ≡ lanes_below sums
    unfolding terms_at lanes_below Reaches
    held_below Full r h = rw (le-leb 0 s (omega arith), lt-ltb s (0 + points) (omega arith))
    held_below Causal r h = rw (le-leb u s (omega arith), lt-ltb s (u + interval_count u t) (omega (arith, interval_count_lem u t)))
    held_below LesserAdvanced r h = rw (le-leb 0 s (omega arith), le-ltb s (0 + interval_count 0 u) (omega (arith, interval_count_lem 0 u)))
    held_below Lesser r h = rw (le-leb 0 s (omega arith), lt-ltb s (0 + interval_count 0 t) (omega (arith, r.0, r.1, interval_count_lem 0 t)))
    held_below AntiCausal r h = rw (le-leb t s r, le-ltb s (t + interval_count t u) (omega (arith, interval_count_lem t u)))

    pub weight-below : (sums : Sums) → Reaches sums t s → u < s → lanes_below sums ≡ true → (at sums).weight s ≡ common_weight sums times points t s
    unfolding terms_at lanes_below Reaches common_weight
    weight-below Full r h e = refl
    weight-below Causal r h e = after-start times s u 0 t h (omega arith) r
    weight-below LesserAdvanced r h e = never e
    weight-below Lesser r h e = refl
    weight-below AntiCausal r h e = never e

    -- at a place after s
    pub held-above : (sums : Sums) → Reaches sums t s → s < u → held_by sums ≡ lanes_above sums
    unfolding terms_at lanes_above Reaches
    held-above Full r h = rw (le-leb 0 s (omega arith), lt-ltb s (0 + points) (omega arith))
    held-above Causal r h = rw (lt-leb u s h)
    held-above LesserAdvanced r h = rw (le-leb 0 s (omega arith), lt-ltb s (0 + interval_count 0 u) (omega (arith, interval_count_lem 0 u)))
    held-above Lesser r h = rw (le-leb 0 s (omega arith), lt-ltb s (0 + interval_count 0 t) (omega (arith, r.0, r.1, interval_count_lem 0 t)))
    held-above AntiCausal r h = rw (le-leb t s r, lt-ltb s (t + interval_count t u) (omega (arith, interval_count_lem t u)))

    pub weight-above : (sums : Sums) → Reaches sums t s → s < u → lanes_above sums ≡ true → (at sums).weight s ≡ common_weight sums times points t s
    unfolding terms_at lanes_above Reaches common_weight
    weight-above Full r h e = refl
    weight-above Causal r h e = never e
    weight-above LesserAdvanced r h e = before-end times s 0 u (s + 1) (omega arith) h (omega arith)
    weight-above Lesser r h e = refl
    weight-above AntiCausal r h e = before-end times s t u (s + 1) r h (omega arith)

    -- at place s; an interval that is s alone has no term
    pub held-here : (sums : Sums) → Reaches sums t s → u ≡ s → held_by sums ≡ lanes_here sums t s
    unfolding terms_at lanes_here Reaches
    held-here Full r h = rw (le-leb 0 s (omega arith), lt-ltb s (0 + points) (omega arith))
    held-here Causal r h =
        elim (dec_lt s t) [
          | yes l ↦ rw (lt-ltb s t l, le-leb u s (omega arith), lt-ltb s (u + interval_count u t) (omega (arith, interval_count_lem u t)))
          | no l ↦ rw (le-ltb s t (let k : t ≤ s = omega arith in k), le-leb u s (omega arith), le-ltb s (u + interval_count u t) (omega (arith, interval_count_lem u t)))
        ]
    held-here LesserAdvanced r h =
        elim (dec_lt 0 s) [
          | yes l ↦ rw (lt-ltb 0 s l, le-leb 0 s (omega arith), lt-ltb s (0 + interval_count 0 u) (omega (arith, interval_count_lem 0 u)))
          | no l ↦ rw (le-ltb 0 s (let k : s ≤ 0 = omega arith in k), le-leb 0 s (omega arith), le-ltb s (0 + interval_count 0 u) (omega (arith, interval_count_lem 0 u)))
        ]
    held-here Lesser r h = rw (le-leb 0 s (omega arith), lt-ltb s (0 + interval_count 0 t) (omega (arith, r.0, r.1, interval_count_lem 0 t)))
    held-here AntiCausal r h =
        elim (dec_lt t s) [
          | yes l ↦ rw (lt-ltb t s l, le-leb t s r, lt-ltb s (t + interval_count t u) (omega (arith, interval_count_lem t u)))
          | no l ↦ rw (le-ltb t s (let k : s ≤ t = omega arith in k), le-leb t s r, le-ltb s (t + interval_count t u) (omega (arith, interval_count_lem t u)))
        ]

    pub weight-here : (sums : Sums) → u ≡ s → (at sums).weight s ≡ end_weight sums times points t s
    unfolding terms_at end_weight
    weight-here Full h = refl
    weight-here Causal h = ap (λ (v : ℕ). interval_weight times s v t) h
    weight-here LesserAdvanced h = ap (λ (v : ℕ). interval_weight times s 0 v) h
    weight-here Lesser h = refl
    weight-here AntiCausal h = ap (λ (v : ℕ). interval_weight times s t v) h
