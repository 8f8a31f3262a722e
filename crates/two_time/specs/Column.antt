-- G^R(·,0) is finite where Dyson's work at new places is: an old entry of that column is a factor of a new one. So what L5 starts from reads nothing that is
-- not finite after Dyson passed check 10. Assumes nothing.
use Rattle.std.specs.Prelude.{◌≡◌, ◌≤◌, ◌<◌}
use Rattle.lists.specs.Prelude.{ap, ◌∙◌, true, List, ℕ, le_refl, dec_lt, arith, Float}
use Rattle.complex.specs.Arithmetic.{cfinite}
use Rattle.block.specs.Agreement.{Agree}
use Rattle.two_time.specs.Layout.{TwoTime}
use Rattle.two_time.specs.WeightedSum.{weighted_sum, finite_sum}
use Rattle.two_time.specs.Sums.{dyson_terms}
use Rattle.two_time.specs.OneTest.{partial_none}
use Rattle.two_time.specs.Factors.{FiniteBlock, terms-finite, sum-finite}

-- g is Dyson's sum from `old` on, and whatever it is before; all that is made at its new places of column 0 is finite, and so is free(0,0) where that is one
module _ (n : ℕ) (times : List Float) (free kernel g : TwoTime) (old points : ℕ) (some : old < points)
    (sum : (t : ℕ) → old ≤ t → t < points → Agree n (g t 0) (weighted_sum n (dyson_terms times free kernel g t 0)))
    (made : (t : ℕ) → old ≤ t → t < points → (a b : ℕ) → a < n → b < n → finite_sum n (dyson_terms times free kernel g t 0) a b ≡ true)
    (first : old ≡ 0 → FiniteBlock n (free 0 0)) where
  new_finite_lem : (t : ℕ) → old ≤ t → t < points → FiniteBlock n (g t 0)
  unfolding weighted_sum
  new_finite_lem t lo hi a b ha hb =
      elim (dec_lt 0 t) [
        | yes l ↦ ap cfinite (sum t lo hi a b ha hb) ∙ sum-finite n (dyson_terms times free kernel g t 0) (made t lo hi) (omega arith) a b ha hb
        | no l ↦
            (let zero : t ≡ 0 = omega arith in let begins : old ≡ 0 = omega arith in
            ap (λ (s : ℕ). cfinite (g s 0 a b)) zero ∙ ap cfinite (sum 0 (omega arith) (omega arith) a b ha hb ∙ partial_none n (dyson_terms times free kernel g 0 0) a b) ∙ first begins a b ha hb)
      ]

  pub column-finite : (t : ℕ) → t < points → FiniteBlock n (g t 0)
  column-finite t hi =
      elim (dec_lt t old) [
        | yes l ↦ (terms-finite n (dyson_terms times free kernel g old 0) (made old (le_refl old) some) t (omega arith) (omega arith)).1
        | no l ↦ new_finite_lem t (omega arith) hi
      ]
