-- The weights of an interval read the times of the interval alone. Assumes nothing.
use Rattle.std.specs.Prelude.{◌≡◌, ◌||◌, ◌+◌, ◌-◌, ◌≤◌}
use Rattle.lists.specs.Prelude.{refl, List, ℕ, arith, leb, ltb, eqb, get_or, Float, nan, eqb-false}
use Rattle.lists.specs.Agreement.{cond_agree}
use Rattle.grid.specs.Weights.{half_step, interval_weight}
use Rattle.grid.specs.Inside.{inside}

-- the times agree up to point e
abbrev pub AgreeTo : ℕ → List Float → List Float → Type 0
AgreeTo e times times' = (i : ℕ) → i ≤ e → get_or times i nan ≡ get_or times' i nan

module _ (times times' : List Float) where
  step_agree : (i j : ℕ) → get_or times i nan ≡ get_or times' i nan → get_or times j nan ≡ get_or times' j nan → half_step times i j ≡ half_step times' i j
  unfolding half_step
  step_agree i j p q = rw (p, q)

  pub weight_agree : (p s e : ℕ) → AgreeTo e times times' → s ≤ p → p ≤ e → interval_weight times p s e ≡ interval_weight times' p s e
  unfolding interval_weight
  weight_agree p s e h lo hi =
      cond_agree (leb e s || (ltb p s || ltb e p)) _ _ _ _ (λ _. refl)
      (λ h'.
      let within = inside p s e h' in
      cond_agree (eqb p s) _ _ _ _ (λ _. step_agree (s + 1) s (h (s + 1) (omega arith)) (h s (omega arith)))
      (λ _. cond_agree (eqb p e) _ _ _ _ (λ _. step_agree e (e - 1) (h e (omega arith)) (h (e - 1) (omega arith)))
      (λ ne.
      let not_end : p ≡ e → ⊥ = eqb-false p e ne in
      step_agree (p + 1) (p - 1) (h (p + 1) (omega arith)) (h (p - 1) (omega arith)))))
