-- Document 02, L7: "The other six still equal the Rust's; the seventh is ours, and the question, line 8 passed, says yes exactly when the Rust does
-- and the seventh is at most the tolerance." The question over six stands here alone. Assumes nothing.
use Rattle.std.specs.Prelude.{Result, Ok, Err, ◌≡◌, ◌&&◌}
use Rattle.lists.specs.Prelude.{refl, sym, ap, ap₂, ◌∙◌, Bool, true, false, and_assoc, arith, ℕ, Float, le}
use Rattle.lists.specs.Agreement.{both}
use Rattle.refusal.specs.declared.Refusal.{Refusal}
use Rattle.refusal.specs.Verdict.{pass, Verdict, decide}
use Rattle.refusal.specs.Checks.{valid_tolerance}
use Rattle.report.specs.declared.ConsistencyReport.{ConsistencyReport}
use Rattle.report.specs.Calls.{is_consistent}

-- document 01: "`is_consistent`: all six at most the tolerance", after 8
abbrev six_within : ConsistencyReport → Float → Bool
six_within x tolerance =
    le x.retarded_causality tolerance && (le x.advanced_causality tolerance && (le x.advanced_adjoint tolerance
    && (le x.lesser_antihermiticity tolerance && (le x.greater_antihermiticity tolerance && le x.spectral_identity tolerance))))

unfoldable pub consistent_before : ConsistencyReport → Float → Result Bool Refusal
consistent_before x tolerance = decide (valid_tolerance tolerance) (six_within x tolerance)

-- who says yes was asked with a valid tolerance, and the test held
yes_said : (v : Verdict) (b : Bool) → decide v b ≡ Ok true → (v ≡ pass) × (b ≡ true)
unfolding decide
yes_said (Ok tt) true e = (refl, refl)
yes_said (Ok tt) false e = absurd (let z : ◌≡◌ {A = ℕ} 0 1 = cc in omega arith)
yes_said (Err r) b e = absurd (let z : ◌≡◌ {A = ℕ} 0 1 = cc in omega arith)

module _ (x : ConsistencyReport) (tolerance : Float) where
  seven : is_consistent x tolerance ≡ decide (valid_tolerance tolerance) (six_within x tolerance && le x.equal_time tolerance)
  unfolding is_consistent
  seven = ap (decide (valid_tolerance tolerance)) (simp and_assoc)

  -- "says yes exactly when the Rust does and the seventh is at most the tolerance"
  pub yes_of-seven : is_consistent x tolerance ≡ Ok true → (consistent_before x tolerance ≡ Ok true) × (le x.equal_time tolerance ≡ true)
  unfolding consistent_before decide
  yes_of-seven e =
      let said = yes_said (valid_tolerance tolerance) _ (sym seven ∙ e) in
      let within = both (six_within x tolerance) _ said.1 in
      (ap₂ decide said.0 within.0, within.1)

  pub yes_of_six : consistent_before x tolerance ≡ Ok true → le x.equal_time tolerance ≡ true → is_consistent x tolerance ≡ Ok true
  unfolding consistent_before decide
  yes_of_six e h = let said = yes_said (valid_tolerance tolerance) (six_within x tolerance) e in seven ∙ ap₂ decide said.0 (ap₂ ◌&&◌ said.1 h)

  -- line 8 refuses both alike
  pub refused_alike : {r : Refusal} → valid_tolerance tolerance ≡ Err r → (is_consistent x tolerance ≡ Err r) × (consistent_before x tolerance ≡ Err r)
  unfolding consistent_before is_consistent decide
  refused_alike e = (rw e, rw e)
