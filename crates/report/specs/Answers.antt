-- What each call answers where a check refuses, and where all pass. Assumes nothing.
use Rattle.std.specs.Prelude.{Result, Ok, Err, ◌≡◌, ◌&&◌}
use Rattle.lists.specs.Prelude.{sym, ap, ap₂, ◌∙◌, Bool, and_assoc, List, ℕ, length, Float, le}
use Rattle.refusal.specs.declared.Refusal.{Refusal}
use Rattle.refusal.specs.Verdict.{pass, Verdict, ◌then◌, decide}
use Rattle.refusal.specs.Agreement.{then-after, then-refused}
use Rattle.refusal.specs.Checks.{valid_tolerance, finite_work}
use Rattle.report.specs.declared.ConsistencyReport.{ConsistencyReport}
use Rattle.report.specs.Residuals.{report_of, differences_finite}
use Rattle.report.specs.Calls.{reported, report_checks, consistency_report, is_consistent}
use Rattle.report.specs.Passed.{passed}
use Rattle.report.specs.Differences.{difference_finite, differences_finite_lem}

reported_yes : {v : Verdict} {x y : ConsistencyReport} → v ≡ pass → y ≡ x → Ok y ≡ reported v x
unfolding reported
reported_yes p e = rw (p, e)

reported-no : {v : Verdict} {r : Refusal} (x : ConsistencyReport) → v ≡ Err r → Err r ≡ reported v x
unfolding reported
reported-no x p = rw p

module _ (points orbitals : ℕ) (retarded advanced lesser greater : List Float) where
  abbrev report : Result ConsistencyReport Refusal
  report = consistency_report points orbitals retarded advanced lesser greater

  module _ {v : Verdict} (asked : v ≡ report_checks points orbitals retarded advanced lesser greater) where
    pub checks-refused : {r : Refusal} → v ≡ Err r → Err r ≡ report
    unfolding consistency_report
    checks-refused p = reported-no _ (then-refused _ _ _ (sym asked ∙ p))

    module _ (p : v ≡ pass) {all : Bool} (e : all ≡ (difference_finite (length retarded) retarded advanced && difference_finite (length greater) greater lesser)) {work : Verdict} (h : work ≡ finite_work all) where
      -- the answer is check 10's
      work-asked : (report_checks points orbitals retarded advanced lesser greater then finite_work (differences_finite points orbitals retarded advanced lesser greater)) ≡ work
      work-asked =
          let l = passed points orbitals retarded advanced lesser greater (sym asked ∙ p) in
          then-after _ _ (sym asked ∙ p) ∙ sym (h ∙ ap finite_work (e ∙ differences_finite_lem points orbitals retarded advanced lesser greater l.retarded-long l.greater-long))

      pub work-refused : {r : Refusal} → work ≡ Err r → Err r ≡ report
      unfolding consistency_report
      work-refused q = reported-no _ (work-asked ∙ q)

      pub report-made : {x : ConsistencyReport} → work ≡ pass → x ≡ report_of points orbitals retarded advanced lesser greater → Ok x ≡ report
      unfolding consistency_report
      report-made q s = reported_yes (work-asked ∙ q) s

-- the consistency question, refused by 8 or answered by a test of all seven
module _ (x : ConsistencyReport) (tolerance : Float) where
  pub tolerance-refused : {v : Verdict} {r : Refusal} → v ≡ valid_tolerance tolerance → v ≡ Err r → Err r ≡ is_consistent x tolerance
  unfolding is_consistent decide
  tolerance-refused e p = rw (sym e ∙ p)

  pub all-within : (all : Bool) {v : Verdict} → v ≡ valid_tolerance tolerance → v ≡ pass
      → le x.retarded_causality tolerance && le x.advanced_causality tolerance && le x.advanced_adjoint tolerance && le x.lesser_antihermiticity tolerance && le x.greater_antihermiticity tolerance && le x.spectral_identity tolerance && le x.equal_time tolerance ≡ all
      → decide pass all ≡ is_consistent x tolerance
  unfolding is_consistent
  all-within all e p h = ap₂ decide (sym (sym e ∙ p)) (sym h ∙ simp and_assoc)
