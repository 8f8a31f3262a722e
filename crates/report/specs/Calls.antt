-- Document 01, report: the outcome of `consistency_report` and of `is_consistent`. No answer depends on times, so none are asked for.
use Rattle.refusal.specs.declared.Refusal.{Refusal}
use Rattle.std.specs.Prelude.{Result, Ok, Err, ◌&&◌, ◌∷◌}
use Rattle.lists.specs.Prelude.{ℕ, Bool, true, List, [], Float, le}
use Rattle.refusal.specs.Verdict.{Verdict, ◌then◌, decide}
use Rattle.refusal.specs.Checks.{valid_tolerance, finite_work}
use Rattle.two_time.specs.Calls.{size_checks, operand_checks}
use Rattle.report.specs.declared.ConsistencyReport.{ConsistencyReport}
use Rattle.report.specs.Residuals.{report_of, differences_finite}

-- a report after its questions, and the refusal's number of such an answer; 0 where nothing is refused
unfoldable pub reported : Verdict → ConsistencyReport → Result ConsistencyReport Refusal
reported (Ok tt) x = Ok x
reported (Err r) x = Err r

unfoldable pub reported_number : Result ConsistencyReport Refusal → ℕ
reported_number (Ok x) = 0
reported_number (Err r) = r.number

-- its residuals, in the order of its fields
abbrev pub residuals_of : ConsistencyReport → List Float
residuals_of x =
    x.retarded_causality ∷ x.advanced_causality ∷ x.advanced_adjoint ∷ x.lesser_antihermiticity ∷ x.greater_antihermiticity ∷ x.spectral_identity ∷ x.equal_time ∷ []

module _ (points orbitals : ℕ) (retarded advanced lesser greater : List Float) where
  -- checks 1, 2, 3 and 7 of the operands retarded, advanced, lesser, greater
  abbrev pub report_checks : Verdict
  report_checks = let operands = retarded ∷ advanced ∷ lesser ∷ greater ∷ [] in size_checks points orbitals true operands then operand_checks 0 operands

  -- `consistency_report`: those checks, then 10
  unfoldable pub consistency_report : Result ConsistencyReport Refusal
  consistency_report =
      reported (report_checks then finite_work (differences_finite points orbitals retarded advanced lesser greater)) (report_of points orbitals retarded advanced lesser greater)

-- "`is_consistent`: all six at most the tolerance", after 8, and "the consistency question reads seven residuals" (document 02, L7); a NaN is
-- not at most it
unfoldable pub is_consistent : ConsistencyReport → Float → Result Bool Refusal
is_consistent x tolerance =
    decide (valid_tolerance tolerance)
    (le x.retarded_causality tolerance && (le x.advanced_causality tolerance && (le x.advanced_adjoint tolerance
    && (le x.lesser_antihermiticity tolerance && (le x.greater_antihermiticity tolerance && (le x.spectral_identity tolerance && le x.equal_time tolerance))))))
