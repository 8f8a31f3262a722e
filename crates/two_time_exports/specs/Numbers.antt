-- An observable and a report in numbers.
use Rattle.refusal.specs.declared.Refusal.{Refusal}
use Rattle.std.specs.Prelude.{Result, Ok, Err, ◌∷◌}
use Rattle.lists.specs.Prelude.{ℕ, Bool, List, [], eqb, length, get_or, replicate, Float, nan}
use Rattle.complex.specs.Arithmetic.{plus_zero}
use Rattle.refusal.specs.Verdict.{pass, Verdict}
use Rattle.refusal.specs.Checks.{fitting}
use Rattle.observables.specs.declared.Observed.{Observed}
use Rattle.observables.specs.declared.Observed.TheVariants.{Number, NotReal, Refused as NotObserved}
use Rattle.report.specs.declared.ConsistencyReport.{ConsistencyReport}
use Rattle.report.specs.Calls.{is_consistent}
use Rattle.answers.specs.declared.numbers.Numbers.{Numbers}
use Rattle.answers.specs.Answer.{numbered}

-- an observable's number; 14 carries the imaginary part
abbrev pub observed_numbers : Observed → Numbers
observed_numbers (Number x) = numbered pass (x ∷ [])
observed_numbers (NotReal part) = numbered (Err (record { number = 14; operand = 0; first = 0; second = 0; part = part })) (replicate 1 plus_zero)
observed_numbers (NotObserved r) = numbered (Err r) (replicate 1 plus_zero)

-- a report's seven residuals
abbrev pub report_numbers : Result ConsistencyReport Refusal → Numbers
report_numbers (Ok x) =
    numbered pass
    (x.retarded_causality ∷ x.advanced_causality ∷ x.advanced_adjoint
    ∷ x.lesser_antihermiticity ∷ x.greater_antihermiticity ∷ x.spectral_identity ∷ x.equal_time ∷ [])
report_numbers (Err r) = numbered (Err r) (replicate 7 plus_zero)

-- the report of these residuals, in that order
abbrev pub report_from : List Float → ConsistencyReport
report_from residuals =
    record {
      retarded_causality = get_or residuals 0 nan;
      advanced_causality = get_or residuals 1 nan;
      advanced_adjoint = get_or residuals 2 nan;
      lesser_antihermiticity = get_or residuals 3 nan;
      greater_antihermiticity = get_or residuals 4 nan;
      spectral_identity = get_or residuals 5 nan;
      equal_time = get_or residuals 6 nan;
    }

-- a decision past a check
unfoldable pub decided_past : Verdict → Result Bool Refusal → Result Bool Refusal
decided_past (Ok tt) d = d
decided_past (Err r) d = Err r

-- the consistency question over a slice of seven; another length is 3
unfoldable pub decision_over : List Float → Float → Result Bool Refusal
decision_over residuals tolerance = decided_past (fitting (eqb (length residuals) 7)) (is_consistent (report_from residuals) tolerance)
