-- The verdict of an observable and a report has document 01's number of the answer, and after 10 an observable's slice holds +0. Assumes nothing.
use Rattle.refusal.specs.declared.Refusal.{Refusal}
use Rattle.std.specs.Prelude.{Result, Ok, Err, ◌≡◌}
use Rattle.lists.specs.Prelude.{refl, List, ℕ, length, Float}
use Rattle.refusal.specs.Verdict.{by, number_of, zeroed}
use Rattle.observables.specs.declared.Observed.{Observed}
use Rattle.observables.specs.declared.Observed.TheVariants.{Number, NotReal, Refused as NotObserved}
use Rattle.observables.specs.Calls.{observed_number}
use Rattle.report.specs.declared.ConsistencyReport.{ConsistencyReport}
use Rattle.report.specs.Calls.{reported_number}
use Rattle.answers.specs.Answer.{answer_of, numbers_answer}
use Rattle.answers.specs.Agreement.{numbers-cleared}
use Rattle.two_time_exports.specs.Numbers.{observed_numbers, report_numbers}

pub observed_number_lem : (o : Observed) → number_of (observed_numbers o).verdict ≡ observed_number o
unfolding number_of observed_number
observed_number_lem (Number x) = refl
observed_number_lem (NotReal part) = refl
observed_number_lem (NotObserved r) = refl

pub observed-cleared : {o : Observed} (places : List ℕ) (part value : List Float) → o ≡ NotObserved (by 10) → length value ≡ 1
    → numbers_answer (observed_numbers o) value places part ≡ record { answer = answer_of (Err (by 10)) places part; out = zeroed value }
observed-cleared places part value e h = rw e (numbers-cleared places part (observed_numbers (NotObserved (by 10))) value refl h)

pub report-number : (o : Result ConsistencyReport Refusal) → number_of (report_numbers o).verdict ≡ reported_number o
unfolding number_of reported_number
report-number (Ok x) = refl
report-number (Err r) = refl
