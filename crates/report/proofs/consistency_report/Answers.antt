-- Refused by its checks or by 10, or reported.
use Rattle.std.proofs.Common.{rules, ◌&&◌}
use Rattle.lists.specs.Prelude.{sym, ap₂, ◌∙◌, arith}
use Rattle.report.specs.Passed.{passed}
use Rattle.report.specs.Answers.{checks-refused, work-refused, report-made}
use Rattle.report.proofs.consistency_report.Goals as goal

pub returns-in_err-check_inputs : goal.returns-in_err-check_inputs
returns-in_err-check_inputs c = rw (← checks-refused _ _ _ _ _ _ c.check_inputs.ensures c.in_err-check_inputs.was) (search rules)

pub difference_finite-causal-requires : goal.difference_finite-causal-requires
difference_finite-causal-requires c = let l = passed _ _ _ _ _ _ (sym c.check_inputs.ensures ∙ c.in_ok-check_inputs.was) in omega arith

pub difference_finite-requires : goal.difference_finite-requires
difference_finite-requires c = let l = passed _ _ _ _ _ _ (sym c.check_inputs.ensures ∙ c.in_ok-check_inputs.was) in omega arith

pub returns-in_err-finite_work : goal.returns-in_err-finite_work
returns-in_err-finite_work c =
    let finite = ap₂ ◌&&◌ c.difference_finite-causal.ensures c.difference_finite.ensures in
    rw (← work-refused _ _ _ _ _ _ c.check_inputs.ensures c.in_ok-check_inputs.was finite c.finite_work.ensures c.in_err-finite_work.was) (search rules)

pub residuals-requires : goal.residuals-requires
residuals-requires c = passed _ _ _ _ _ _ (sym c.check_inputs.ensures ∙ c.in_ok-check_inputs.was)

pub returns : goal.returns
returns c =
    let finite = ap₂ ◌&&◌ c.difference_finite-causal.ensures c.difference_finite.ensures in
    report-made _ _ _ _ _ _ c.check_inputs.ensures c.in_ok-check_inputs.was finite c.finite_work.ensures c.in_ok-finite_work.was c.residuals.ensures
