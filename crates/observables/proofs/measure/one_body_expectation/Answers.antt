-- Where the questions pass, each entry is there to be read.
use Rattle.lists.specs.Prelude.{sym, ◌∙◌}
use Rattle.observables.specs.LesserChecks.{block_at}
use Rattle.observables.proofs.measure.one_body_expectation.Goals as goal

pub is_finite-requires-clause-passed : goal.is_finite-requires-clause-passed
is_finite-requires-clause-passed c =
    (block_at _ _ _ _ c.args.observable.now _ (sym c.check_lesser_block.ensures ∙ c.in_ok-check_lesser_block.was) (sym c.time_below.ensures ∙ c.in_ok-time_below.was)).0

pub trace-trace-requires-clause-passed : goal.trace-trace-requires-clause-passed
trace-trace-requires-clause-passed c =
    (block_at _ _ _ _ c.args.observable.now _ (sym c.check_lesser_block.ensures ∙ c.in_ok-check_lesser_block.was) (sym c.time_below.ensures ∙ c.in_ok-time_below.was)).0
