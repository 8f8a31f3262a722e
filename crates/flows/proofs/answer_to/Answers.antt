-- The query's numbers are those of the single call.
use Rattle.std.proofs.Common.{◌≡◌}
use Rattle.observables.specs.Query.{queried}
use Rattle.observables.proofs.Outcomes.{outcome_measured}
use Rattle.flows.proofs.answer_to.Goals as goal

pub returns : goal.returns
unfolding queried
returns c = rw (c.flow_of.ensures, c.new-hopping.ensures) (outcome_measured _ _)
