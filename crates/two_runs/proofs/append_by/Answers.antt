-- Each form has its own call.
use Rattle.two_runs.specs.Demand.{one-step}
use Rattle.two_runs.proofs.append_by.Goals as goal

pub returns-in-None : goal.returns-in-None
returns-in-None c = rw c.in-None.is (one-step _ _ c.append_point.ensures)

pub returns-in-Some : goal.returns-in-Some
returns-in-Some c = rw c.in-Some.is (one-step _ _ c.append_point_occupied.ensures)
