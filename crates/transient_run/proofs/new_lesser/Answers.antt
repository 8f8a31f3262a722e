-- Each form has its own sums.
use Rattle.transient_run.specs.Form.{form_by}
use Rattle.transient_run.specs.Steps.{lesser_outcome}
use Rattle.transient_run.proofs.new_lesser.Goals as goal

pub returns-in-Empty : goal.returns-in-Empty
unfolding form_by lesser_outcome
returns-in-Empty c = rw c.in-Empty.is c.new_sums.ensures

pub returns-in-Occupied : goal.returns-in-Occupied
unfolding form_by lesser_outcome
returns-in-Occupied c = rw c.in-Occupied.is c.new_lesser_from.ensures
