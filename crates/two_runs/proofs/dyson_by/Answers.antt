-- What the call answers and leaves, as one.
use Rattle.two_runs.specs.Demand.{one-solved}
use Rattle.two_runs.proofs.dyson_by.Goals as goal

pub returns : goal.returns
returns c = one-solved c.retarded_dyson_with_tolerance.ensures
