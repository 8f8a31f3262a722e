-- Demand 3 of the contracts of two Dyson calls.
use Rattle.lists.specs.Prelude.{refl}
use Rattle.two_runs.specs.Demand.{dyson-blind}
use Rattle.two_runs.proofs.two_dysons.Goals as goal

pub returns : goal.returns
returns c = dyson-blind refl refl c.dyson_by-first.ensures c.dyson_by-second.ensures
