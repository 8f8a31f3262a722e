-- Demand 3 of the contracts of two runs and of what is asked of them.
use Rattle.two_runs.specs.Demand.{blind}
use Rattle.two_runs.proofs.two_runs.Goals as goal

pub returns : goal.returns
returns c = blind c.run_and_ask-first.ensures c.run_and_ask-second.ensures
