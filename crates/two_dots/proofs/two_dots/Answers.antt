-- L12 of the contracts of two runs and of the flow that is asked of them.
use Rattle.two_dots.proofs.TwoCalls.{separate}
use Rattle.two_dots.proofs.two_dots.Goals as goal

pub returns : goal.returns
returns c = separate c.run_and_flow-first.ensures c.run_and_flow-second.ensures
