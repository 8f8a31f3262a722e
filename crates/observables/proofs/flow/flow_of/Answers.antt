-- The flow, of an entry times -i.
use Rattle.std.proofs.Common.{rules, ◌≡◌}
use lib.Ieee as Ieee
use Rattle.refusal.specs.Verdict.{measured}
use Rattle.observables.proofs.flow.flow_of.Goals as goal

pub returns : goal.returns
unfolding measured Ieee.neg Ieee.of_bits
returns c = rw (c.times.ensures, c.times-rho_ba.ensures, c.found.ensures) (search rules)
