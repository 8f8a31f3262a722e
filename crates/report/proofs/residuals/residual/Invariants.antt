-- After t steps the places of the first t times are seen. Assumes nothing.
use Rattle.std.proofs.Common.{◌≡◌}
use Rattle.complex.specs.Sum.{largest_in}
use Rattle.report.specs.Components.{residual_by}
use Rattle.report.proofs.residuals.residual.Given as goal

abbrev pub invariant-loop-t : goal.invariant-loop-t
invariant-loop-t l = l.largest ≡ largest_in l.t l.components.points (residual_by l.components l.identity)
