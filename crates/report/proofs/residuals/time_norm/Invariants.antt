-- After u steps the first u places are seen. Assumes nothing.
use Rattle.std.proofs.Common.{◌≡◌}
use Rattle.complex.specs.Sum.{largest_from}
use Rattle.report.specs.Components.{residual_by}
use Rattle.report.proofs.residuals.time_norm.Given as goal

abbrev pub invariant-loop-u : goal.invariant-loop-u
invariant-loop-u l = l.most ≡ largest_from l.largest l.u (residual_by l.components l.identity l.t)
