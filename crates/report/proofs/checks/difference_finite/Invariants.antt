-- After i steps the first i numbers are tested. Assumes nothing.
use Rattle.std.proofs.Common.{◌≡◌}
use Rattle.report.specs.Differences.{difference_finite}
use Rattle.report.proofs.checks.difference_finite.Given as goal

abbrev pub invariant-loop-i : goal.invariant-loop-i
invariant-loop-i l = l.all ≡ difference_finite l.i l.x l.y
