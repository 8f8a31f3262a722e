-- The lanes from lo on that are passed are made.
use Rattle.std.proofs.Common.{◌≤◌}
use Rattle.complex.specs.Arithmetic.{real, cadd, cmul}
use Rattle.rows.specs.Numbers.{number_at, Mapped}
use Rattle.rows.specs.Ranges.{only_from}
use Rattle.rows.proofs.scale_lanes.Given as goal

abbrev pub invariant-loop-c : goal.invariant-loop-c
invariant-loop-c l = (l.c ≤ l.hi) × Mapped (only_from l.lo (λ c z. cadd z (cmul (number_at l.sums c) (real l.weight)))) l.c l.fn.totals l.totals
