-- The entries passed are finite and written.
use Rattle.std.proofs.Common.{◌||◌, ◌+◌, not}
use Rattle.complex.specs.Arithmetic.{cfinite}
use Rattle.complex.specs.Numbers.{pair}
use Rattle.lanes.specs.Filled.{Filled}
use Rattle.lanes.specs.Lanes.{lane_at}
use Rattle.lanes.proofs.write_entries.Given as goal

abbrev pub invariant-loop-b : goal.invariant-loop-b
invariant-loop-b l =
    Filled l.orbitals (λ b. not l.asked || cfinite (lane_at l.totals l.a (l.from + b))) (λ b. pair (lane_at l.totals l.a (l.from + b))) l.b l.fn.out l.out
