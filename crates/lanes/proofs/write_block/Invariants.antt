-- The rows passed are finite and written.
use Rattle.std.proofs.Common.{◌||◌, ◌+◌, not}
use Rattle.lists.specs.Indexed.{all_below}
use Rattle.complex.specs.Arithmetic.{cfinite}
use Rattle.lanes.specs.Filled.{Filled}
use Rattle.lanes.specs.Lanes.{lane_at}
use Rattle.lanes.specs.Writing.{row_of}
use Rattle.lanes.proofs.write_block.Given as goal

abbrev pub invariant-loop-a : goal.invariant-loop-a
invariant-loop-a l =
    Filled l.orbitals (λ a. all_below l.orbitals (λ b. not l.asked || cfinite (lane_at l.totals a (l.from + b)))) (row_of l.orbitals (λ a b. lane_at l.totals a (l.from + b))) l.a l.fn.out l.out
