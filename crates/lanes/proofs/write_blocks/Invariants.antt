-- The blocks passed are finite and written.
use Rattle.std.proofs.Common.{◌||◌, ◌+◌, ◌*◌, not}
use Rattle.lists.specs.Prelude.{ltb}
use Rattle.lists.specs.Indexed.{all_in}
use Rattle.complex.specs.Arithmetic.{cfinite}
use Rattle.block.specs.Block.{lay_out}
use Rattle.lanes.specs.Filled.{Filled}
use Rattle.lanes.specs.Lanes.{lane_at}
use Rattle.lanes.proofs.write_blocks.Given as goal

abbrev pub invariant-loop-p : goal.invariant-loop-p
invariant-loop-p l =
    Filled l.places (λ p. all_in l.orbitals l.orbitals (λ a b. not (ltb p l.until) || cfinite (lane_at l.totals a (p * l.orbitals + b))))
    (λ p. lay_out l.orbitals l.orbitals (λ a b. lane_at l.totals a (p * l.orbitals + b))) l.p l.fn.out l.out
