-- The new places of the rows passed are +0.
use Rattle.std.proofs.Common.{◌≡◌, length}
use Rattle.block.specs.Operations.{zeros}
use Rattle.two_time.specs.Written.{written_to}
use Rattle.two_time.proofs.capacity.clear_rows.Given as goal

abbrev pub invariant-loop-t : goal.invariant-loop-t
invariant-loop-t l = (length l.xs ≡ length l.fn.xs) × (l.xs ≡ written_to l.capacity l.orbitals l.old l.points (λ i u. zeros) l.fn.xs l.t)
