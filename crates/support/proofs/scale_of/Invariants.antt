-- The rows passed are seen.
use Rattle.std.proofs.Common.{◌≡◌}
use Rattle.support.specs.Scale.{largest_rows}
use Rattle.support.proofs.scale_of.Given as goal

abbrev pub invariant-loop-t : goal.invariant-loop-t
invariant-loop-t l = l.largest ≡ largest_rows l.fn.shape.capacity l.fn.shape.orbitals l.xs l.fn.shape.points l.t
