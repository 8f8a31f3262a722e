-- Before step t the rows before t are finite and written.
use Rattle.dyson.proofs.Rows.{given, Before}
use Rattle.dyson.proofs.forward.forward.Given as goal

abbrev pub invariant-loop-t : goal.invariant-loop-t
invariant-loop-t l = Before (given l.fn.shape.capacity l.fn.shape.orbitals l.fn.old l.fn.shape.points l.times l.free l.kernel l.fn.retarded) l.t l.retarded
