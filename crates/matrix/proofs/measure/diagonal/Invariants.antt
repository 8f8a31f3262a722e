-- After i steps the sum has the first i entries of the diagonal. Assumes nothing.
use Rattle.std.proofs.Common.{◌≡◌}
use Rattle.complex.specs.Arithmetic.{czero}
use Rattle.complex.specs.Sum.{sum_from}
use Rattle.matrix.specs.Dense.{entries_of}
use Rattle.matrix.proofs.measure.diagonal.Given as goal

abbrev pub invariant-loop-i : goal.invariant-loop-i
invariant-loop-i l = l.sum ≡ sum_from czero (λ k. entries_of l.x k k) 0 l.i
