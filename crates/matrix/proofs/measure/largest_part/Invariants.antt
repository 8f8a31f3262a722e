-- After p steps the first p numbers are seen. Assumes nothing.
use Rattle.std.proofs.Common.{◌≡◌, ◌*◌}
use Rattle.complex.specs.Arithmetic.{plus_zero}
use Rattle.complex.specs.Numbers.{entry_at}
use Rattle.complex.specs.Sum.{largest_from}
use Rattle.block.specs.Operations.{part_size}
use Rattle.matrix.proofs.measure.largest_part.Given as goal

abbrev pub invariant-loop-p : goal.invariant-loop-p
invariant-loop-p l = l.most ≡ largest_from plus_zero l.p (λ q. part_size (entry_at l.a (2 * q)))
