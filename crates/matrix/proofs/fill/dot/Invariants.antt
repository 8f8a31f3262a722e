-- After k steps the sum has the first k terms of the product's entry. Assumes nothing.
use Rattle.std.proofs.Common.{◌≡◌}
use Rattle.complex.specs.Arithmetic.{czero, cmul}
use Rattle.complex.specs.Sum.{sum_from}
use Rattle.matrix.specs.Dense.{entries_of}
use Rattle.matrix.proofs.fill.dot.Given as goal

abbrev pub invariant-loop-k : goal.invariant-loop-k
invariant-loop-k l = l.sum ≡ sum_from czero (λ k. cmul (entries_of l.x l.i k) (entries_of l.y k l.j)) 0 l.k
