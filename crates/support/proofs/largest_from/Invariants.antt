-- The numbers passed are seen.
use Rattle.std.proofs.Common.{◌≡◌, ◌+◌, ◌*◌}
use Rattle.complex.specs.Numbers.{entry_at}
use Rattle.complex.specs.Sum.{largest_from}
use Rattle.block.specs.Operations.{cnorm}
use Rattle.support.proofs.largest_from.Given as goal

abbrev pub invariant-loop-k : goal.invariant-loop-k
invariant-loop-k l = l.most ≡ largest_from l.largest l.k (λ k. cnorm (entry_at l.xs (2 * (l.first + k))))
