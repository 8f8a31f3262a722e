-- After a steps the first a rows of the block are seen. Assumes nothing.
use Rattle.std.proofs.Common.{◌≡◌}
use Rattle.lists.specs.Indexed.{fold}
use Rattle.complex.specs.Sum.{largest_from}
use Rattle.block.specs.Operations.{cnorm}
use Rattle.report.specs.Components.{left_by}
use Rattle.report.proofs.residuals.block_norm.Given as goal

abbrev pub invariant-loop-a : goal.invariant-loop-a
invariant-loop-a l = l.most ≡ fold l.a (λ k x. largest_from x l.components.orbitals (λ b. cnorm (left_by l.components l.identity l.t l.u k b))) l.largest
