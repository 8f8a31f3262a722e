-- After b steps the first b entries of the row are seen. Assumes nothing.
use Rattle.std.proofs.Common.{◌≡◌}
use Rattle.complex.specs.Sum.{largest_from}
use Rattle.block.specs.Operations.{cnorm}
use Rattle.report.specs.Components.{left_by}
use Rattle.report.proofs.residuals.row_norm.Given as goal

abbrev pub invariant-loop-b : goal.invariant-loop-b
invariant-loop-b l = l.most ≡ largest_from l.largest l.b (λ k. cnorm (left_by l.components l.identity l.t l.u l.a k))
