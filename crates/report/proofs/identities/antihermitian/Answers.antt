-- Minus is a scaling by -1+0i. Assumes nothing.
use Rattle.lists.specs.Prelude.{◌∙◌}
use Rattle.std.specs.Float.Ieee as Ieee
use Rattle.block.specs.Operations.{adjoint, scaled, subtracted}
use Rattle.report.specs.Residuals.{minus_mirror}
use Rattle.report.proofs.identities.antihermitian.Goals as goal

pub returns : goal.returns
unfolding minus_mirror subtracted scaled adjoint Ieee.of_bits Ieee.neg
returns c = c.minus.ensures ∙ rw (c.entry-here.ensures, c.times.ensures, c.conj-mirror.ensures, c.entry.ensures)
