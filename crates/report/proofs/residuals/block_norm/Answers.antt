-- Row by row from `largest` on is the larger of it and the block's. Assumes nothing.
use Rattle.lists.specs.Prelude.{◌∙◌, le_antisymm}
use Rattle.largest.specs.Larger.{rows-onward}
use Rattle.block.specs.Operations.{matrix_norm_max}
use Rattle.report.proofs.residuals.block_norm.Goals as goal

pub returns : goal.returns
unfolding matrix_norm_max
returns c = c.loop-a.invariant ∙ rw (le_antisymm c.loop-a.auto.a-end c.loop-a-test.false) (rows-onward c.args.largest c.requires.t_lt_points.2 c.args.components.orbitals c.args.components.orbitals _)
