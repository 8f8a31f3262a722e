-- Blocks that pass have the same columns. Assumes nothing.
use Rattle.lists.specs.Prelude.{◌∙◌}
use Rattle.matrix.specs.Made.{combined_of, alike_of}
use Rattle.matrix.proofs.Results.{either-columns}
use Rattle.matrix.proofs.alike.Goals as goal

pub returns : goal.returns
unfolding combined_of alike_of
returns c = c.combined.ensures ∙ rw c.same_shape.ensures (either-columns c.args.x.now c.args.y.now _)
