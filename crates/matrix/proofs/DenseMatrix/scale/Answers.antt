-- A block that passes is small. Assumes nothing.
use Rattle.lists.specs.Prelude.{sym, ◌∙◌}
use Rattle.matrix.proofs.Shapes.{block-passed}
use Rattle.matrix.proofs.DenseMatrix.scale.Goals as goal

pub answer-requires : goal.answer-requires
answer-requires c = let s = (block-passed _ _ (sym c.check_block.ensures ∙ c.in_ok-check_block.was)).0 in (s.rows-most, s.columns-most, s.columns-most, s.columns-most)
