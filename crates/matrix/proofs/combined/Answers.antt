-- Blocks that pass are small. Assumes nothing.
use Rattle.lists.specs.Prelude.{sym, ◌∙◌}
use Rattle.matrix.proofs.Shapes.{pair-passed}
use Rattle.matrix.proofs.combined.Goals as goal

pub answer-requires : goal.answer-requires
answer-requires c = let s = pair-passed _ _ _ (sym c.check_pair.ensures ∙ c.in_ok-check_pair.was) in (s.0.rows-most, s.1.columns-most, s.0.columns-most, s.1.columns-most)
