-- A size that passes is small. Assumes nothing.
use Rattle.lists.specs.Prelude.{sym, ◌∙◌, arith}
use Rattle.matrix.proofs.Shapes.{shape-passed}
use Rattle.matrix.proofs.constant.Goals as goal

pub answer-requires : goal.answer-requires
answer-requires c = let s = (shape-passed _ _ _ (sym c.shape.ensures ∙ c.in_ok-shape.was)).0 in (s.rows-most, s.rows-most, omega arith, omega arith)
