-- Past the end every weight is a NaN, and else the tests are the definition's.
use Rattle.lists.specs.Prelude.{sym, ◌∙◌, eq-eqb, ne_eqb}
use Rattle.grid.specs.Weights.{full_weight}
use Rattle.grid.specs.Past.{nan-bits, past-weight}
use Rattle.grid.proofs.full_weight.Goals as goal

pub returns-then-times-index : goal.returns-then-times-index
returns-then-times-index c = nan-bits ∙ sym (past-weight _ c.args.points _ c.if-times-index.true)

pub returns-then-index-eq0 : goal.returns-then-index-eq0
unfolding full_weight
returns-then-index-eq0 c = rw (eq-eqb _ 0 c.if-index-eq0.true) c.half_step.ensures

pub returns-then-index-points : goal.returns-then-index-points
unfolding full_weight
returns-then-index-points c = rw (ne_eqb _ 0 c.if-index-eq0.false, eq-eqb _ _ c.if-index-points.true) c.half_step-then-index-points.ensures

pub returns : goal.returns
unfolding full_weight
returns c = rw (ne_eqb _ 0 c.if-index-eq0.false, ne_eqb _ _ c.if-index-points.false) c.half_step-2.ensures
