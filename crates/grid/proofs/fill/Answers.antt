-- What is written over so far, and at the end all.
use Rattle.lists.specs.Prelude.{refl, arith, length-set}
use Rattle.lists.specs.Singles.{singles-none, singles-step, singles-end}
use Rattle.grid.specs.Weights.{full_weight}
use Rattle.grid.proofs.fill.Goals as goal

pub loop-i-init : goal.loop-i-init
loop-i-init c = (refl, singles-none _ _)

pub loop-i-preserved : goal.loop-i-preserved
loop-i-preserved c =
    let i = c.loop-i.invariant in (simp length-set i.0, rw (i.1, c.full_weight.ensures) (singles-step _ (full_weight _ _) c.loop-i.i (omega arith)))

pub returns : goal.returns
returns c = singles-end _ _ _ c.loop-i.auto.i-end c.loop-i-test.false c.loop-i.invariant.1
