-- Inside the interval the weight is half the step from the point before to the point after.
use Rattle.lists.specs.Prelude.{◌∙◌, arith}
use Rattle.grid.specs.Weights.{half_step, interval_weight}
use Rattle.grid.specs.Inside.{inside, weight-inside}
use Rattle.grid.proofs.interval_weight.Goals as goal

pub returns-then-end-start : goal.returns-then-end-start
unfolding interval_weight
returns-then-end-start c = rw c.if-end-start.true

pub returns-then-end-times : goal.returns-then-end-times
unfolding half_step
returns-then-end-times c =
    let a = c.args in
    let b = inside a.point a.start a.end c.if-end-start.false in
    weight-inside a.point a.start a.end a.times.now _ _ c.if-end-start.false (omega arith) (omega arith)

pub returns : goal.returns
returns c =
    let a = c.args in
    let b = inside a.point a.start a.end c.if-end-start.false in
    c.half_step.ensures ∙ weight-inside a.point a.start a.end a.times.now _ _ c.if-end-start.false (omega arith) (omega arith)
