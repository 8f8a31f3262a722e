-- One call after another, and where they end: at a refusal, or at all points.
use Rattle.lists.specs.Prelude.{refl, ◌∙◌, min-le_right}
use Rattle.two_runs.specs.Appended.{none_yet, go_on, refused, finished, ends}
use Rattle.two_runs.proofs.run_then_append.Goals as goal

pub loop-points-init : goal.loop-points-init
loop-points-init c = c.run_by-booked.ensures ∙ none_yet _ _ _

pub loop-points-preserved : goal.loop-points-preserved
loop-points-preserved c =
    let l = c.loop-points in go_on _ _ _ l.points l.auto.points l.invariant c.in-Ok.is c.append_by-booked.ensures

pub returns-after-loop-points : goal.returns-after-loop-points
returns-after-loop-points c =
    let l = c.loop-points in
    let within = l.auto.points-end (rw c.min-start.ensures (min-le_right _ _)) in
    ends _ _ c.min-start.ensures refl (finished _ _ _ l.points l.auto.points l.invariant _ within c.loop-points-test.false)

pub returns-in_default : goal.returns-in_default
returns-in_default c =
    let l = c.loop-points in
    let within = l.auto.points-end (rw c.min-start.ensures (min-le_right _ _)) in
    ends _ _ c.min-start.ensures refl (refused _ _ _ l.points l.auto.points l.invariant _ within c.in_default.is)
