-- One row more.
use Rattle.lists.specs.Prelude.{refl, ap, ◌∙◌, le_antisymm, lit≤, le_trans, Float}
use Rattle.lists.specs.Indexed.{fold}
use Rattle.complex.specs.Arithmetic.{larger}
use Rattle.complex.specs.Sum.{largest_in}
use Rattle.complex.specs.Bits.{at-most-infinity}
use Rattle.support.specs.Support.{scale_of}
use Rattle.support.specs.Scale.{row_before, row-numbers}
use Rattle.support.proofs.scale_of.Goals as goal

pub loop-t-init : goal.loop-t-init
loop-t-init c = unfold largest_in fold in refl

pub largest_from-largest-requires : goal.largest_from-largest-requires
largest_from-largest-requires c = let h = c.requires in let r = row_before {t = c.loop-t.t} h.0 h.1 h.2 c.loop-t-test.true in le_trans r.inside h.3

pub loop-t-preserved : goal.loop-t-preserved
loop-t-preserved c =
    let s = c.args.shape in c.largest_from-largest.ensures ∙ rw c.loop-t.invariant (row-numbers s.capacity s.orbitals c.args.xs.now s.points c.loop-t.t)

pub float_from_bits-max : goal.float_from_bits-max
float_from_bits-max c = at-most-infinity _ (lit≤ tt)

pub returns : goal.returns
unfolding scale_of
returns c = c.max.ensures ∙ ap (λ (m : Float). larger m _) (c.loop-t.invariant ∙ rw (le_antisymm c.loop-t.auto.t-end c.loop-t-test.false))
