-- One more entry is written and tested, and at the end the whole row. Assumes nothing.
use Rattle.lists.specs.Prelude.{refl, sym, ◌∙◌, le_antisymm, arith}
use Rattle.lists.specs.Steps.{all_more, all_none}
use Rattle.lists.specs.Filling.{over_none, over-all}
use Rattle.lists.specs.Indexed.{join}
use Rattle.complex.specs.Filling.{length-cells, cells-next}
use Rattle.matrix.proofs.fill.fill_row.Goals as goal

pub loop-j-init : goal.loop-j-init
unfolding join
loop-j-init c = record { tested = sym (all_none _); written = sym (over_none _) }

pub loop-j-preserved : goal.loop-j-preserved
loop-j-preserved c =
    let i = c.loop-j.invariant in
    record {
      tested = rw (c.is_finite-all.ensures, c.made-z.ensures, i.tested, all_more);
      written = cells-next _ _ _ _ _ _ i.written c.made-z.ensures refl (omega arith);
    }

pub returns : goal.returns
returns c =
    let i = c.loop-j.invariant in
    let e = le_antisymm c.loop-j.auto.j-end c.loop-j-test.false in
    (i.tested ∙ rw e, i.written ∙ rw e (over-all _ _ (length-cells _ _ ∙ omega arith)))
