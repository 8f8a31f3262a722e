-- One more row is written and tested. Assumes nothing.
use Rattle.lists.specs.Prelude.{refl, sym}
use Rattle.lists.specs.Filling.{over_none}
use Rattle.lists.specs.Indexed.{join, all_below}
use Rattle.block.specs.Block.{lay_out}
use Rattle.block.specs.Operations.{all_finite}
use Rattle.matrix.specs.Made.{made_of}
use Rattle.matrix.proofs.Filled.{finite-more, rows_more}
use Rattle.matrix.proofs.fill.fill.Goals as goal

pub loop-i-init : goal.loop-i-init
unfolding lay_out all_finite join all_below
loop-i-init c = record { tested = refl; written = sym (over_none _) }

pub loop-i-preserved : goal.loop-i-preserved
loop-i-preserved c =
    let i = c.loop-i.invariant in
    let f = made_of c.args.op c.args.x.now c.args.y.now in
    record {
      tested = rw (c.fill_row-all.ensures.0, i.tested, finite-more);
      written = rows_more c.loop-i.i c.args.columns f c.args.out.now c.loop-i.out _ i.written c.fill_row-all.ensures.1;
    }
