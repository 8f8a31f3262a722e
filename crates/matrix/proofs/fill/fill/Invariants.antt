-- After i steps the first i rows are written and tested. Assumes nothing.
use Rattle.std.proofs.Common.{◌≡◌}
use Rattle.lists.specs.Filling.{over}
use Rattle.block.specs.Block.{lay_out}
use Rattle.block.specs.Operations.{all_finite}
use Rattle.matrix.specs.Made.{made_of}
use Rattle.matrix.proofs.fill.fill.Given as goal

abbrev pub invariant-loop-i : goal.invariant-loop-i
invariant-loop-i l = record {
  tested : l.all ≡ all_finite l.i l.columns (made_of l.op l.x l.y);
  written : l.out ≡ over l.initial.out (lay_out l.i l.columns (made_of l.op l.x l.y));
}
