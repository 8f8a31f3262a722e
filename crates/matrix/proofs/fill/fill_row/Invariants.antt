-- After j steps the row's first j entries are written and tested. Assumes nothing.
use Rattle.std.proofs.Common.{◌≡◌}
use Rattle.lists.specs.Indexed.{all_below}
use Rattle.lists.specs.Filling.{over}
use Rattle.complex.specs.Arithmetic.{cfinite}
use Rattle.complex.specs.Filling.{cells}
use Rattle.matrix.specs.Made.{made_of}
use Rattle.matrix.proofs.fill.fill_row.Given as goal

abbrev pub invariant-loop-j : goal.invariant-loop-j
invariant-loop-j l = record {
  tested : l.all ≡ all_below l.j (λ k. cfinite (made_of l.op l.x l.y l.i k));
  written : l.row ≡ over l.initial.row (cells l.j (made_of l.op l.x l.y l.i));
}
