-- The rows passed have the term, and the others are as they were.
use Rattle.rows.specs.Rows.{stepped, packed_product}
use Rattle.rows.specs.Parts.{Rowed}
use Rattle.rows.proofs.add_rows.Given as goal

abbrev pub invariant-loop-a : goal.invariant-loop-a
invariant-loop-a l = Rowed (λ a c z. stepped l.term c (packed_product l.orbitals l.left l.i l.rows a c) z) l.term.lanes l.a l.fn.totals l.totals
