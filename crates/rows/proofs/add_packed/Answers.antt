-- A term that fits goes to all rows, another to none.
use Rattle.std.proofs.Common.{◌≡◌, ◌&&◌, Bool, ℕ, List, length}
use Rattle.lists.specs.Prelude.{sym, ap₂, ◌∙◌, eqb, Float}
use Rattle.terms.specs.declared.Term.{Term}
use Rattle.rows.specs.Rows.{is_ranged, has_block, packed_fits, packed_totals}
use Rattle.rows.specs.Fitting.{fits_when}
use Rattle.rows.proofs.add_packed.Goals as goal

-- what is asked
asked : (left : List Float) (i n : ℕ) (rows : List Float) (term : Term) (totals : List Float) {ranged block f : Bool} → ranged ≡ is_ranged term → block ≡ has_block left i n
    → ranged && (block && (eqb (length rows) 512 && eqb (length totals) 512)) ≡ f → packed_fits left i n rows term totals ≡ f
unfolding packed_fits
asked left i n rows term totals r b e = sym (ap₂ (λ (f g : Bool). f && (g && (eqb (length rows) 512 && eqb (length totals) 512))) r b) ∙ e

pub returns-then-not-is_ranged-has_block : goal.returns-then-not-is_ranged-has_block
unfolding packed_totals
returns-then-not-is_ranged-has_block c =
    let x = c.args in
    let e = asked x.left.now x.i x.orbitals x.rows.now x.term x.totals.now c.is_ranged.ensures c.has_block.ensures c.if-not-is_ranged-has_block.true in
    (sym e, rw e)

pub add_rows-requires : goal.add_rows-requires
add_rows-requires c =
    let x = c.args in
    let f = fits_when x.left.now x.i x.orbitals x.rows.now x.term x.totals.now (asked _ _ _ _ _ _ c.is_ranged.ensures c.has_block.ensures c.if-not-is_ranged-has_block.false) in
    record { ranged = (f.ranged, f.few, f.rows_long, f.totals_long); orbitals_in_bounds = (f.inside, f.short) }

pub returns : goal.returns
unfolding packed_totals
returns c =
    let x = c.args in
    let e = asked x.left.now x.i x.orbitals x.rows.now x.term x.totals.now c.is_ranged.ensures c.has_block.ensures c.if-not-is_ranged-has_block.false in
    (sym e, rw e c.add_rows.ensures)
