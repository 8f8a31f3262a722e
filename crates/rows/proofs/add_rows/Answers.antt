-- One row more.
use Rattle.std.proofs.Common.{arith, ◌≡◌, ◌<◌, ◌+◌, ◌*◌, ℕ}
use Rattle.lists.specs.Prelude.{ap, ◌∙◌}
use Rattle.complex.specs.declared.Complex.{Complex}
use Rattle.complex.specs.Arithmetic.{cmul}
use Rattle.complex.specs.Numbers.{entry_at}
use Rattle.complex.specs.Sum.{sum_from}
use Rattle.lanes.specs.Lanes.{lane_at}
use Rattle.rows.specs.Numbers.{number_at, mapped_as, number-zero}
use Rattle.rows.specs.Rows.{stepped, packed_product}
use Rattle.rows.specs.Parts.{rowed_next, rowed_all, width}
use Rattle.rows.proofs.add_rows.Goals as goal

pub loop-a-preserved : goal.loop-a-preserved
loop-a-preserved c =
    let x = c.args in
    let a = c.loop-a.a in
    let h = c.loop-a-test.true in
    let few : a < 16 = omega arith in
    let product : (c' : ℕ) → c' < x.term.lanes → number_at c.row_products.new.sums c' ≡ packed_product x.orbitals x.left.now x.i x.rows.now a c' =
    λ c' h.
    let lane : c' < 16 = omega (arith, c.requires.ranged.0.few) in
    c.row_products.ensures.1 c' lane ∙ ap (λ (z : Complex). sum_from z (λ k. cmul (entry_at x.left.now (x.i + a * (2 * x.orbitals) + 2 * k)) (lane_at x.rows.now k c')) 0 x.orbitals) (number-zero c' lane) in
    rowed_next _ x.term.lanes a _ x.totals.now c.loop-a.totals c.add_scaled.new.totals c.loop-a.invariant few c.requires.ranged.0.few (width a)
    (mapped_as (λ c' z h. ap (λ (p : Complex). stepped x.term c' p z) (product c' h)) c.add_scaled.ensures)

pub returns : goal.returns
returns c = rowed_all _ _ _ _ _ _ c.loop-a.auto.a-end c.loop-a-test.false c.loop-a.invariant
