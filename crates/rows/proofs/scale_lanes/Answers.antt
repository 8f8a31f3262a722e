-- One lane more.
use Rattle.std.proofs.Common.{arith, ℕ}
use Rattle.lists.specs.Prelude.{sym, ap₂, ◌∙◌}
use Rattle.complex.specs.declared.Complex.{Complex}
use Rattle.complex.specs.Arithmetic.{real, cadd, cmul}
use Rattle.rows.specs.Numbers.{number_at, mapped_next}
use Rattle.rows.specs.Ranges.{only_from, from-none, from_on}
use Rattle.rows.proofs.scale_lanes.Goals as goal

pub loop-c-init : goal.loop-c-init
loop-c-init c = (omega arith, from-none _ _ _)

pub loop-c-preserved : goal.loop-c-preserved
loop-c-preserved c =
    let x = c.args in
    let k = c.loop-c.c in
    let f = λ (c : ℕ) (z : Complex). cadd z (cmul (number_at x.sums.now c) (real x.weight)) in
    let h = c.loop-c-test.true in (
      omega arith,
      mapped_next (only_from x.lo f) k x.totals.now c.loop-c.totals _ c.plus-sum.result c.loop-c.invariant.1 c.requires.2 (omega arith)
          (c.plus-sum.ensures ∙ ap₂ cadd c.number-z.ensures (c.times.ensures ∙ ap₂ cmul c.new-p.ensures c.real.ensures) ∙ sym (from_on x.lo f k (number_at c.loop-c.totals k) c.loop-c.auto.c))
          c.set_number.ensures,
    )
