-- One entry more, or the first that is not finite.
use Rattle.std.proofs.Common.{arith, ◌≡◌, ◌||◌, ◌+◌, Bool, List, Option, not}
use Rattle.lists.specs.Prelude.{refl, sym, ap, ◌∙◌, mul_comm, ℕ, Float}
use Rattle.lists.specs.Indexed.{all_below}
use Rattle.lists.specs.Steps.{all_more}
use Rattle.complex.specs.declared.Complex.{Complex}
use Rattle.complex.specs.Arithmetic.{cfinite}
use Rattle.complex.specs.Filling.{cells-next}
use Rattle.complex.specs.Numbers.{pair}
use Rattle.lanes.specs.Filled.{filled_none, filled-all, fails-one}
use Rattle.lanes.specs.Lanes.{lane_at}
use Rattle.lanes.specs.Writing.{checked_entry, of-finite, of-overflow}
use Rattle.lanes.proofs.write_entries.Goals as goal

abbrev at : List Float → ℕ → ℕ → ℕ → Complex
at totals a from b = lane_at totals a (from + b)

abbrev finite : List Float → ℕ → ℕ → Bool → ℕ → Bool
finite totals a from asked b = not asked || cfinite (at totals a from b)

abbrev numbers : List Float → ℕ → ℕ → ℕ → List Float
numbers totals a from b = pair (at totals a from b)

-- what is checked
told : (asked : Bool) (z : Complex) {y : Complex} {o w : Option Complex} → y ≡ z → o ≡ checked_entry asked y → o ≡ w → w ≡ checked_entry asked z
told asked z e c is = sym is ∙ c ∙ ap (checked_entry asked) e

pub loop-b-init : goal.loop-b-init
loop-b-init c = filled_none _ _ _ _

pub returns-in_default : goal.returns-in_default
returns-in_default c =
    let x = c.args in
    fails-one _ (finite x.totals.now x.a x.from x.asked) (numbers x.totals.now x.a x.from) c.loop-b.b _ c.loop-b-test.true
    (of-overflow x.asked (at x.totals.now x.a x.from c.loop-b.b) (told x.asked _ c.lane.ensures c.checked.ensures c.in_default.is))

pub loop-b-preserved : goal.loop-b-preserved
unfolding all_below
loop-b-preserved c =
    let x = c.args in
    let i = c.loop-b.invariant in
    let b = c.loop-b.b in
    let made = of-finite x.asked (at x.totals.now x.a x.from b) c.in-Some.z (told x.asked _ c.lane.ensures c.checked.ensures c.in-Some.is) in
    record {
      most = omega (arith, c.loop-b-test.true);
      long = c.put.auto.xs ∙ i.long;
      passed = rw (all_more, i.passed) made.0;
      is = cells-next x.out.now c.loop-b.out _ b (at x.totals.now x.a x.from) _ i.is made.1 c.put.ensures (omega (arith, c.loop-b-test.true, c.requires.3));
    }

pub returns : goal.returns
returns c =
    let x = c.args in
    filled-all x.orbitals (finite x.totals.now x.a x.from x.asked) (numbers x.totals.now x.a x.from) 2 (λ k. refl) x.out.now c.loop-b.b _ c.loop-b.invariant c.loop-b-test.false (c.requires.3 ∙ mul_comm 2 x.orbitals)
