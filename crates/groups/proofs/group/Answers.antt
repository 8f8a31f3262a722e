-- Unfit; +0 where no place has a term; or what the lanes hold is written.
use Rattle.std.specs.Prelude.{◌≡◌, ◌+◌, ◌*◌, ◌≤◌, ◌<◌}
use Rattle.lists.specs.Prelude.{ap, ◌∙◌, ℕ, arith, digits_lt, eqb, length, lt-ltb, eqb-true}
use Rattle.lists.specs.Agreement.{both, all_agree, join_agree}
use Rattle.complex.specs.declared.Complex.{Complex}
use Rattle.terms.specs.Spans.{spanned}
use Rattle.two_time.specs.Outcome.{SumsOutcome}
use Rattle.two_time.specs.Summed.{unfit_of}
use Rattle.two_time.specs.WeightedSum.{weighted_sum}
use Rattle.lanes.specs.Lanes.{lanes_finite, laid_lanes}
use Rattle.rows.specs.Parts.{lane_zero}
use Rattle.groups.specs.PartialSums.{terms_of}
use Rattle.groups.specs.PlaceSums.{begins, place-finite, place_laid}
use Rattle.groups.specs.Groups.{group_finite, group_numbers, group_unfit, group_zero, group_written}
use Rattle.groups.specs.Zero.{none-finite, none-numbers}
use Rattle.groups.proofs.Lent.{asked, Lent, lent, few}
use Rattle.groups.proofs.group.Goals as goal

pub returns-in_err-check_sizes : goal.returns-in_err-check_sizes
returns-in_err-check_sizes c =
    let x = c.args in
    let refused = asked x.points x.orbitals x.left.now x.right.now c.is_group-there.ensures c.has_length-left_fits.ensures c.has_length-right_fits.ensures c.check_sizes.ensures c.in_err-check_sizes.was in
    let o = group_unfit x.sums x.points x.orbitals x.times.now x.left.now x.right.now x.t x.u x.places x.out.now _ refused in
    (unfit_of _ c.from_residual.ensures ∙ o.0, o.1)

sizes : (c : goal.After-span_of-span) → let x = c.args in (x.orbitals * x.orbitals ≤ 256) × (x.places * (2 * (x.orbitals * x.orbitals)) ≤ 8192)
sizes c =
    let x = c.args in
    few (lent x.points x.orbitals x.left.now x.right.now x.t x.u x.places (asked x.points x.orbitals x.left.now x.right.now c.is_group-there.ensures c.has_length-left_fits.ensures c.has_length-right_fits.ensures c.check_sizes.ensures c.in_ok-check_sizes.was)).there

pub overflow_mul-length : goal.overflow_mul-length
overflow_mul-length c = let z = sizes c in omega arith

pub overflow_mul-length-2 : goal.overflow_mul-length-2
overflow_mul-length-2 c = let z = sizes c in omega arith

pub overflow_mul-length-3 : goal.overflow_mul-length-3
overflow_mul-length-3 c = let z = sizes c in omega arith

-- no place has a term
pub returns-then-span-out : goal.returns-then-span-out
returns-then-span-out c =
    let x = c.args in
    let passed = asked x.points x.orbitals x.left.now x.right.now c.is_group-there.ensures c.has_length-left_fits.ensures c.has_length-right_fits.ensures c.check_sizes.ensures c.in_ok-check_sizes.was in
    let g = (lent x.points x.orbitals x.left.now x.right.now x.t x.u x.places passed).there in
    let span = c.span_of-span.result in
    let tests = both (eqb span.first span.last) (eqb (length x.out.now) (x.places * (2 * (x.orbitals * x.orbitals)))) c.if-span-out.true in
    let z = spanned x.sums x.points x.t x.u x.places span g.row g.points-most g.fit c.span_of-span.ensures in
    let none = eqb-true _ _ tests.0 in
    group_zero x.sums x.points x.orbitals x.times.now x.left.now x.right.now x.t x.u x.places x.out.now g passed tests.1
    (none-finite x.sums x.points x.orbitals x.times.now x.left.now x.right.now x.t x.u x.places x.out.now span z none) _
    (c.clear.ensures ∙ none-numbers x.sums x.points x.orbitals x.times.now x.left.now x.right.now x.t x.u x.places x.out.now span z none (length x.out.now) (eqb-true _ _ tests.1))

pub group_totals-requires-clause-t_lt_points : goal.group_totals-requires-clause-t_lt_points
group_totals-requires-clause-t_lt_points c =
    let x = c.args in
    let h = lent x.points x.orbitals x.left.now x.right.now x.t x.u x.places (asked x.points x.orbitals x.left.now x.right.now c.is_group-there.ensures c.has_length-left_fits.ensures c.has_length-right_fits.ensures c.check_sizes.ensures c.in_ok-check_sizes.was) in
    let g = h.there in
    (g.row, g.points-most, h.some, g.orbitals-most, g.some, g.fit, g.few)

pub group_totals-requires-clause-orbitals_in_bounds : goal.group_totals-requires-clause-orbitals_in_bounds
group_totals-requires-clause-orbitals_in_bounds c =
    let x = c.args in
    let h = lent x.points x.orbitals x.left.now x.right.now x.t x.u x.places (asked x.points x.orbitals x.left.now x.right.now c.is_group-there.ensures c.has_length-left_fits.ensures c.has_length-right_fits.ensures c.check_sizes.ensures c.in_ok-check_sizes.was) in
    (h.left-long, h.right-long, h.left-most)

pub returns : goal.returns
returns c =
    let x = c.args in
    let n = x.orbitals in
    let passed = asked x.points n x.left.now x.right.now c.is_group-there.ensures c.has_length-left_fits.ensures c.has_length-right_fits.ensures c.check_sizes.ensures c.in_ok-check_sizes.was in
    let g = (lent x.points n x.left.now x.right.now x.t x.u x.places passed).there in
    let lanes = c.group_totals.new.totals in
    let sum = λ (a p b : ℕ) (ha : a < n) (hp : p < x.places) (hb : b < n).
    c.group_totals.ensures.1 a p b ha hp hb
    ∙ ap (λ (z : Complex). weighted_sum n (terms_of x.sums x.points x.points n x.times.now x.left.now x.right.now x.t (x.u + p) z) a b)
    (lane_zero a (p * n + b) (omega (arith, ha, g.orbitals-most)) (omega (arith, digits_lt hp hb, g.few)))
    ∙ begins x.sums x.points n x.times.now x.left.now x.right.now x.t (x.u + p) a b in
    let finite : lanes_finite lanes n x.places x.places ≡ group_finite x.sums x.points n x.times.now x.left.now x.right.now x.t x.u x.places x.out.now =
    all_agree x.places _ _ (λ p hp. place-finite x.sums x.points n x.times.now x.left.now x.right.now x.t x.u lanes p (λ a b ha hb. sum a p b ha hp hb) _ (lt-ltb p x.places hp)) in
    let made : laid_lanes lanes n x.places ≡ group_numbers x.sums x.points n x.times.now x.left.now x.right.now x.t x.u x.places x.out.now =
    join_agree x.places _ _ (λ p hp. place_laid x.sums x.points n x.times.now x.left.now x.right.now x.t x.u lanes p (λ a b ha hb. sum a p b ha hp hb)) in
    let is = group_written x.sums x.points n x.times.now x.left.now x.right.now x.t x.u x.places x.out.now g passed lanes c.group_totals.ensures.0 finite made in
    (c.write_group.ensures.0 ∙ ap (λ (o : SumsOutcome). o.answer) is, c.write_group.ensures.1 ∙ ap (λ (o : SumsOutcome). o.out) is)
