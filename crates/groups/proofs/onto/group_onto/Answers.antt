-- Unfit, or what the lanes hold is written.
use Rattle.std.specs.Prelude.{◌≡◌}
use Rattle.lists.specs.Prelude.{ap, ◌∙◌}
use Rattle.two_time.specs.Outcome.{SumsOutcome}
use Rattle.two_time.specs.Summed.{unfit_of}
use Rattle.groups.specs.Onto.{group_onto, outcome-unfit, outcome-written, onto_finite_lem, onto_laid}
use Rattle.groups.proofs.Lent.{asked, lent}
use Rattle.groups.proofs.onto.group_onto.Goals as goal

pub returns-in_err-check_sizes : goal.returns-in_err-check_sizes
unfolding group_onto
returns-in_err-check_sizes c =
    let x = c.args in
    let refused = asked x.points x.orbitals x.left.now x.right.now c.is_group-there.ensures c.has_length-left_fits.ensures c.has_length-right_fits.ensures c.check_sizes.ensures c.in_err-check_sizes.was in
    let o = outcome-unfit x.orbitals x.places _ _ _ x.out.now _ refused in
    (unfit_of _ c.from_residual.ensures ∙ o.0, o.1)

pub group_totals-requires-clause-t_lt_points : goal.group_totals-requires-clause-t_lt_points
group_totals-requires-clause-t_lt_points c =
    let x = c.args in
    let h = lent x.points x.orbitals x.left.now x.right.now x.t x.u x.places
    (asked x.points x.orbitals x.left.now x.right.now c.is_group-there.ensures c.has_length-left_fits.ensures c.has_length-right_fits.ensures c.check_sizes.ensures c.in_ok-check_sizes.was) in
    let g = h.there in
    (g.row, g.points-most, h.some, g.orbitals-most, g.some, g.fit, g.few)

pub group_totals-requires-clause-orbitals_in_bounds : goal.group_totals-requires-clause-orbitals_in_bounds
group_totals-requires-clause-orbitals_in_bounds c =
    let x = c.args in
    let h = lent x.points x.orbitals x.left.now x.right.now x.t x.u x.places
    (asked x.points x.orbitals x.left.now x.right.now c.is_group-there.ensures c.has_length-left_fits.ensures c.has_length-right_fits.ensures c.check_sizes.ensures c.in_ok-check_sizes.was) in
    (h.left-long, h.right-long, h.left-most)

pub returns : goal.returns
unfolding group_onto
returns c =
    let x = c.args in
    let passed = asked x.points x.orbitals x.left.now x.right.now c.is_group-there.ensures c.has_length-left_fits.ensures c.has_length-right_fits.ensures c.check_sizes.ensures c.in_ok-check_sizes.was in
    let h = lent x.points x.orbitals x.left.now x.right.now x.t x.u x.places passed in
    let lanes = c.group_totals.new.totals in
    let sum = c.group_totals.ensures.1 in
    let is = outcome-written x.orbitals x.places _ _ _ x.out.now h.there passed lanes c.group_totals.ensures.0
    (onto_finite_lem x.sums x.points x.orbitals x.times.now x.left.now x.right.now x.starts x.t x.u x.places lanes sum)
    (onto_laid x.sums x.points x.orbitals x.times.now x.left.now x.right.now x.starts x.t x.u x.places lanes sum) in
    (c.write_group.ensures.0 ∙ ap (λ (o : SumsOutcome). o.answer) is, c.write_group.ensures.1 ∙ ap (λ (o : SumsOutcome). o.out) is)
