-- Unfit, finite, or not finite with the new places cleared.
use Rattle.std.specs.Prelude.{◌&&◌}
use Rattle.lists.specs.Prelude.{sym, ◌∙◌, leb, leb-true}
use Rattle.lists.specs.Agreement.{both}
use Rattle.two_time.specs.Outcome.{new_sums, summed_answer, new_out}
use Rattle.two_time.specs.Summed.{unfit_of}
use Rattle.two_time.specs.SizeChecks.{sizes-passed, sizes_pass, long-first, long_also, long-none}
use Rattle.two_time.specs.Cleared.{fits_new_lem}
use Rattle.sums.proofs.Lent.{asked}
use Rattle.sums.proofs.new_sums.Goals as goal

pub returns-in_err-check_sizes : goal.returns-in_err-check_sizes
unfolding new_sums summed_answer new_out
returns-in_err-check_sizes c =
    let x = c.args in
    let refused = asked x.shape.capacity x.shape.orbitals (leb x.old x.shape.points && leb x.shape.points x.shape.capacity) x.left.now x.right.now x.out.now c.has_length-left_fits.ensures c.has_length-right_fits.ensures c.has_length-out_fits.ensures c.check_sizes.ensures c.in_err-check_sizes.was in
    (unfit_of _ c.from_residual.ensures ∙ rw refused, rw refused)

pub fill-requires : goal.fill-requires
fill-requires c =
    let x = c.args in
    let z = sizes-passed _ _ _ _ (asked x.shape.capacity x.shape.orbitals (leb x.old x.shape.points && leb x.shape.points x.shape.capacity) x.left.now x.right.now x.out.now c.has_length-left_fits.ensures c.has_length-right_fits.ensures c.has_length-out_fits.ensures c.check_sizes.ensures c.in_ok-check_sizes.was) in
    let l = long-first _ _ _ z.long in
    let r = long-first _ _ _ l.1 in
    let o = long-first _ _ _ r.1 in
    let orders = both (leb x.old x.shape.points) _ z.others in
    record {
      le_points = (leb-true _ _ orders.0, leb-true _ _ orders.1, sizes_pass _ z (long_also _ _ _ l.0 (long_also _ _ _ r.0 (long-none _))));
      out_len = o.0;
    }

pub returns-then-fill : goal.returns-then-fill
unfolding new_sums summed_answer new_out
returns-then-fill c =
    let x = c.args in
    let passed = asked x.shape.capacity x.shape.orbitals (leb x.old x.shape.points && leb x.shape.points x.shape.capacity) x.left.now x.right.now x.out.now c.has_length-left_fits.ensures c.has_length-right_fits.ensures c.has_length-out_fits.ensures c.check_sizes.ensures c.in_ok-check_sizes.was in
    let finite = sym c.fill.ensures.0 ∙ c.if-fill.true in
    (rw (passed, finite), rw (passed, finite) (c.fill.ensures.1 c.if-fill.true))

pub returns : goal.returns
unfolding new_sums summed_answer new_out
returns c =
    let x = c.args in
    let passed = asked x.shape.capacity x.shape.orbitals (leb x.old x.shape.points && leb x.shape.points x.shape.capacity) x.left.now x.right.now x.out.now c.has_length-left_fits.ensures c.has_length-right_fits.ensures c.has_length-out_fits.ensures c.check_sizes.ensures c.in_ok-check_sizes.was in
    let z = sizes-passed _ _ _ _ passed in
    let finite = sym c.fill.ensures.0 ∙ c.if-fill.false in
    let o = long-first _ _ _ (long-first _ _ _ (long-first _ _ _ z.long).1).1 in (
      rw (passed, finite),
      rw (passed, finite) (c.clear_new.ensures ∙ rw (fits_new_lem x.shape.capacity x.shape.orbitals x.old x.shape.points c.fill.new.out z.others z.points-most z.orbitals-most (c.fill.auto.out ∙ o.0)) c.fill.ensures.2),
    )
