-- Unfit, finite, or not finite with the new places cleared.
use Rattle.std.specs.Prelude.{◌≡◌, ◌&&◌, ◌∷◌}
use Rattle.lists.specs.Prelude.{sym, ap, ◌∙◌, Bool, List, [], ℕ, Float, leb, leb-true}
use Rattle.lists.specs.Agreement.{both}
use Rattle.refusal.specs.Verdict.{pass, Verdict, ◌then◌}
use Rattle.refusal.specs.Checks.{large_enough, within_limits, fitting}
use Rattle.two_time.specs.Calls.{all_fit, size_checks}
use Rattle.two_time.specs.Start.{holds_block, new_lesser_from}
use Rattle.two_time.specs.Outcome.{summed_answer, new_out}
use Rattle.two_time.specs.Summed.{unfit_of}
use Rattle.two_time.specs.SizeChecks.{sizes-passed, sizes_pass, sizes_asked_lem, fits_more, long-first, long_also, long-none}
use Rattle.two_time.specs.Cleared.{fits_new_lem}
use Rattle.lesser.proofs.new_lesser_from.Goals as goal

asked : (points n : ℕ) (there : Bool) (g0 first second third : List Float) {holds one two three : Bool} {v told : Verdict} → holds ≡ holds_block n g0
    → one ≡ all_fit points n (first ∷ []) → two ≡ all_fit points n (second ∷ []) → three ≡ all_fit points n (third ∷ [])
    → v ≡ (large_enough points n then within_limits points n then fitting ((there && holds) && (one && (two && three)))) → v ≡ told
    → size_checks points n (there && holds_block n g0) (first ∷ second ∷ third ∷ []) ≡ told
asked points n there g0 first second third {holds = holds} h f s t a e =
    ap (λ (b : Bool). size_checks points n (there && b) (first ∷ second ∷ third ∷ [])) (sym h)
    ∙ sym (sizes_asked_lem points n (first ∷ second ∷ third ∷ []) (there && holds) _ _ (fits_more points n first (second ∷ third ∷ []) _ _ f (fits_more points n second (third ∷ []) _ _ s t)) a) ∙ e

pub returns-in_err-check_sizes : goal.returns-in_err-check_sizes
unfolding new_lesser_from summed_answer new_out
returns-in_err-check_sizes c =
    let x = c.args in
    let refused = asked x.shape.capacity x.shape.orbitals (leb x.old x.shape.points && leb x.shape.points x.shape.capacity) x.g0.now x.retarded.now x.lesser_advanced.now x.out.now c.holds_block-holds.ensures c.has_length-retarded_fits.ensures c.has_length-lesser_advanced_fits.ensures c.has_length-out_fits.ensures c.check_sizes.ensures c.in_err-check_sizes.was in
    (unfit_of _ c.from_residual.ensures ∙ rw refused, rw refused)

pub fill-requires : goal.fill-requires
fill-requires c =
    let x = c.args in
    let z = sizes-passed _ _ _ _ (asked x.shape.capacity x.shape.orbitals (leb x.old x.shape.points && leb x.shape.points x.shape.capacity) x.g0.now x.retarded.now x.lesser_advanced.now x.out.now c.holds_block-holds.ensures c.has_length-retarded_fits.ensures c.has_length-lesser_advanced_fits.ensures c.has_length-out_fits.ensures c.check_sizes.ensures c.in_ok-check_sizes.was) in
    let l = long-first _ _ _ z.long in
    let r = long-first _ _ _ l.1 in
    let o = long-first _ _ _ r.1 in
    let f = both (leb x.old x.shape.points && leb x.shape.points x.shape.capacity) _ z.others in
    let orders = both (leb x.old x.shape.points) _ f.0 in
    record {
      le_points = (leb-true _ _ orders.0, leb-true _ _ orders.1, sizes_pass _ z (long_also _ _ _ l.0 (long_also _ _ _ r.0 (long-none _))), f.1);
      out_len = o.0;
    }

pub returns-then-fill : goal.returns-then-fill
unfolding new_lesser_from summed_answer new_out
returns-then-fill c =
    let x = c.args in
    let passed = asked x.shape.capacity x.shape.orbitals (leb x.old x.shape.points && leb x.shape.points x.shape.capacity) x.g0.now x.retarded.now x.lesser_advanced.now x.out.now c.holds_block-holds.ensures c.has_length-retarded_fits.ensures c.has_length-lesser_advanced_fits.ensures c.has_length-out_fits.ensures c.check_sizes.ensures c.in_ok-check_sizes.was in
    let finite = sym c.fill.ensures.0 ∙ c.if-fill.true in
    (rw (passed, finite), rw (passed, finite) (c.fill.ensures.1 c.if-fill.true))

pub returns : goal.returns
unfolding new_lesser_from summed_answer new_out
returns c =
    let x = c.args in
    let passed = asked x.shape.capacity x.shape.orbitals (leb x.old x.shape.points && leb x.shape.points x.shape.capacity) x.g0.now x.retarded.now x.lesser_advanced.now x.out.now c.holds_block-holds.ensures c.has_length-retarded_fits.ensures c.has_length-lesser_advanced_fits.ensures c.has_length-out_fits.ensures c.check_sizes.ensures c.in_ok-check_sizes.was in
    let z = sizes-passed _ _ _ _ passed in
    let finite = sym c.fill.ensures.0 ∙ c.if-fill.false in
    let f = both (leb x.old x.shape.points && leb x.shape.points x.shape.capacity) _ z.others in
    let o = long-first _ _ _ (long-first _ _ _ (long-first _ _ _ z.long).1).1 in (
      rw (passed, finite),
      rw (passed, finite) (c.clear_new.ensures ∙ rw (fits_new_lem x.shape.capacity x.shape.orbitals x.old x.shape.points c.fill.new.out f.0 z.points-most z.orbitals-most (c.fill.auto.out ∙ o.0)) c.fill.ensures.2),
    )
