-- Unfit, or the sums from what the lanes hold are written.
use Rattle.std.specs.Prelude.{◌≡◌, ◌&&◌, ◌∷◌, ◌+◌, ◌*◌, ◌≤◌, ◌<◌}
use Rattle.lists.specs.Prelude.{rules, sym, ap, ap₂, ◌∙◌, Bool, List, [], ℕ, arith, length, Float}
use Rattle.lists.specs.Indexed.{all_below, join}
use Rattle.lists.specs.Agreement.{both}
use Rattle.refusal.specs.Verdict.{pass, Verdict, ◌then◌}
use Rattle.refusal.specs.Checks.{large_enough, within_limits, fitting}
use Rattle.two_time.specs.declared.sums.Sums.TheVariants.{Lesser}
use Rattle.two_time.specs.Calls.{all_fit, size_checks}
use Rattle.two_time.specs.Start.{holds_block}
use Rattle.two_time.specs.Outcome.{SumsOutcome, flagged}
use Rattle.two_time.specs.Summed.{unfit_of}
use Rattle.two_time.specs.SizeChecks.{sizes-passed, sizes_pass, sizes_asked_lem, fits_more, long-first}
use Rattle.lanes.specs.Lanes.{lane_at}
use Rattle.groups.specs.Forward.{Sizes, sizes-of}
use Rattle.groups.specs.Groups.{is_group, Grouped, grouped}
use Rattle.groups.specs.Onto.{group_outcome, group_onto, outcome-unfit}
use Rattle.starts.specs.Calls.{start_of, from_finite, from_block, group_from}
use Rattle.starts.specs.Products.{block_held, start-product, adjoint-inside}
use Rattle.starts.specs.Lanes.{from_finite_lem, from_numbers_lem}
use Rattle.starts.proofs.group_from.Goals as goal

module _ (points n t u places : ℕ) (filled retarded lesser_advanced : List Float) where
  asked : {there holds fits fits_too : Bool} {v told : Verdict} → there ≡ is_group points n t u places → holds ≡ holds_block n filled
      → fits ≡ all_fit points n (retarded ∷ []) → fits_too ≡ all_fit points n (lesser_advanced ∷ [])
      → v ≡ (large_enough points n then within_limits points n then fitting ((there && holds) && (fits && fits_too))) → v ≡ told
      → size_checks points n (is_group points n t u places && holds_block n filled) (retarded ∷ lesser_advanced ∷ []) ≡ told
  asked {there = there} {holds = holds} i h r l a e =
      ap₂ (λ (f g : Bool). size_checks points n (f && g) (retarded ∷ lesser_advanced ∷ [])) (sym i) (sym h)
      ∙ sym (sizes_asked_lem points n (retarded ∷ lesser_advanced ∷ []) (there && holds) _ _ (fits_more points n retarded (lesser_advanced ∷ []) _ _ r l) a) ∙ e

  -- what it says that the checks pass
  record Stands : Type 0 where
    there : Grouped points n t u places
    held : 2 * (n * n) ≤ length filled
    long : length retarded ≡ 2 * points * points * n * n
    sized : Sizes points n u (length retarded)
    onto : size_checks points n (is_group points n t u places) (retarded ∷ lesser_advanced ∷ []) ≡ pass

  stands : size_checks points n (is_group points n t u places && holds_block n filled) (retarded ∷ lesser_advanced ∷ []) ≡ pass → Stands
  stands passed =
      let z = sizes-passed points n (is_group points n t u places && holds_block n filled) (retarded ∷ lesser_advanced ∷ []) passed in
      let tests = both (is_group points n t u places) (holds_block n filled) z.others in
      let g = grouped _ _ _ _ _ tests.0 in
      let long = (long-first _ _ _ z.long).0 in
      record {
        there = g;
        held = block_held _ _ tests.1;
        long = long;
        sized = sizes-of points n u _ g.first g.points-most g.orbitals-most long;
        onto = flagged _ _ _ _ tests.0 (sizes_pass _ z z.long);
      }

pub returns-in_err-check_sizes : goal.returns-in_err-check_sizes
unfolding group_from
returns-in_err-check_sizes c =
    let x = c.args in
    let o = outcome-unfit x.orbitals x.places _ _ _ x.out.now _ (asked x.points x.orbitals x.t x.u x.places x.filled.now x.retarded.now x.lesser_advanced.now c.is_group-there.ensures c.holds_block-holds.ensures c.has_length-retarded_fits.ensures c.has_length-lesser_advanced_fits.ensures c.check_sizes.ensures c.in_err-check_sizes.was) in
    (unfit_of _ c.from_residual.ensures ∙ o.0, o.1)

stood : (c : goal.In_ok-check_sizes) → let x = c.args in Stands x.points x.orbitals x.t x.u x.places x.filled.now x.retarded.now x.lesser_advanced.now
stood c = let x = c.args in stands x.points x.orbitals x.t x.u x.places x.filled.now x.retarded.now x.lesser_advanced.now (asked x.points x.orbitals x.t x.u x.places x.filled.now x.retarded.now x.lesser_advanced.now c.is_group-there.ensures c.holds_block-holds.ensures c.has_length-retarded_fits.ensures c.has_length-lesser_advanced_fits.ensures c.check_sizes.ensures c.in_ok-check_sizes.was)

pub overflow_mul-width : goal.overflow_mul-width
overflow_mul-width c = let z = stood c in omega (arith, z.there.orbitals-most)

pub overflow_mul-next : goal.overflow_mul-next
overflow_mul-next c = let z = stood c in omega (arith, z.sized.block)

pub overflow_mul-next-2 : goal.overflow_mul-next-2
overflow_mul-next-2 c = let z = stood c in omega (arith, z.sized.wide)

pub overflow_mul-columns : goal.overflow_mul-columns
overflow_mul-columns c = let z = stood c in omega (arith, z.sized.row, z.sized.all)

pub product_lanes-requires-clause-orbitals_bound : goal.product_lanes-requires-clause-orbitals_bound
product_lanes-requires-clause-orbitals_bound c =
    let x = c.args in let z = stands x.points x.orbitals x.t x.u x.places x.filled.now x.retarded.now x.lesser_advanced.now (asked x.points x.orbitals x.t x.u x.places x.filled.now x.retarded.now x.lesser_advanced.now c.is_group-there.ensures c.holds_block-holds.ensures c.has_length-retarded_fits.ensures c.has_length-lesser_advanced_fits.ensures c.check_sizes.ensures c.in_ok-check_sizes.was) in let g = z.there in
    (g.orbitals-most, omega (arith, z.held), λ p b k hp hb hk. adjoint-inside x.points x.orbitals _ x.u x.places g.points-most g.orbitals-most g.fit z.long p b k hp hb hk)

pub product_lanes-requires-clause-orbitals_bound_2 : goal.product_lanes-requires-clause-orbitals_bound_2
product_lanes-requires-clause-orbitals_bound_2 c = let x = c.args in ((stands x.points x.orbitals x.t x.u x.places x.filled.now x.retarded.now x.lesser_advanced.now (asked x.points x.orbitals x.t x.u x.places x.filled.now x.retarded.now x.lesser_advanced.now c.is_group-there.ensures c.holds_block-holds.ensures c.has_length-retarded_fits.ensures c.has_length-lesser_advanced_fits.ensures c.check_sizes.ensures c.in_ok-check_sizes.was)).there.few, search rules)

pub returns : goal.returns
unfolding group_from group_onto
returns c =
    let x = c.args in let n = x.orbitals in
    let passed = asked x.points x.orbitals x.t x.u x.places x.filled.now x.retarded.now x.lesser_advanced.now c.is_group-there.ensures c.holds_block-holds.ensures c.has_length-retarded_fits.ensures c.has_length-lesser_advanced_fits.ensures c.check_sizes.ensures c.in_ok-check_sizes.was in
    let lanes = c.product_lanes.new.lanes in
    let same : (a p b : ℕ) → a < n → p < x.places → b < n → lane_at lanes a (p * n + b) ≡ start_of x.points n x.retarded.now x.filled.now (x.u + p) a b =
    λ a p b ha hp hb. c.product_lanes.ensures.1 a p b ha hp hb ∙ start-product x.points n x.filled.now x.retarded.now x.u p a b in
    let finite = all_below x.places (λ p. from_finite x.points n x.times.now x.retarded.now x.lesser_advanced.now x.filled.now x.t (x.u + p)) in
    let made = join x.places (λ p. from_block x.points n x.times.now x.retarded.now x.lesser_advanced.now x.filled.now x.t (x.u + p)) in
    let checks = size_checks x.points n (is_group x.points n x.t x.u x.places && holds_block n x.filled.now) (x.retarded.now ∷ x.lesser_advanced.now ∷ []) in
    let is : group_onto Lesser x.points n x.times.now x.retarded.now x.lesser_advanced.now lanes x.t x.u x.places x.out.now ≡ group_outcome n x.places checks finite made x.out.now =
    rw (
      (stands x.points x.orbitals x.t x.u x.places x.filled.now x.retarded.now x.lesser_advanced.now passed).onto,
      passed,
      from_finite_lem x.points n x.times.now x.retarded.now x.lesser_advanced.now x.filled.now x.t x.u x.places lanes same,
      from_numbers_lem x.points n x.times.now x.retarded.now x.lesser_advanced.now x.filled.now x.t x.u x.places lanes same,
    ) in
    (c.group_onto.ensures.0 ∙ ap (λ (o : SumsOutcome). o.answer) is, c.group_onto.ensures.1 ∙ ap (λ (o : SumsOutcome). o.out) is)
