-- Unfit, or the product that the lanes hold is written.
use Rattle.std.specs.Prelude.{◌≡◌, ◌&&◌, ◌∷◌, ◌+◌, ◌*◌, ◌≤◌, ◌<◌}
use Rattle.lists.specs.Prelude.{sym, ap, rules, ◌∙◌, Bool, List, [], ℕ, mul-le-mul_right, digits_lt, arith, ltb, ltb-true, length, Float}
use Rattle.lists.specs.Agreement.{both}
use Rattle.refusal.specs.Verdict.{pass, Verdict, ◌then◌}
use Rattle.refusal.specs.Checks.{large_enough, within_limits, fitting}
use Rattle.block.specs.Block.{lay_out}
use Rattle.block.specs.Operations.{all_finite}
use Rattle.two_time.specs.Calls.{all_fit, size_checks}
use Rattle.two_time.specs.Start.{occupied_first, holds_block}
use Rattle.two_time.specs.Outcome.{SumsOutcome}
use Rattle.two_time.specs.Summed.{unfit_of}
use Rattle.two_time.specs.SizeChecks.{sizes-passed, sizes_asked_lem, long-first}
use Rattle.lanes.specs.Lanes.{lane_at}
use Rattle.groups.specs.Forward.{Sizes, sizes-of}
use Rattle.groups.specs.Groups.{Grouped}
use Rattle.groups.specs.Onto.{outcome-unfit, outcome-written}
use Rattle.starts.specs.Calls.{first_of, first_factor}
use Rattle.starts.specs.Products.{block_held, first-product, dot, right_at, stored_block}
use Rattle.starts.specs.Lanes.{one-finite, one_laid}
use Rattle.starts.proofs.first_factor.Goals as goal

asked : (points n t : ℕ) (g0 retarded : List Float) {holds fits : Bool} {v told : Verdict} → holds ≡ holds_block n g0 → fits ≡ all_fit points n (retarded ∷ [])
    → v ≡ (large_enough points n then within_limits points n then fitting ((ltb t points && holds) && fits)) → v ≡ told → size_checks points n (ltb t points && holds_block n g0) (retarded ∷ []) ≡ told
asked points n t g0 retarded {holds = holds} h f a e =
    ap (λ (b : Bool). size_checks points n (ltb t points && b) (retarded ∷ [])) (sym h) ∙ sym (sizes_asked_lem points n (retarded ∷ []) (ltb t points && holds) _ _ f a) ∙ e

-- what it says that the checks pass
record Stands (points n t : ℕ) (g0 retarded : List Float) : Type 0 where
  there : Grouped points n t 0 1
  held : 2 * (n * n) ≤ length g0
  sized : Sizes points n t (length retarded)
  room : 2 * (n * n) ≤ points * (2 * (n * n))

stands : (points n t : ℕ) (g0 retarded : List Float) → size_checks points n (ltb t points && holds_block n g0) (retarded ∷ []) ≡ pass → Stands points n t g0 retarded
stands points n t g0 retarded passed =
    let z = sizes-passed points n (ltb t points && holds_block n g0) (retarded ∷ []) passed in
    let tests = both (ltb t points) (holds_block n g0) z.others in
    let row = ltb-true _ _ tests.0 in
    record {
      there = record { points-most = z.points-most; orbitals-most = z.orbitals-most; row = row; first = omega arith; some = omega arith; most = omega arith; fit = omega arith; few = omega (arith, z.orbitals-most) };
      held = block_held _ _ tests.1;
      sized = sizes-of points n t _ row z.points-most z.orbitals-most (long-first _ _ _ z.long).0;
      room = let h = mul-le-mul_right (2 * (n * n)) (let l : 1 ≤ points = omega arith in l) in omega arith;
    }

pub returns-in_err-check_sizes : goal.returns-in_err-check_sizes
unfolding first_factor
returns-in_err-check_sizes c =
    let x = c.args in
    let o = outcome-unfit x.orbitals 1 _ _ _ x.out.now _ (asked x.points x.orbitals x.t x.g0.now x.retarded.now c.holds_block-holds.ensures c.has_length-retarded_fits.ensures c.check_sizes.ensures c.in_err-check_sizes.was) in
    (unfit_of _ c.from_residual.ensures ∙ o.0, o.1)

stood : (c : goal.In_ok-check_sizes) → let x = c.args in Stands x.points x.orbitals x.t x.g0.now x.retarded.now
stood c = let x = c.args in stands x.points x.orbitals x.t x.g0.now x.retarded.now (asked x.points x.orbitals x.t x.g0.now x.retarded.now c.holds_block-holds.ensures c.has_length-retarded_fits.ensures c.check_sizes.ensures c.in_ok-check_sizes.was)

pub overflow_mul-width : goal.overflow_mul-width
overflow_mul-width c = let z = stood c in omega (arith, z.there.orbitals-most)

pub overflow_mul-i : goal.overflow_mul-i
overflow_mul-i c = let z = stood c in omega (arith, z.sized.block)

pub overflow_mul-i-2 : goal.overflow_mul-i-2
overflow_mul-i-2 c = let z = stood c in omega (arith, z.sized.wide)

pub overflow_mul-i-3 : goal.overflow_mul-i-3
overflow_mul-i-3 c = let z = stood c in omega (arith, z.sized.row, z.sized.all)

pub product_lanes-requires-clause-orbitals_bound : goal.product_lanes-requires-clause-orbitals_bound
product_lanes-requires-clause-orbitals_bound c =
    let x = c.args in
    let z = stands x.points x.orbitals x.t x.g0.now x.retarded.now (asked x.points x.orbitals x.t x.g0.now x.retarded.now c.holds_block-holds.ensures c.has_length-retarded_fits.ensures c.check_sizes.ensures c.in_ok-check_sizes.was) in
    (z.there.orbitals-most, omega (arith, z.sized.row, z.room, z.held), λ p b k hp hb hk. omega (arith, digits_lt hk hb, z.sized.row, z.room, z.held))

pub product_lanes-requires-clause-orbitals_bound_2 : goal.product_lanes-requires-clause-orbitals_bound_2
product_lanes-requires-clause-orbitals_bound_2 c =
    let x = c.args in
    ((stands x.points x.orbitals x.t x.g0.now x.retarded.now (asked x.points x.orbitals x.t x.g0.now x.retarded.now c.holds_block-holds.ensures c.has_length-retarded_fits.ensures c.check_sizes.ensures c.in_ok-check_sizes.was)).there.few, search rules)

-- what the lanes hold is the product that the definition names
product_is : (points n t : ℕ) (g0 retarded : List Float) (a b : ℕ) →
    dot n retarded (t * (points * (2 * n * n)) + a * (2 * n)) (right_at (stored_block n) g0 0 b) ≡ first_of points n retarded g0 t a b
unfolding occupied_first
product_is points n t g0 retarded a b = first-product points n retarded g0 t 0 a b

pub returns : goal.returns
unfolding first_factor
returns c =
    let x = c.args in let n = x.orbitals in
    let passed = asked x.points x.orbitals x.t x.g0.now x.retarded.now c.holds_block-holds.ensures c.has_length-retarded_fits.ensures c.check_sizes.ensures c.in_ok-check_sizes.was in
    let lanes = c.product_lanes.new.lanes in
    let made = first_of x.points n x.retarded.now x.g0.now x.t in
    let same : (a b : ℕ) → a < n → b < n → lane_at lanes a (0 * n + b) ≡ made a b =
    λ a b ha hb. c.product_lanes.ensures.1 a 0 b ha (omega arith) hb ∙ product_is x.points n x.t x.g0.now x.retarded.now a b in
    let is = outcome-written n 1 _ (all_finite n n made) (lay_out n n made) x.out.now (stands x.points n x.t x.g0.now x.retarded.now passed).there passed lanes c.product_lanes.ensures.0
    (one-finite n made lanes same) (one_laid n made lanes same) in
    (c.write_group.ensures.0 ∙ ap (λ (o : SumsOutcome). o.answer) is, c.write_group.ensures.1 ∙ ap (λ (o : SumsOutcome). o.out) is)
