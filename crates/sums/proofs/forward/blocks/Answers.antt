use Rattle.refusal.specs.Verdict.{pass}
use Rattle.std.specs.Prelude.{is_ok, ◌≡◌, ◌∷◌, ◌+◌, ◌-◌, ◌*◌, ◌≤◌, ◌<◌}
use Rattle.lists.specs.Prelude.{refl, sym, ap, ◌∙◌, Bool, true, false, List, [], ℕ, le_refl, le_antisymm, mul-le-mul_right, zero-mul, arith, length, Float, nan, put_mid, put_same}
use Rattle.lists.specs.Indexed.{all_below, join}
use Rattle.lists.specs.Agreement.{never, all_agree, join_agree}
use Rattle.two_time.specs.Calls.{size_checks}
use Rattle.two_time.specs.Summed.{Summed}
use Rattle.two_time.specs.SizeChecks.{SizesPassed, sizes-passed, sizes_pass, long-first, long_also, long-none}
use Rattle.groups.specs.Forward.{forward_finite, forward_block, row_at, Sizes, sizes-of}
use Rattle.groups.specs.Runs.{group_places, places_fit}
use Rattle.groups.specs.Groups.{Grouped, forward_group, forward_finite_lem, forward-overflow}
use Rattle.lanes.specs.Filled.{all-add, all_failed}
use Rattle.sums.specs.Forward.{same-finite, same_block, forward-more, length-forward, put-within, group_within, to_diagonal}
use Rattle.sums.proofs.forward.blocks.Goals as goal

module _ (points n : ℕ) (times free kernel retarded : List Float) (t : ℕ) (ht : t < points) (passed : size_checks points n true (free ∷ kernel ∷ retarded ∷ []) ≡ pass) where
  sizes : SizesPassed points n true (free ∷ kernel ∷ retarded ∷ [])
  sizes = sizes-passed points n true (free ∷ kernel ∷ retarded ∷ []) passed

  abbrev v : ℕ
  v = 2 * (n * n)

  abbrev at : ℕ
  at = row_at points n t

  abbrev finite : ℕ → Bool
  finite = forward_finite points n times free kernel retarded t

  abbrev block : ℕ → List Float
  block = forward_block points n times free kernel retarded t

  -- row t, and its part to the diagonal, lie within the slice
  row : Sizes points n t (length retarded)
  row = sizes-of points n t _ ht sizes.points-most sizes.orbitals-most (long-first _ _ _ (long-first _ _ _ (long-first _ _ _ sizes.long).1).1).0

  fit : at + (t + 1) * v ≤ length retarded
  fit = let r = row in omega (arith, r.row, to_diagonal points v t ht)

  module _ (u : ℕ) (now : List Float) (reached : u ≤ t + 1) (long : length now ≡ length retarded) (is : now ≡ put_mid at (u * v) retarded (join u block)) where
    -- the slices keep their length
    still : size_checks points n true (free ∷ kernel ∷ now ∷ []) ≡ pass
    still =
        let f = long-first _ _ _ sizes.long in
        let k = long-first _ _ _ f.1 in
        let g = long-first _ _ _ k.1 in
        sizes_pass _ sizes (long_also _ _ _ f.0 (long_also _ _ _ k.0 (long_also _ _ _ (long ∙ g.0) (long-none _))))

    -- what stands elsewhere is as it was
    elsewhere : (ys : List Float) → put_mid at ((t + 1) * v) now ys ≡ put_mid at ((t + 1) * v) retarded ys
    elsewhere ys =
        ap (λ (xs : List Float). put_mid at ((t + 1) * v) xs ys) is
        ∙ put-within at ((t + 1) * v) at (u * v) retarded (join u block) ys nan fit (le_refl at) (omega (arith, mul-le-mul_right v reached)) (length-forward points n times free kernel retarded t u)

    module _ (m : ℕ) (more : u < t + 1) (places : (0 < m) × (m ≤ t + 1 - u) × (m ≤ 16) × (m * n ≤ 16)) where
      -- the next group
      there : Grouped points n t u m
      there =
          let z = sizes in
          record { points-most = z.points-most; orbitals-most = z.orbitals-most; row = ht; first = omega arith; some = places.0; most = places.2; fit = omega (arith, places.1); few = places.3 }

      under : u + m ≤ t + 1
      under = omega (arith, places.1)

      -- its tests and its blocks are those of the slice as it was
      fines : all_below m (λ p. forward_finite points n times free kernel now t (u + p)) ≡ all_below m (λ p. finite (u + p))
      fines = let r = row in all_agree _ _ _ (λ p hp. same-finite points n times free kernel retarded t ht (omega (arith, r.row)) (u * v) (join u block) now is (u + p) (omega (arith, hp, there.fit)))

      made : join m (λ p. forward_block points n times free kernel now t (u + p)) ≡ join m (λ p. block (u + p))
      made = let r = row in join_agree _ _ _ (λ p hp. same_block points n times free kernel retarded t ht (omega (arith, r.row)) (u * v) (join u block) now is (u + p) (omega (arith, hp, there.fit)))

      module _ (answer : Summed) (after : List Float) (a : answer ≡ (forward_group points n times free kernel now t u m).answer) (o : after ≡ (forward_group points n times free kernel now t u m).out) where
        failed : is_ok answer ≡ false → (false ≡ all_below (t + 1) finite) × (false ≡ true → after ≡ put_mid at ((t + 1) * v) retarded (join (t + 1) block))
            × ((ys : List Float) → put_mid at ((t + 1) * v) after ys ≡ put_mid at ((t + 1) * v) retarded ys)
        failed h = (
          sym (all_failed finite u m (t + 1) under (sym fines ∙ forward-overflow points n times free kernel now t u m there under still answer after a o h)),
          (λ g. never g),
          λ ys. ap (λ (xs : List Float). put_mid at ((t + 1) * v) xs ys) o ∙ group_within points n times free kernel now t u m ys (let f = fit in omega (arith, long)) under ∙ elsewhere ys,
        )

        told : is_ok answer ≡ true → all_below u finite ≡ true → (all_below (u + m) finite ≡ true) × (after ≡ put_mid at ((u + m) * v) retarded (join (u + m) block))
        told h before =
            let r = row in
            let w = forward_finite_lem points n times free kernel now t u m there under still answer after a o h in (
              all-add u finite m ∙ rw before (sym fines ∙ w.0),
              w.1 ∙ ap (λ (ys : List Float). put_mid (at + u * v) (m * v) now ys) made
                  ∙ ap (λ (xs : List Float). put_mid (at + u * v) (m * v) xs (join m (λ p. block (u + p)))) is
                  ∙ forward-more points n times free kernel retarded t u m (m * v) (omega (arith, r.row)) refl,
            )

pub loop-u-init : goal.loop-u-init
unfolding all_below join
loop-u-init c =
    let x = c.args in
    record {
      reached = omega arith;
      long = refl;
      passed = refl;
      is = sym (ap (λ (k : ℕ). put_mid (row_at x.points x.orbitals x.t) k x.retarded.now []) (zero-mul (2 * (x.orbitals * x.orbitals))) ∙ put_same (row_at x.points x.orbitals x.t) 0 x.retarded.now);
    }

pub overflow_add-t : goal.overflow_add-t
overflow_add-t c = let z = sizes-passed _ _ _ _ c.requires.1 in omega (arith, c.requires.0, z.points-most)

pub overflow_add-t-in-loop-u : goal.overflow_add-t-in-loop-u
overflow_add-t-in-loop-u c = let z = sizes-passed _ _ _ _ c.requires.1 in omega (arith, c.requires.0, z.points-most)

-- the places of the next group
next : (points n t u m : ℕ) (xss : List (List Float)) → size_checks points n true xss ≡ pass → u < t + 1 → m ≡ group_places (t + 1 - u) n → (0 < m) × (m ≤ t + 1 - u) × (m ≤ 16) × (m * n ≤ 16)
next points n t u m xss passed h e = let z = sizes-passed _ _ _ _ passed in places_fit (t + 1 - u) n m (omega (arith, h)) z.orbitals-least z.orbitals-most e

pub returns-then-is_err : goal.returns-then-is_err
returns-then-is_err c =
    let x = c.args in let i = c.loop-u.invariant in
    failed x.points x.orbitals x.times.now x.free.now x.kernel.now x.retarded.now x.t c.requires.0 c.requires.1 c.loop-u.u c.loop-u.retarded i.reached i.long i.is
    c.group_places-places.result c.loop-u-test.true (next c.args.points c.args.orbitals c.args.t c.loop-u.u c.group_places-places.result _ c.requires.1 c.loop-u-test.true c.group_places-places.ensures) c.forward_group.result _ c.forward_group.ensures.0 c.forward_group.ensures.1 c.if-is_err.ensures.negation

pub overflow_add-u : goal.overflow_add-u
overflow_add-u c = let z = sizes-passed _ _ _ _ c.requires.1 in omega (arith, (next c.args.points c.args.orbitals c.args.t c.loop-u.u c.group_places-places.result _ c.requires.1 c.loop-u-test.true c.group_places-places.ensures).1, c.requires.0, z.points-most, c.loop-u-test.true)

pub loop-u-preserved : goal.loop-u-preserved
loop-u-preserved c =
    let x = c.args in let i = c.loop-u.invariant in
    let w = told x.points x.orbitals x.times.now x.free.now x.kernel.now x.retarded.now x.t c.requires.0 c.requires.1 c.loop-u.u c.loop-u.retarded i.reached i.long i.is
    c.group_places-places.result c.loop-u-test.true (next c.args.points c.args.orbitals c.args.t c.loop-u.u c.group_places-places.result _ c.requires.1 c.loop-u-test.true c.group_places-places.ensures) c.forward_group.result _ c.forward_group.ensures.0 c.forward_group.ensures.1 c.if-is_err.ensures.negation i.passed in
    record {
      reached = omega (arith, (next c.args.points c.args.orbitals c.args.t c.loop-u.u c.group_places-places.result _ c.requires.1 c.loop-u-test.true c.group_places-places.ensures).1, c.loop-u-test.true);
      long = c.forward_group.auto.retarded ∙ i.long;
      passed = w.0;
      is = w.1;
    }

pub returns : goal.returns
returns c =
    let x = c.args in let n = x.orbitals in let i = c.loop-u.invariant in
    let e : c.loop-u.u ≡ x.t + 1 = le_antisymm i.reached c.loop-u-test.false in (
      sym (ap (λ (k : ℕ). all_below k (forward_finite x.points n x.times.now x.free.now x.kernel.now x.retarded.now x.t)) (sym e) ∙ i.passed),
      (λ h. i.is ∙ ap (λ (k : ℕ). put_mid (row_at x.points n x.t) (k * (2 * (n * n))) x.retarded.now (join k (forward_block x.points n x.times.now x.free.now x.kernel.now x.retarded.now x.t))) e),
      elsewhere x.points n x.times.now x.free.now x.kernel.now x.retarded.now x.t c.requires.0 c.requires.1 c.loop-u.u c.loop-u.retarded i.reached i.long i.is,
    )

pub loop-u-smaller : goal.loop-u-smaller
loop-u-smaller c =
    let places = next c.args.points c.args.orbitals c.args.t c.loop-u.u c.group_places-places.result _ c.requires.1 c.loop-u-test.true c.group_places-places.ensures in
    omega (arith, places.0, places.1, c.loop-u-test.true)
