use Rattle.std.specs.Prelude.{is_ok, ◌≡◌, ◌+◌, ◌-◌, ◌*◌, ◌≤◌, ◌<◌}
use Rattle.std.specs.Borrow.{MutBor}
use Rattle.lists.specs.Prelude.{refl, sym, ap, ◌∙◌, ℕ, Bool, true, List, Float, add_assoc, arith, length, length-take, length-drop, mid_of, put_mid}
use Rattle.lists.specs.Indexed.{all_below, join}
use Rattle.lists.specs.Agreement.{all_agree, join_agree}
use Rattle.two_time.specs.Summed.{Summed}
use Rattle.lanes.specs.Filled.{filled_none, filled_more, filled-all, fails}
use Rattle.groups.specs.Runs.{FitsRun, Writes, group_places, places_fit}
use Rattle.groups.specs.Steps.{put_long}
use Rattle.groups.proofs.NextGroup.{sized, group_left}
use Rattle.groups.proofs.runs.by_groups.Goals as goal

-- the part of the slice that is lent for a group
part_long : (n p m : ℕ) (xs : List Float) → p * (2 * (n * n)) + m * (2 * (n * n)) ≤ length xs
    → length (mid_of (p * (2 * (n * n))) (p * (2 * (n * n)) + m * (2 * (n * n)) - p * (2 * (n * n))) xs) ≡ m * (2 * (n * n))
part_long n p m xs room = simp (length-take, length-drop) (omega (arith, room))

-- what the call for a group says, at the run's places
module _ (n from count p m : ℕ) {len : ℕ} (s : FitsRun n from count len) (h : p < count) (e : m ≡ group_places (count - p) n)
    {finite : ℕ → Bool} {made : ℕ → List Float} {post : ℕ → ℕ → MutBor (List Float) → Summed → MutBor (List Float) → Type 0} (w : Writes n from (from + count) finite made post) where
  said_of_run : {x y : MutBor (List Float)} {r : Summed} → post (from + p) m x r y → length x.now ≡ m * (2 * (n * n))
      → (all_below m (λ k. finite (from + (p + k))) ≡ is_ok r) × (is_ok r ≡ true → y.now ≡ join m (λ k. made (from + (p + k))))
  said_of_run did long =
      let places = places_fit (count - p) n m (omega (arith, h)) s.some s.few e in
      let told = w.said (from + p) m _ _ _ did (omega arith) (omega (arith, h, places.1)) places.0 places.2 places.3 long in
      (sym (all_agree m _ _ (λ k b. ap finite (add_assoc from p k))) ∙ sym told.0, λ ok. told.1 ok ∙ join_agree m _ _ (λ k b. ap made (add_assoc from p k)))

pub loop-p-init : goal.loop-p-init
loop-p-init g c = record { reached = omega arith; long = refl; filled = λ finite made w. filled_none _ _ _ _ }

pub overflow_mul-end : goal.overflow_mul-end
overflow_mul-end g c =
    let x = c.args in let s = sized x.orbitals x.from x.count _ c.if-orbitals-eq0.false c.if-orbitals-gt16.false c.if-from-gt256.false c.if-count-from.false c.if-out-count.false in
    let z = (group_left x.orbitals x.from x.count c.loop-p.p c.group_places-places.result (length x.out.now) s c.loop-p-test.true c.group_places-places.ensures).0 in
    omega (arith, z.room, z.all)

pub overflow_add-end : goal.overflow_add-end
overflow_add-end g c =
    let x = c.args in let s = sized x.orbitals x.from x.count _ c.if-orbitals-eq0.false c.if-orbitals-gt16.false c.if-from-gt256.false c.if-count-from.false c.if-out-count.false in
    let z = (group_left x.orbitals x.from x.count c.loop-p.p c.group_places-places.result (length x.out.now) s c.loop-p-test.true c.group_places-places.ensures).0 in
    omega (arith, z.room, z.all)

pub slice_bounds-group-end : goal.slice_bounds-group-end
slice_bounds-group-end g c =
    let x = c.args in let s = sized x.orbitals x.from x.count _ c.if-orbitals-eq0.false c.if-orbitals-gt16.false c.if-from-gt256.false c.if-count-from.false c.if-out-count.false in
    let z = (group_left x.orbitals x.from x.count c.loop-p.p c.group_places-places.result (length x.out.now) s c.loop-p-test.true c.group_places-places.ensures).0 in
    omega (arith, z.room, c.loop-p.invariant.long)

pub loop-p-smaller : goal.loop-p-smaller
loop-p-smaller g c =
    let x = c.args in let s = sized x.orbitals x.from x.count _ c.if-orbitals-eq0.false c.if-orbitals-gt16.false c.if-from-gt256.false c.if-count-from.false c.if-out-count.false in
    let z = group_left x.orbitals x.from x.count c.loop-p.p c.group_places-places.result (length x.out.now) s c.loop-p-test.true c.group_places-places.ensures in
    omega (arith, z.0.inside, z.1)

pub returns-then-is_err-clause-unfit : goal.returns-then-is_err-clause-unfit
returns-then-is_err-clause-unfit g c = λ h. absurd (h (sized c.args.orbitals c.args.from c.args.count _ c.if-orbitals-eq0.false c.if-orbitals-gt16.false c.if-from-gt256.false c.if-count-from.false c.if-out-count.false))

pub returns-then-is_err-clause-fit : goal.returns-then-is_err-clause-fit
returns-then-is_err-clause-fit g c = λ finite made f w.
    let x = c.args in let m = c.group_places-places.result in let p = c.loop-p.p in
    let s = sized x.orbitals x.from x.count _ c.if-orbitals-eq0.false c.if-orbitals-gt16.false c.if-from-gt256.false c.if-count-from.false c.if-out-count.false in
    let z = (group_left x.orbitals x.from x.count p m (length x.out.now) s c.loop-p-test.true c.group_places-places.ensures).0 in
    let told = said_of_run x.orbitals x.from x.count p m s c.loop-p-test.true c.group_places-places.ensures w c.group.ensures (part_long x.orbitals p m c.loop-p.out (omega (arith, z.room, c.loop-p.invariant.long))) in
    fails x.count (λ k. finite (x.from + k)) (λ k. made (x.from + k)) p m _ z.inside (told.0 ∙ c.if-is_err.ensures.negation)

pub loop-p-preserved : goal.loop-p-preserved
loop-p-preserved g c =
    let x = c.args in let m = c.group_places-places.result in let p = c.loop-p.p in let v = 2 * (x.orbitals * x.orbitals) in
    let s = sized x.orbitals x.from x.count _ c.if-orbitals-eq0.false c.if-orbitals-gt16.false c.if-from-gt256.false c.if-count-from.false c.if-out-count.false in
    let z = (group_left x.orbitals x.from x.count p m (length x.out.now) s c.loop-p-test.true c.group_places-places.ensures).0 in
    let room : p * v + m * v ≤ length c.loop-p.out = omega (arith, z.room, c.loop-p.invariant.long) in
    let same : length (put_mid (p * v) (p * v + m * v - p * v) c.loop-p.out c.group.new.arg4) ≡ length c.loop-p.out = put_long (p * v) (p * v + m * v - p * v) c.loop-p.out c.group.new.arg4 (omega (arith, room)) c.group.auto.arg4 in
    record {
      reached = z.inside;
      long = same ∙ c.loop-p.invariant.long;
      filled = λ finite made w.
          let told = said_of_run x.orbitals x.from x.count p m s c.loop-p-test.true c.group_places-places.ensures w c.group.ensures (part_long x.orbitals p m c.loop-p.out room) in
          filled_more x.count (λ k. finite (x.from + k)) (λ k. made (x.from + k)) v (λ k. w.wide (x.from + k)) x.out.now p m (p * v + m * v - p * v) c.loop-p.out _
          (c.loop-p.invariant.filled finite made w) z.inside (told.0 ∙ c.if-is_err.ensures.negation) (told.1 c.if-is_err.ensures.negation) (omega arith) same;
    }

pub returns-clause-unfit : goal.returns-clause-unfit
returns-clause-unfit g c = λ h. absurd (h (sized c.args.orbitals c.args.from c.args.count _ c.if-orbitals-eq0.false c.if-orbitals-gt16.false c.if-from-gt256.false c.if-count-from.false c.if-out-count.false))

pub returns-clause-fit : goal.returns-clause-fit
returns-clause-fit g c = λ finite made f w.
    filled-all c.args.count _ _ (2 * (c.args.orbitals * c.args.orbitals)) (λ k. w.wide (c.args.from + k)) c.args.out.now c.loop-p.p _ (c.loop-p.invariant.filled finite made w) c.loop-p-test.false f.whole
