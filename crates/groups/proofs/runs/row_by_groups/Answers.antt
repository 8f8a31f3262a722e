use Rattle.std.specs.Prelude.{is_ok, ◌≡◌, ◌+◌, ◌-◌, ◌*◌, ◌≤◌, ◌<◌}
use Rattle.lists.specs.Prelude.{sym, subst, ap, ◌∙◌, ℕ, true, false, List, Float, arith, length, mid_of, put_mid, replicate}
use Rattle.complex.specs.Arithmetic.{plus_zero}
use Rattle.two_time.specs.Summed.{Summed}
use Rattle.groups.specs.Runs.{RunOutcome, Reached, group_places, part_of, part_put, runs, run_unfit, run-fit, reached_none, reached_more, reached_refused, reached-all}
use Rattle.groups.specs.Steps.{put_long}
use Rattle.groups.proofs.NextGroup.{sized, group_left}
use Rattle.groups.proofs.runs.row_by_groups.Goals.{then-orbitals-eq0-via-then-orbitals-eq0, then-orbitals-eq0-via-else-orbitals-eq0+then-orbitals-gt16, then-orbitals-eq0-via-else-orbitals-eq0+else-orbitals-gt16+then-from-gt256, then-orbitals-eq0-via-else-orbitals-eq0+else-orbitals-gt16+else-from-gt256+then-count-from}
use Rattle.groups.proofs.runs.row_by_groups.Goals as goal

-- an outcome that is known
told : {made known : RunOutcome} → made ≡ known → (known.answer ≡ made.answer) × (known.out ≡ made.out)
told e = (sym (ap (λ (r : RunOutcome). r.answer) e), sym (ap (λ (r : RunOutcome). r.out) e))

-- a group whose part's length is written otherwise
module _ (answer : ℕ → ℕ → List Float → Summed) (left : ℕ → ℕ → List Float → List Float) (n from count : ℕ) (old : List Float) (p : ℕ) (xs : List Float)
    (r : Reached answer left n from count old p xs) (m : ℕ) (h : p < count) (e : m ≡ group_places (count - p) n)
    (k : ℕ) (is : k ≡ m * (2 * (n * n))) (result : Summed) (ys : List Float)
    (did : (result ≡ answer (from + p) m (mid_of (p * (2 * (n * n))) k xs)) × (ys ≡ left (from + p) m (mid_of (p * (2 * (n * n))) k xs))) where
  abbrev at : ℕ
  at = p * (2 * (n * n))

  answered : is_ok result ≡ is_ok (answer (from + p) m (part_of n p m xs))
  answered = ap is_ok (did.0 ∙ ap (λ (j : ℕ). answer (from + p) m (mid_of at j xs)) is)

  written : put_mid at k xs ys ≡ part_put n p m xs (left (from + p) m (part_of n p m xs))
  written = ap (put_mid at k xs) did.1 ∙ ap (λ (j : ℕ). put_mid at j xs (left (from + p) m (mid_of at j xs))) is

  more : 0 < m → p + m ≤ count → is_ok result ≡ true → length (put_mid at k xs ys) ≡ length xs → Reached answer left n from count old (p + m) (put_mid at k xs ys)
  more some inside ok long =
      subst (λ (zs : List Float). Reached answer left n from count old (p + m) zs) (sym written)
      (reached_more answer left n from count old p xs r m h e some inside (sym answered ∙ ok) (ap length (sym written) ∙ long))

  refused : is_ok result ≡ false → runs answer left n from count count 0 old ≡ record { answer = false; out = replicate (length xs) plus_zero }
  refused fails = reached_refused answer left n from count old p xs r m h e (sym answered ∙ fails)

pub loop-p-init : goal.loop-p-init
loop-p-init g c = reached_none _ _ _ _ _ _

pub overflow_mul-end : goal.overflow_mul-end
overflow_mul-end g c =
    let x = c.args in let s = sized x.orbitals x.from x.count _ c.if-orbitals-eq0.false c.if-orbitals-gt16.false c.if-from-gt256.false c.if-count-from.false c.if-out-count.false in
    let z = group_left x.orbitals x.from x.count c.loop-p.p c.group_places-places.result (length x.out.now) s c.loop-p-test.true c.group_places-places.ensures in
    omega (arith, z.0.room, z.0.all)

pub overflow_add-end : goal.overflow_add-end
overflow_add-end g c =
    let x = c.args in let s = sized x.orbitals x.from x.count _ c.if-orbitals-eq0.false c.if-orbitals-gt16.false c.if-from-gt256.false c.if-count-from.false c.if-out-count.false in
    let z = group_left x.orbitals x.from x.count c.loop-p.p c.group_places-places.result (length x.out.now) s c.loop-p-test.true c.group_places-places.ensures in
    omega (arith, z.0.room, z.0.all)

pub slice_bounds-write-end : goal.slice_bounds-write-end
slice_bounds-write-end g c =
    let x = c.args in let s = sized x.orbitals x.from x.count _ c.if-orbitals-eq0.false c.if-orbitals-gt16.false c.if-from-gt256.false c.if-count-from.false c.if-out-count.false in
    let z = group_left x.orbitals x.from x.count c.loop-p.p c.group_places-places.result (length x.out.now) s c.loop-p-test.true c.group_places-places.ensures in
    omega (arith, z.0.room, c.loop-p.invariant.long)

pub loop-p-smaller : goal.loop-p-smaller
loop-p-smaller g c =
    let x = c.args in let s = sized x.orbitals x.from x.count _ c.if-orbitals-eq0.false c.if-orbitals-gt16.false c.if-from-gt256.false c.if-count-from.false c.if-out-count.false in
    let z = group_left x.orbitals x.from x.count c.loop-p.p c.group_places-places.result (length x.out.now) s c.loop-p-test.true c.group_places-places.ensures in
    omega (arith, z.0.inside, z.1)

pub loop-p-preserved : goal.loop-p-preserved
loop-p-preserved g c =
    let x = c.args in let s = sized x.orbitals x.from x.count _ c.if-orbitals-eq0.false c.if-orbitals-gt16.false c.if-from-gt256.false c.if-count-from.false c.if-out-count.false in
    let z = group_left x.orbitals x.from x.count c.loop-p.p c.group_places-places.result (length x.out.now) s c.loop-p-test.true c.group_places-places.ensures in
    let l = c.loop-p in let m = c.group_places-places.result in let v = 2 * (x.orbitals * x.orbitals) in
    let long : length (put_mid (l.p * v) (l.p * v + m * v - l.p * v) l.out c.write.new.out) ≡ length l.out = put_long (l.p * v) (l.p * v + m * v - l.p * v) l.out c.write.new.out (omega (arith, z.0.room, l.invariant.long)) c.write.auto.out in
    more _ _ x.orbitals x.from x.count x.out.now l.p l.out l.invariant m c.loop-p-test.true c.group_places-places.ensures (l.p * v + m * v - l.p * v) (omega arith) c.write.result c.write.new.out c.write.ensures
    z.1 z.0.inside c.if-is_err.ensures.negation long

pub returns-then-orbitals-eq0 : goal.returns-then-orbitals-eq0
returns-then-orbitals-eq0 g c =
    told (run_unfit _ _ _ _ _ _ (λ f.
    elim c.then-orbitals-eq0.branch [
      | then-orbitals-eq0-via-then-orbitals-eq0 w ↦ omega (arith, f.some, w.if-orbitals-eq0.true)
      | then-orbitals-eq0-via-else-orbitals-eq0+then-orbitals-gt16 w ↦ omega (arith, f.few, w.if-orbitals-gt16.true)
      | then-orbitals-eq0-via-else-orbitals-eq0+else-orbitals-gt16+then-from-gt256 w ↦ omega (arith, f.inside, w.if-from-gt256.true)
      | then-orbitals-eq0-via-else-orbitals-eq0+else-orbitals-gt16+else-from-gt256+then-count-from w ↦ omega (arith, f.inside, w.if-count-from.true)
    ]))

pub returns-then-out-count : goal.returns-then-out-count
returns-then-out-count g c = told (run_unfit _ _ _ _ _ _ (λ f. absurd (c.if-out-count.true f.whole)))

pub returns-then-is_err : goal.returns-then-is_err
returns-then-is_err g c =
    let x = c.args in let s = sized x.orbitals x.from x.count _ c.if-orbitals-eq0.false c.if-orbitals-gt16.false c.if-from-gt256.false c.if-count-from.false c.if-out-count.false in
    let z = group_left x.orbitals x.from x.count c.loop-p.p c.group_places-places.result (length x.out.now) s c.loop-p-test.true c.group_places-places.ensures in
    let l = c.loop-p in let m = c.group_places-places.result in let v = 2 * (x.orbitals * x.orbitals) in
    let long : length (put_mid (l.p * v) (l.p * v + m * v - l.p * v) l.out c.write.new.out) ≡ length l.out = put_long (l.p * v) (l.p * v + m * v - l.p * v) l.out c.write.new.out (omega (arith, z.0.room, l.invariant.long)) c.write.auto.out in
    let t = told (run-fit _ _ _ _ _ _ s ∙ refused _ _ x.orbitals x.from x.count x.out.now l.p l.out l.invariant m c.loop-p-test.true c.group_places-places.ensures (l.p * v + m * v - l.p * v) (omega arith) c.write.result c.write.new.out c.write.ensures c.if-is_err.ensures.negation) in
    (t.0, c.clear.ensures ∙ ap (λ (k : ℕ). replicate k plus_zero) long ∙ t.1)

pub returns : goal.returns
returns g c =
    let x = c.args in
    told (run-fit _ _ _ _ _ _ (sized x.orbitals x.from x.count _ c.if-orbitals-eq0.false c.if-orbitals-gt16.false c.if-from-gt256.false c.if-count-from.false c.if-out-count.false) ∙ reached-all _ _ _ _ _ _ _ _ c.loop-p.invariant c.loop-p-test.false)
