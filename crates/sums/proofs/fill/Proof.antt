-- `sums::fill` meets its contract: before step t the new places of the first t rows are finite and written. Assumes nothing.
use Rattle.std.specs.Prelude.{◌≡◌, ◌&&◌, ◌||◌, ◌∷◌, ◌+◌, ◌-◌, ◌*◌, ◌≤◌, ◌<◌}
use Rattle.lists.specs.Prelude.{refl, sym, ap, ap₂, ◌∙◌, Bool, true, not, List, [], ℕ, le_antisymm, arith, length}
use Rattle.lists.specs.Prelude.{length-take, length-drop, Float, rules, not-true, not-false, mid_of}
use Rattle.lists.specs.Indexed.{all_below}
use Rattle.lists.specs.Agreement.{never}
use Rattle.lists.specs.Steps.{all_more}
use Rattle.refusal.specs.Search.{all-no}
use Rattle.two_time.specs.declared.sums.Sums.{Sums}
use Rattle.two_time.specs.Layout.{TwoTime, read_as}
use Rattle.two_time.specs.New.{is_new, every_new, cleared_new}
use Rattle.two_time.specs.Sums.{sums_of, new_numbers, new_finite}
use Rattle.two_time.specs.Places.{product-most}
use Rattle.two_time.specs.SizeChecks.{SizesPassed, sizes-passed}
use Rattle.two_time.specs.Written.{first_new, first-most, row_asked_lem, written_to, row_step, written-rows, RowPart, row-part}
use Rattle.two_time.proofs.Written.{written_none}
use Rattle.two_time.proofs.Cleared.{cleared_to, cleared-part}
use Rattle.groups.specs.PlaceSums.{block_finite}
use Rattle.sums.proofs.fill.Statement.{statement}
use Rattle.sums.proofs.fill.Tie as tie

-- the sums, and whether those at the new places of row t are finite
abbrev made : Sums → ℕ → ℕ → List Float → List Float → List Float → TwoTime
made sums capacity n times left right = sums_of sums capacity n times (read_as capacity n left) (read_as capacity n right)

abbrev finite_row : Sums → ℕ → ℕ → ℕ → ℕ → List Float → List Float → List Float → ℕ → Bool
finite_row sums capacity n old points times left right t = all_below points (λ u. not (is_new old points t u) || block_finite sums capacity n times left right t u)

abbrev invariant-loop : tie.invariant-loop-t
invariant-loop sums times left right old out₀ points capacity n block width t₀ out t =
    (t ≤ points) × (length out ≡ length out₀) × (all_below t (finite_row sums capacity n old points times left right) ≡ true)
    × (out ≡ written_to capacity n old points (made sums capacity n times left right) out₀ t)

abbrev decreases-loop : tie.decreases-loop-t
decreases-loop sums times left right old out₀ points capacity n block width t₀ out t = points - t

abbrev start : tie.At-loop-t invariant-loop decreases-loop → tie.Start invariant-loop decreases-loop
start l = l.before.before.before.before.before

sizes : (s : tie.Start invariant-loop decreases-loop) → let x = s.args in SizesPassed x.shape.capacity x.shape.orbitals true (x.left.now ∷ x.right.now ∷ [])
sizes s = sizes-passed _ _ _ _ s.requires.0.2

-- where this step's part stands
part : (c : tie.After-first_new-from invariant-loop decreases-loop) → let l = c.before.before in let x = (start l).args in
    RowPart x.shape.capacity x.shape.orbitals x.shape.points l.loop-t.t c.first_new-from.result (length l.loop-t.out)
part c =
    let l = c.before.before in let s = start l in let h = s.requires in let i = l.loop-t.invariant in let z = sizes s in
    row-part _ _ _ _ _ _ z.points-most z.orbitals-most h.0.1 c.before.loop-t-test.true
    (rw c.first_new-from.ensures (first-most _ _ _ h.0.0 c.before.loop-t-test.true)) (i.1 ∙ h.1)

-- its columns
from-most : (c : tie.After-first_new-from invariant-loop decreases-loop) → c.first_new-from.result ≤ (start c.before.before).args.shape.points
from-most c = rw c.first_new-from.ensures (first-most _ _ _ (start c.before.before).requires.0.0 c.before.loop-t-test.true)

-- row t's answer
row_said : (sums : Sums) (capacity n old points : ℕ) (times left right : List Float) (t from : ℕ) (ok : Bool) → old ≤ points → t < points → from ≡ first_new old t
    → ok ≡ all_below (points - from) (λ p. block_finite sums capacity n times left right t (from + p)) → ok ≡ finite_row sums capacity n old points times left right t
row_said sums capacity n old points times left right t from ok within ht ef e =
    e ∙ ap (λ (k : ℕ). all_below (points - k) (λ p. block_finite sums capacity n times left right t (k + p))) ef ∙ sym (row_asked_lem old points t within ht (block_finite sums capacity n times left right t))

-- the rows asked are the new places asked
all-rows : (sums : Sums) (capacity n old points : ℕ) (times left right : List Float)
    → new_finite sums capacity n old points times left right ≡ all_below points (finite_row sums capacity n old points times left right)
unfolding new_finite every_new block_finite
all-rows sums capacity n old points times left right = refl

-- the part that row t is lent
part-long : (f : tie.After-first_new-from invariant-loop decreases-loop) → let l = f.before.before in let x = (start l).args in
    let v = 2 * (x.shape.orbitals * x.shape.orbitals) in let at = l.loop-t.t * (x.shape.capacity * v) in let k = at + x.shape.points * v - (at + f.first_new-from.result * v) in
    length (mid_of (at + f.first_new-from.result * v) k l.loop-t.out) ≡ k
part-long f = let z = part f in simp (length-take, length-drop) (omega (arith, z.start, z.end))

returns : tie.Need-returns-then-not-finite invariant-loop decreases-loop
returns c =
    let w = c.before.before.before in let f = w.before.before in let l = f.before.before in let s = start l in let x = s.args in let ht = f.before.loop-t-test.true in (
      sym (all-rows x.sums x.shape.capacity x.shape.orbitals x.old x.shape.points x.times.now x.left.now x.right.now
          ∙ all-no (finite_row x.sums x.shape.capacity x.shape.orbitals x.old x.shape.points x.times.now x.left.now x.right.now) x.shape.points l.loop-t.t ht
          (sym (row_said x.sums x.shape.capacity x.shape.orbitals x.old x.shape.points x.times.now x.left.now x.right.now l.loop-t.t f.first_new-from.result _ s.requires.0.0 ht f.first_new-from.ensures w.row-finite.ensures.0) ∙ not-true _ c.if-not-finite.true-raw)),
      (λ g. never g),
      cleared-part x.shape.capacity x.shape.orbitals x.old x.shape.points l.loop-t.t f.first_new-from.result _ l.loop-t.out w.row-finite.new.out s.requires.0.0 s.requires.0.1 ht f.first_new-from.ensures (part f).long (l.loop-t.invariant.1 ∙ s.requires.1) (w.row-finite.auto.out ∙ part-long f)
          ∙ ap (cleared_new x.shape.capacity x.shape.orbitals x.old x.shape.points) l.loop-t.invariant.3 ∙ cleared_to x.shape.capacity x.shape.orbitals x.old x.shape.points _ x.out.now l.loop-t.t,
    )

loop-again : tie.Need-loop-t-preserved invariant-loop decreases-loop
loop-again c =
    let o = c.before.before in let w = o.before in let f = w.before.before in let l = f.before.before in let s = start l in let x = s.args in
    let i = l.loop-t.invariant in let z = part f in let ht = f.before.loop-t-test.true in let ok = not-false _ c.if-not-finite.false-raw in
    let rows = finite_row x.sums x.shape.capacity x.shape.orbitals x.old x.shape.points x.times.now x.left.now x.right.now in (
      omega (arith, ht),
      o.out-1.given.1 ∙ i.1,
      all_more l.loop-t.t rows ∙ ap₂ ◌&&◌ i.2 (sym (row_said x.sums x.shape.capacity x.shape.orbitals x.old x.shape.points x.times.now x.left.now x.right.now l.loop-t.t f.first_new-from.result _ s.requires.0.0 ht f.first_new-from.ensures w.row-finite.ensures.0) ∙ ok),
      row_step x.shape.capacity x.shape.orbitals x.old x.shape.points (made x.sums x.shape.capacity x.shape.orbitals x.times.now x.left.now x.right.now) x.out.now l.loop-t.t s.requires.0.0 s.requires.0.1 ht
          f.first_new-from.result _ l.loop-t.out _ f.first_new-from.ensures i.3 (w.row-finite.ensures.1 ok) z.long,
    )

returns-2 : tie.Need-returns invariant-loop decreases-loop
unfolding new_numbers
returns-2 c =
    let l = c.before in let s = start l in let x = s.args in let i = l.loop-t.invariant in
    let e = le_antisymm i.0 c.loop-t-test.false in
    let rows = finite_row x.sums x.shape.capacity x.shape.orbitals x.old x.shape.points x.times.now x.left.now x.right.now in (
      sym (all-rows x.sums x.shape.capacity x.shape.orbitals x.old x.shape.points x.times.now x.left.now x.right.now ∙ ap (λ (k : ℕ). all_below k rows) (sym e) ∙ i.2),
      (λ g. i.3 ∙ ap (λ (k : ℕ). written_to x.shape.capacity x.shape.orbitals x.old x.shape.points (made x.sums x.shape.capacity x.shape.orbitals x.times.now x.left.now x.right.now) x.out.now k) e
          ∙ written-rows x.shape.capacity x.shape.orbitals x.old x.shape.points _ x.out.now s.requires.0.1),
      ap (cleared_new x.shape.capacity x.shape.orbitals x.old x.shape.points) i.3 ∙ cleared_to x.shape.capacity x.shape.orbitals x.old x.shape.points _ x.out.now l.loop-t.t,
    )

abbrev begin : tie.After-slice_known-1 invariant-loop decreases-loop → tie.Start invariant-loop decreases-loop
begin c = c.before.before.before.before

wide : (s : tie.Start invariant-loop decreases-loop) → let x = s.args in (x.shape.orbitals * x.shape.orbitals ≤ 256) × (x.shape.capacity * (2 * (x.shape.orbitals * x.shape.orbitals)) ≤ 131072)
wide s =
    let x = s.args in let z = sizes s in
    let b = product-most x.shape.orbitals x.shape.orbitals z.orbitals-most z.orbitals-most in
    (b, product-most x.shape.capacity (2 * (x.shape.orbitals * x.shape.orbitals)) z.points-most (let w : 2 * (x.shape.orbitals * x.shape.orbitals) ≤ 512 = omega arith in w))

pub fill_spec : {M : Type 1} → statement M
unfolding all_below
fill_spec =
    tie.close (tie.spec invariant-loop decreases-loop
    (λ c. let b = wide (begin c) in omega arith) (λ c. let b = wide (begin c) in omega arith) (λ c. let b = wide (begin c) in omega arith)  -- overflow_mul-block, overflow_mul-block-2, overflow_mul-width
    (λ c. (omega arith, refl, refl, written_none _ _ _ _ _ _ (begin c).requires.1))  -- loop-t-init
    (λ c κs. search rules)  -- first_new-from-requires
    (λ c. let z = part c in omega (arith, z.start, z.end, z.all)) (λ c. let z = part c in omega (arith, z.start, z.end, z.all))  -- overflow_mul-start, overflow_mul-start-in-loop-t
    (λ c. let z = part c in omega (arith, z.start, z.end, z.all)) (λ c. let z = part c in omega (arith, z.start, z.end, z.all))  -- overflow_add-start, overflow_mul-end
    (λ c. let z = part c in omega (arith, z.start, z.end, z.all)) (λ c. let z = part c in omega (arith, z.start, z.end, z.all))  -- overflow_mul-end-in-loop-t, overflow_add-end
    (λ c. from-most c)  -- overflow_sub-points
    (λ c. let z = part c in omega (arith, z.start, z.end, z.all)) (λ c. let z = part c in omega (arith, z.start, z.end, z.all))  -- offset_bounds-out-start, slice_bounds-row-count
    (λ c. let z = part c in omega (arith, z.start, z.end, z.all)) (λ c. let z = part c in omega (arith, z.start, z.end, z.all))  -- slice_bounds-row-start, slice_bounds-row-end
    (λ c κs. let f = c.before in let l = f.before.before in let s = start l in let z = part f in let most = from-most f in
    ((omega (arith, f.before.loop-t-test.true, s.requires.0.1), omega (arith, s.requires.0.1, most), s.requires.0.2), simp (length-take, length-drop) (omega (arith, z.start, z.end, z.long))))  -- row-finite-requires
    (λ c. let o = c.before.before in o.out-1.given.1 ∙ o.before.before.before.before.before.loop-t.invariant.1)  -- shape_of-out-then-not-finite
    returns
    (λ c. let f = c.before.before.before.before.before in let s = start f.before.before in omega (arith, f.before.loop-t-test.true, s.requires.0.1, (sizes s).points-most))  -- overflow_step-t
    (λ c. let f = c.before.before.before.before.before in omega (arith, f.before.loop-t-test.true))  -- loop-t-smaller
    loop-again
    (λ c. c.before.loop-t.invariant.1)  -- shape_of-out
    returns-2)
