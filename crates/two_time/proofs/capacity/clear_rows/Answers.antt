-- One row more.
use Rattle.std.proofs.Common.{arith, ◌≡◌, ◌+◌, ◌-◌, ◌*◌, ◌≤◌, ◌<◌, ℕ, List, length}
use Rattle.lists.specs.Prelude.{refl, sym, ap, ◌∙◌, le_antisymm, length-append, length-take, length-drop, replicate, Float, mid_of, put_mid}
use Rattle.lists.specs.Indexed.{join}
use Rattle.lists.specs.Agreement.{join_agree}
use Rattle.complex.specs.Arithmetic.{plus_zero}
use Rattle.block.specs.Block.{lay_out}
use Rattle.block.specs.Operations.{zeros}
use Rattle.block.specs.Zero.{join-replicate, block-zero}
use Rattle.two_time.specs.declared.capacity.Shape.{Shape}
use Rattle.two_time.specs.Layout.{length_of}
use Rattle.two_time.specs.Written.{first_new, first-most, row_step, written-rows, RowPart, row-part}
use Rattle.two_time.proofs.Written.{written_none}
use Rattle.two_time.proofs.capacity.clear_rows.Goals as goal

-- blocks of +0
zero-blocks : (n m k : ℕ) → k ≡ m * (2 * (n * n)) → replicate k plus_zero ≡ join m (λ p. lay_out n n zeros)
zero-blocks n m k e = ap (λ (i : ℕ). replicate i plus_zero) e ∙ sym (join_agree m _ _ (λ p hp. block-zero n zeros (λ a b ha hb. refl)) ∙ join-replicate m (2 * (n * n)) plus_zero)

-- where this step's part stands
part : (s : Shape) (old t from len : ℕ) → (s.capacity ≤ 256) × (s.orbitals ≤ 16) × (old ≤ s.points) × (s.points ≤ s.capacity) → t < s.points
    → from ≡ first_new old t → len ≡ length_of s.capacity s.orbitals → RowPart s.capacity s.orbitals s.points t from len
part s old t from len h ht ef el = row-part _ _ _ _ _ _ h.0 h.1 h.3 ht (rw ef (first-most _ _ _ h.2 ht)) el

length-put : (at w : ℕ) (xs ys : List Float) → length ys ≡ w → at + w ≤ length xs → length (put_mid at w xs ys) ≡ length xs
length-put at w xs ys h l = simp (length-append, length-take, length-drop) (omega arith)

pub loop-t-init : goal.loop-t-init
loop-t-init c = (refl, written_none _ _ _ _ _ _ c.requires.4)

pub overflow_mul-start : goal.overflow_mul-start
overflow_mul-start c =
    let z = part c.args.shape c.args.old c.loop-t.t c.first_new-from.result (length c.loop-t.xs) (c.requires.0, c.requires.1, c.requires.2, c.requires.3) c.loop-t-test.true c.first_new-from.ensures (c.loop-t.invariant.0 ∙ c.requires.4) in
    omega (arith, z.start, z.end, z.all)

pub overflow_add-start : goal.overflow_add-start
overflow_add-start c =
    let z = part c.args.shape c.args.old c.loop-t.t c.first_new-from.result (length c.loop-t.xs) (c.requires.0, c.requires.1, c.requires.2, c.requires.3) c.loop-t-test.true c.first_new-from.ensures (c.loop-t.invariant.0 ∙ c.requires.4) in
    omega (arith, z.start, z.end, z.all)

pub overflow_mul-end : goal.overflow_mul-end
overflow_mul-end c =
    let z = part c.args.shape c.args.old c.loop-t.t c.first_new-from.result (length c.loop-t.xs) (c.requires.0, c.requires.1, c.requires.2, c.requires.3) c.loop-t-test.true c.first_new-from.ensures (c.loop-t.invariant.0 ∙ c.requires.4) in
    omega (arith, z.start, z.end, z.all)

pub slice_bounds-clear-count : goal.slice_bounds-clear-count
slice_bounds-clear-count c =
    let z = part c.args.shape c.args.old c.loop-t.t c.first_new-from.result (length c.loop-t.xs) (c.requires.0, c.requires.1, c.requires.2, c.requires.3) c.loop-t-test.true c.first_new-from.ensures (c.loop-t.invariant.0 ∙ c.requires.4) in
    omega (arith, z.start, z.end, z.all)

pub slice_bounds-clear-start : goal.slice_bounds-clear-start
slice_bounds-clear-start c =
    let z = part c.args.shape c.args.old c.loop-t.t c.first_new-from.result (length c.loop-t.xs) (c.requires.0, c.requires.1, c.requires.2, c.requires.3) c.loop-t-test.true c.first_new-from.ensures (c.loop-t.invariant.0 ∙ c.requires.4) in
    omega (arith, z.start, z.end, z.all)

pub slice_bounds-clear-end : goal.slice_bounds-clear-end
slice_bounds-clear-end c =
    let z = part c.args.shape c.args.old c.loop-t.t c.first_new-from.result (length c.loop-t.xs) (c.requires.0, c.requires.1, c.requires.2, c.requires.3) c.loop-t-test.true c.first_new-from.ensures (c.loop-t.invariant.0 ∙ c.requires.4) in
    omega (arith, z.start, z.end, z.all)

pub loop-t-preserved : goal.loop-t-preserved
loop-t-preserved c =
    let z = part c.args.shape c.args.old c.loop-t.t c.first_new-from.result (length c.loop-t.xs) (c.requires.0, c.requires.1, c.requires.2, c.requires.3) c.loop-t-test.true c.first_new-from.ensures (c.loop-t.invariant.0 ∙ c.requires.4) in
    let s = c.args.shape in
    let n = s.orbitals in
    let w = 2 * (n * n) in
    let at = c.loop-t.t * (s.capacity * w) + c.first_new-from.result * w in
    let count = c.loop-t.t * (s.capacity * w) + s.points * w - at in
    let mid : List Float = mid_of at count c.loop-t.xs in
    let long : length mid ≡ count = simp (length-take, length-drop) (omega (arith, z.start, z.end)) in
    let put : length c.clear.new.xs ≡ count = c.clear.auto.xs ∙ long in (
      length-put at count c.loop-t.xs c.clear.new.xs put (omega (arith, z.start, z.end)) ∙ c.loop-t.invariant.0,
      row_step s.capacity n c.args.old s.points (λ t u. zeros) c.args.xs.now c.loop-t.t c.requires.2 c.requires.3 c.loop-t-test.true c.first_new-from.result _ c.loop-t.xs _ c.first_new-from.ensures c.loop-t.invariant.1
          (c.clear.ensures ∙ zero-blocks n (s.points - c.first_new-from.result) (length mid) (long ∙ z.long)) z.long,
    )

pub returns : goal.returns
returns c = c.loop-t.invariant.1 ∙ rw (le_antisymm c.loop-t.auto.t-end c.loop-t-test.false) (written-rows _ _ _ _ _ _ c.requires.3)
