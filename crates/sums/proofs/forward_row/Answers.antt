-- Unfit, finite, or not finite with the row cleared to the diagonal.
use Rattle.std.specs.Prelude.{◌≡◌, ◌∷◌, ◌+◌, ◌-◌, ◌*◌, ◌<◌, ◌≤◌}
use Rattle.lists.specs.Prelude.{sym, ap, ap₂, ◌∙◌, List, [], ℕ, arith, ltb, length, length-take, length-drop, replicate, Float, ltb-true, put_mid, put_same, mid_of}
use Rattle.complex.specs.Arithmetic.{plus_zero}
use Rattle.refusal.specs.Verdict.{pass}
use Rattle.two_time.specs.Calls.{size_checks}
use Rattle.two_time.specs.Outcome.{summed_answer, summed_out}
use Rattle.two_time.specs.Summed.{unfit_of}
use Rattle.two_time.specs.SizeChecks.{sizes-passed, sizes_pass, long-first}
use Rattle.groups.specs.Forward.{row_at, Sizes, sizes-of}
use Rattle.sums.specs.Forward.{forward_row, to_diagonal}
use Rattle.sums.proofs.Lent.{asked}
use Rattle.sums.proofs.forward_row.Goals as goal

-- what it says that the checks pass: row t to the diagonal lies within the slice
record Stands (points n t : ℕ) (retarded : List Float) : Type 0 where
  inside : t < points
  most : points ≤ 256
  sized : Sizes points n t (length retarded)
  fit : row_at points n t + (t + 1) * (2 * (n * n)) ≤ length retarded

stands : (points n t : ℕ) (free kernel retarded : List Float) → size_checks points n (ltb t points) (free ∷ kernel ∷ retarded ∷ []) ≡ pass → Stands points n t retarded
stands points n t free kernel retarded passed =
    let z = sizes-passed points n (ltb t points) (free ∷ kernel ∷ retarded ∷ []) passed in
    let g = long-first _ _ _ (long-first _ _ _ (long-first _ _ _ z.long).1).1 in
    let h = ltb-true t points z.others in
    let s = sizes-of points n t (length retarded) h z.points-most z.orbitals-most g.0 in
    record { inside = h; most = z.points-most; sized = s; fit = omega (arith, s.row, to_diagonal points (2 * (n * n)) t h) }

pub returns-in_err-check_sizes : goal.returns-in_err-check_sizes
unfolding forward_row summed_answer summed_out
returns-in_err-check_sizes c =
    let x = c.args in
    let refused = asked x.points x.orbitals (ltb x.t x.points) x.free.now x.kernel.now x.retarded.now c.has_length-free_fits.ensures c.has_length-kernel_fits.ensures c.has_length-retarded_fits.ensures c.check_sizes.ensures c.in_err-check_sizes.was in (
      unfit_of _ c.from_residual.ensures ∙ rw refused,
      rw refused (sym (put_same (row_at x.points x.orbitals x.t) ((x.t + 1) * (2 * (x.orbitals * x.orbitals))) x.retarded.now)),
    )

pub blocks-requires : goal.blocks-requires
blocks-requires c =
    let x = c.args in
    let z = sizes-passed x.points x.orbitals (ltb x.t x.points) (x.free.now ∷ x.kernel.now ∷ x.retarded.now ∷ []) (asked x.points x.orbitals (ltb x.t x.points) x.free.now x.kernel.now x.retarded.now c.has_length-free_fits.ensures c.has_length-kernel_fits.ensures c.has_length-retarded_fits.ensures c.check_sizes.ensures c.in_ok-check_sizes.was) in
    (ltb-true _ _ z.others, sizes_pass _ z z.long)

pub returns-then-blocks : goal.returns-then-blocks
unfolding forward_row summed_answer summed_out
returns-then-blocks c =
    let x = c.args in
    let passed = asked x.points x.orbitals (ltb x.t x.points) x.free.now x.kernel.now x.retarded.now c.has_length-free_fits.ensures c.has_length-kernel_fits.ensures c.has_length-retarded_fits.ensures c.check_sizes.ensures c.in_ok-check_sizes.was in
    let finite = sym c.blocks-2.ensures.0 ∙ c.if-blocks.true in
    (rw (passed, finite), rw (passed, finite) (c.blocks-2.ensures.1 c.if-blocks.true))

stood : (c : goal.Else-blocks) → let x = c.args in Stands x.points x.orbitals x.t x.retarded.now
stood c = let x = c.args in stands x.points x.orbitals x.t x.free.now x.kernel.now x.retarded.now (asked x.points x.orbitals (ltb x.t x.points) x.free.now x.kernel.now x.retarded.now c.has_length-free_fits.ensures c.has_length-kernel_fits.ensures c.has_length-retarded_fits.ensures c.check_sizes.ensures c.in_ok-check_sizes.was)

pub overflow_mul-width : goal.overflow_mul-width
overflow_mul-width c = let z = stood c in omega (arith, z.sized.block)

pub overflow_mul-width-2 : goal.overflow_mul-width-2
overflow_mul-width-2 c = let z = stood c in omega (arith, z.sized.block)

pub overflow_mul-start : goal.overflow_mul-start
overflow_mul-start c = let z = stood c in omega (arith, z.sized.wide)

pub overflow_mul-start-2 : goal.overflow_mul-start-2
overflow_mul-start-2 c = let z = stood c in omega (arith, z.sized.row, z.sized.all)

pub overflow_add-end : goal.overflow_add-end
overflow_add-end c = let z = stood c in omega (arith, z.inside, z.most)

pub overflow_mul-end : goal.overflow_mul-end
overflow_mul-end c = let z = stood c in omega (arith, z.fit, z.sized.all)

pub overflow_add-end-2 : goal.overflow_add-end-2
overflow_add-end-2 c = let z = stood c in omega (arith, z.fit, z.sized.all)

pub offset_bounds-retarded-start : goal.offset_bounds-retarded-start
offset_bounds-retarded-start c = let z = stood c in omega (arith, z.fit, z.sized.all)

pub slice_bounds-clear-end : goal.slice_bounds-clear-end
slice_bounds-clear-end c = let z = stood c in omega (arith, z.fit, c.blocks-2.auto.retarded)

pub returns : goal.returns
unfolding forward_row summed_answer summed_out
returns c =
    let x = c.args in
    let passed = asked x.points x.orbitals (ltb x.t x.points) x.free.now x.kernel.now x.retarded.now c.has_length-free_fits.ensures c.has_length-kernel_fits.ensures c.has_length-retarded_fits.ensures c.check_sizes.ensures c.in_ok-check_sizes.was in
    let z : Stands x.points x.orbitals x.t x.retarded.now = stands x.points x.orbitals x.t x.free.now x.kernel.now x.retarded.now passed in
    let finite = sym c.blocks-2.ensures.0 ∙ c.if-blocks.false in
    let left = c.blocks-2.new.retarded in
    let v = 2 * (x.orbitals * x.orbitals) in let r = row_at x.points x.orbitals x.t in let k = (x.t + 1) * v in
    let was : length (mid_of r k x.retarded.now) ≡ k = simp (length-take, length-drop) (omega (arith, z.fit)) in
    let part : length (mid_of r (r + k - r) left) ≡ k = simp (length-take, length-drop) (omega (arith, z.fit, c.blocks-2.auto.retarded)) in (
      rw (passed, finite),
      rw (passed, finite)
          (ap₂ (λ (m : ℕ) (ys : List Float). put_mid r m left ys) (let same : r + k - r ≡ k = omega arith in same) (c.clear.ensures ∙ ap (λ (m : ℕ). replicate m plus_zero) (part ∙ sym was))
          ∙ c.blocks-2.ensures.2 (replicate (length (mid_of r k x.retarded.now)) plus_zero)),
    )
