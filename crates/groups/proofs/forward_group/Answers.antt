-- Unfit, or what the lanes hold is written in its place.
use Rattle.std.specs.Prelude.{◌≡◌, ◌∷◌, ◌+◌, ◌-◌, ◌*◌, ◌≤◌, ◌<◌}
use Rattle.lists.specs.Prelude.{ap, ◌∙◌, List, [], ℕ, mul-le-mul_right, add-mul, arith, leb, length, Float, leb-true, put_mid}
use mir.Syntax.{w64}
use mir.Val.{Fits}
use Rattle.lists.specs.Agreement.{both}
use Rattle.refusal.specs.Verdict.{pass}
use Rattle.two_time.specs.Calls.{size_checks}
use Rattle.two_time.specs.SizeChecks.{sizes-passed, long-first}
use Rattle.two_time.specs.Summed.{unfit_of}
use Rattle.groups.specs.Forward.{row_at, group_finite_lem, group_laid, Sizes, sizes-of}
use Rattle.groups.specs.Groups.{is_group, is_below, Grouped, grouped, forward-unfit, forward-written}
use Rattle.groups.proofs.Lent.{three-asked}
use Rattle.groups.proofs.forward_group.Goals as goal

-- the numbers on the way to a group's place
record Counted (points n t u places : ℕ) : Type 0 where
  square : Fits w64 (n * n)
  block : Fits w64 (2 * (n * n))
  wide : Fits w64 (points * (2 * (n * n)))
  row : Fits w64 (row_at points n t)
  before : Fits w64 (u * (2 * (n * n)))
  first : Fits w64 (row_at points n t + u * (2 * (n * n)))
  first_byte : Fits w64 ((row_at points n t + u * (2 * (n * n))) * 8)
  room : Fits w64 (places * (2 * (n * n)))
  last : Fits w64 (row_at points n t + u * (2 * (n * n)) + places * (2 * (n * n)))
  rising : row_at points n t + u * (2 * (n * n)) ≤ row_at points n t + u * (2 * (n * n)) + places * (2 * (n * n))

counted : (points n t u places len : ℕ) → Sizes points n t len → row_at points n t + u * (2 * (n * n)) + places * (2 * (n * n)) ≤ len → Counted points n t u places
counted points n t u places len s h =
    let all = s.all in
    record {
      square = omega (arith, s.block);
      block = omega (arith, s.block);
      wide = omega (arith, s.wide);
      row = omega arith;
      before = omega arith;
      first = omega arith;
      first_byte = omega arith;
      room = omega arith;
      last = omega arith;
      rising = omega arith;
    }

-- where the group stands
record Stands (points n t u places : ℕ) (free kernel retarded : List Float) : Type 0 where
  there : Grouped points n t u places
  under : u + places ≤ t + 1
  some : 0 < n
  free-long : length free ≡ 2 * points * points * n * n
  kernel-long : length kernel ≡ 2 * points * points * n * n
  retarded-long : length retarded ≡ 2 * points * points * n * n
  sized : Sizes points n t (length retarded)
  room : row_at points n t + u * (2 * (n * n)) + places * (2 * (n * n)) ≤ length retarded
  count : Counted points n t u places

-- what follows over plain numbers
begins-below : {u places t : ℕ} → 0 < places → u + places ≤ t + 1 → u ≤ t
begins-below h k = omega arith

long-enough : {len m : ℕ} → len ≡ m → m ≤ len
long-enough e = omega arith

as_short : {k g m : ℕ} → k ≡ m → g ≡ m → g ≤ 33554432 → k ≤ 33554432
as_short e f h = omega arith

width : (at w : ℕ) → at + w - at ≡ w
width at w = omega arith

stands : (points n t u places : ℕ) (free kernel retarded : List Float) → size_checks points n (is_below points n t u places) (free ∷ kernel ∷ retarded ∷ []) ≡ pass
    → Stands points n t u places free kernel retarded
stands points n t u places free kernel retarded passed =
    let z = sizes-passed points n _ _ passed in
    let b = both (is_group points n t u places) (leb (u + places) (t + 1)) z.others in
    let g = grouped _ _ _ _ _ b.0 in
    let f = long-first _ _ _ z.long in
    let k = long-first _ _ _ f.1 in
    let e = long-first _ _ _ k.1 in
    let w = 2 * (n * n) in
    let s = sizes-of points n t _ g.row g.points-most g.orbitals-most e.0 in
    let room : row_at points n t + u * w + places * w ≤ length retarded = omega (arith, s.row, mul-le-mul_right w g.fit, add-mul u places w) in
    record {
      there = g;
      under = leb-true _ _ b.1;
      some = z.orbitals-least;
      free-long = f.0;
      kernel-long = k.0;
      retarded-long = e.0;
      sized = s;
      room = room;
      count = counted _ _ _ _ _ _ s room;
    }

pub returns-in_err-check_sizes : goal.returns-in_err-check_sizes
returns-in_err-check_sizes c =
    let x = c.args in
    let refused = three-asked x.points x.orbitals x.free.now x.kernel.now x.retarded.now c.is_below-below.ensures c.has_length-free_fits.ensures c.has_length-kernel_fits.ensures c.has_length-retarded_fits.ensures c.check_sizes.ensures c.in_err-check_sizes.was in
    let o = forward-unfit x.points x.orbitals x.times.now x.free.now x.kernel.now x.retarded.now x.t x.u x.places _ refused in
    (unfit_of _ c.from_residual.ensures ∙ o.0, o.1)

stood : (c : goal.In_ok-check_sizes) → let x = c.args in Stands x.points x.orbitals x.t x.u x.places x.free.now x.kernel.now x.retarded.now
stood c = let x = c.args in stands x.points x.orbitals x.t x.u x.places x.free.now x.kernel.now x.retarded.now (three-asked x.points x.orbitals x.free.now x.kernel.now x.retarded.now c.is_below-below.ensures c.has_length-free_fits.ensures c.has_length-kernel_fits.ensures c.has_length-retarded_fits.ensures c.check_sizes.ensures c.in_ok-check_sizes.was)

pub overflow_mul-width : goal.overflow_mul-width
overflow_mul-width c = (stood c).count.square

pub overflow_mul-width-2 : goal.overflow_mul-width-2
overflow_mul-width-2 c = (stood c).count.block

pub overflow_mul-start : goal.overflow_mul-start
overflow_mul-start c = (stood c).count.wide

pub overflow_mul-start-2 : goal.overflow_mul-start-2
overflow_mul-start-2 c = (stood c).count.row

pub overflow_mul-start-3 : goal.overflow_mul-start-3
overflow_mul-start-3 c = (stood c).count.before

pub overflow_add-start : goal.overflow_add-start
overflow_add-start c = (stood c).count.first

pub overflow_mul-end : goal.overflow_mul-end
overflow_mul-end c = (stood c).count.room

pub overflow_add-end : goal.overflow_add-end
overflow_add-end c = (stood c).count.last

pub forward_totals-requires-clause-t_lt_points : goal.forward_totals-requires-clause-t_lt_points
forward_totals-requires-clause-t_lt_points c =
    let x = c.args in
    let z = stands x.points x.orbitals x.t x.u x.places x.free.now x.kernel.now x.retarded.now (three-asked x.points x.orbitals x.free.now x.kernel.now x.retarded.now c.is_below-below.ensures c.has_length-free_fits.ensures c.has_length-kernel_fits.ensures c.has_length-retarded_fits.ensures c.check_sizes.ensures c.in_ok-check_sizes.was) in
    let g = z.there in
    (g.row, g.points-most, z.some, g.orbitals-most, g.some, z.under, g.few)

pub forward_totals-requires-clause-orbitals_in_bounds : goal.forward_totals-requires-clause-orbitals_in_bounds
forward_totals-requires-clause-orbitals_in_bounds c =
    let x = c.args in
    let z = stands x.points x.orbitals x.t x.u x.places x.free.now x.kernel.now x.retarded.now (three-asked x.points x.orbitals x.free.now x.kernel.now x.retarded.now c.is_below-below.ensures c.has_length-free_fits.ensures c.has_length-kernel_fits.ensures c.has_length-retarded_fits.ensures c.check_sizes.ensures c.in_ok-check_sizes.was) in
    (long-enough z.free-long, long-enough z.kernel-long, long-enough z.retarded-long, as_short z.kernel-long z.retarded-long z.sized.all)

pub overflow_sub-t : goal.overflow_sub-t
overflow_sub-t c =
    let x = c.args in
    let z = stands x.points x.orbitals x.t x.u x.places x.free.now x.kernel.now x.retarded.now (three-asked x.points x.orbitals x.free.now x.kernel.now x.retarded.now c.is_below-below.ensures c.has_length-free_fits.ensures c.has_length-kernel_fits.ensures c.has_length-retarded_fits.ensures c.check_sizes.ensures c.in_ok-check_sizes.was) in
    begins-below z.there.some z.under

pub offset_bounds-retarded-start : goal.offset_bounds-retarded-start
offset_bounds-retarded-start c =
    let x = c.args in
    let z = stands x.points x.orbitals x.t x.u x.places x.free.now x.kernel.now x.retarded.now (three-asked x.points x.orbitals x.free.now x.kernel.now x.retarded.now c.is_below-below.ensures c.has_length-free_fits.ensures c.has_length-kernel_fits.ensures c.has_length-retarded_fits.ensures c.check_sizes.ensures c.in_ok-check_sizes.was) in
    z.count.first_byte

pub slice_bounds-write_group-end-2 : goal.slice_bounds-write_group-end-2
slice_bounds-write_group-end-2 c =
    let x = c.args in
    let z = stands x.points x.orbitals x.t x.u x.places x.free.now x.kernel.now x.retarded.now (three-asked x.points x.orbitals x.free.now x.kernel.now x.retarded.now c.is_below-below.ensures c.has_length-free_fits.ensures c.has_length-kernel_fits.ensures c.has_length-retarded_fits.ensures c.check_sizes.ensures c.in_ok-check_sizes.was) in
    z.room

pub returns : goal.returns
returns c =
    let x = c.args in
    let n = x.orbitals in
    let passed = three-asked x.points x.orbitals x.free.now x.kernel.now x.retarded.now c.is_below-below.ensures c.has_length-free_fits.ensures c.has_length-kernel_fits.ensures c.has_length-retarded_fits.ensures c.check_sizes.ensures c.in_ok-check_sizes.was in
    let z = stands x.points n x.t x.u x.places x.free.now x.kernel.now x.retarded.now passed in
    let at = row_at x.points n x.t + x.u * (2 * (n * n)) in
    let lanes = c.forward_totals.new.totals in
    let sum = c.forward_totals.ensures.1 in
    let finite = group_finite_lem x.points n x.times.now x.free.now x.kernel.now x.retarded.now x.t x.u x.places lanes z.under sum in
    let made = group_laid x.points n x.times.now x.free.now x.kernel.now x.retarded.now x.t x.u x.places lanes z.under sum in
    let is = forward-written x.points n x.times.now x.free.now x.kernel.now x.retarded.now x.t x.u x.places z.there passed lanes (x.t - x.u) c.forward_totals.ensures.0 z.room finite made (at + x.places * (2 * (n * n)) - at) (width at (x.places * (2 * (n * n)))) in
    (c.write_group.ensures.0 ∙ is.0, ap (λ (ys : List Float). put_mid at (at + x.places * (2 * (n * n)) - at) x.retarded.now ys) c.write_group.ensures.1 ∙ is.1)
