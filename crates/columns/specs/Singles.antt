-- A group that is one place at one orbital: when it is summed by a loop of its own, and what the group's outcome then is.
use Rattle.std.specs.Prelude.{Ok, Err, ◌≡◌, ◌&&◌, ◌∷◌, ◌+◌, ◌*◌, ◌≤◌, ◌<◌}
use Rattle.lists.specs.Prelude.{refl, sym, ap, ◌∙◌, Bool, true, false, cond, List, [], ℕ, arith, leb, ltb, eqb, length, Float}
use Rattle.lists.specs.Prelude.{add-zero, leb-true, ltb-true, eqb-true, eq-eqb}
use Rattle.lists.specs.Indexed.{all_below, join}
use Rattle.lists.specs.Agreement.{both}
use Rattle.complex.specs.declared.Complex.{Complex}
use Rattle.complex.specs.Arithmetic.{cfinite}
use Rattle.complex.specs.Numbers.{pair}
use Rattle.block.specs.Block.{lay_out}
use Rattle.refusal.specs.Verdict.{pass, zeroed}
use Rattle.two_time.specs.declared.sums.Sums.{Sums}
use Rattle.two_time.specs.declared.sums.SumError.TheVariants.{Overflow}
use Rattle.two_time.specs.Layout.{read_as, length_of}
use Rattle.two_time.specs.Places.{Placed, within}
use Rattle.two_time.specs.Calls.{all_long, all_fit, size_checks}
use Rattle.two_time.specs.SizeChecks.{SizesPassed, sizes_pass, long-first, long_also, long-none}
use Rattle.two_time.specs.Outcome.{SumsOutcome, summed_answer, summed_out, flagged}
use Rattle.two_time.specs.Sums.{terms_at, sums_of}
use Rattle.groups.specs.PlaceSums.{sum_at, block_finite, zero-start, end_test}
use Rattle.groups.specs.Groups.{is_group, group_finite, group_numbers, group_sums, Grouped, group_is}
use Rattle.terms.specs.Kinds.{factor_of}
use Rattle.groups.specs.Right.{right-inside}
use Rattle.columns.specs.declared.Walk.{Walk}
use Rattle.columns.specs.Walks.{from_first, walk_of, walk-place, walk_end}

-- the group is one place at one orbital, of sums from the first point on, and is there in slices that have their length
unfoldable pub is_single : Sums → ℕ → ℕ → List Float → List Float → ℕ → ℕ → ℕ → Bool
is_single sums points n left right t u places =
    (from_first sums && (eqb n 1 && eqb places 1)) && ((leb 2 points && (ltb t points && ltb u points)) && (all_fit points n (left ∷ []) && all_fit points n (right ∷ [])))

-- what that says beside n = 1 and places = 1
pub record Single (sums : Sums) (points : ℕ) (left right : List Float) (t u : ℕ) : Type 0 where
  pub kind : from_first sums ≡ true
  pub points-least : 2 ≤ points
  pub points-most : points ≤ 256
  pub row : t < points
  pub column : u < points
  pub left-long : length left ≡ length_of points 1
  pub right-long : length right ≡ length_of points 1

-- ---- laws

fits : (points n : ℕ) (xs : List Float) → all_fit points n (xs ∷ []) ≡ true → (points ≤ 256) × (length xs ≡ length_of points n)
unfolding all_fit
fits points n xs e =
    let parts = both (leb points 256 && leb n 16) (all_long (length_of points n) (xs ∷ [])) e in
    (leb-true _ _ (both (leb points 256) (leb n 16) parts.0).0, (long-first _ _ _ parts.1).0)

pub single : (sums : Sums) (points n : ℕ) (left right : List Float) (t u places : ℕ) → is_single sums points n left right t u places ≡ true
    → (n ≡ 1) × (places ≡ 1) × Single sums points left right t u
unfolding is_single
single sums points n left right t u places e =
    let all = both (from_first sums && (eqb n 1 && eqb places 1)) ((leb 2 points && (ltb t points && ltb u points)) && (all_fit points n (left ∷ []) && all_fit points n (right ∷ []))) e in
    let kind = both (from_first sums) (eqb n 1 && eqb places 1) all.0 in
    let ones = both (eqb n 1) (eqb places 1) kind.1 in
    let rest = both (leb 2 points && (ltb t points && ltb u points)) (all_fit points n (left ∷ []) && all_fit points n (right ∷ [])) all.1 in
    let there = both (leb 2 points) (ltb t points && ltb u points) rest.0 in
    let at = both (ltb t points) (ltb u points) there.1 in
    let slices = both (all_fit points n (left ∷ [])) (all_fit points n (right ∷ [])) rest.1 in
    let orbital = eqb-true n 1 ones.0 in
    let l = fits points n left slices.0 in
    let r = fits points n right slices.1 in (
      orbital,
      eqb-true places 1 ones.1,
      record {
        kind = kind.0;
        points-least = leb-true _ _ there.0;
        points-most = l.0;
        row = ltb-true _ _ at.0;
        column = ltb-true _ _ at.1;
        left-long = l.1 ∙ ap (λ (m : ℕ). length_of points m) orbital;
        right-long = r.1 ∙ ap (λ (m : ℕ). length_of points m) orbital;
      },
    )

-- the numbers of its walk are there
module _ (sums : Sums) (stride : ℕ) (left right : List Float) (t u : ℕ) (z : Single sums stride left right t u) where
  abbrev walk : Walk
  walk = walk_of (factor_of sums) stride t u

  end_below : walk.end < stride
  end_below = walk_end (factor_of sums) stride t u z.row z.column

  at_one : {a b : ℕ} → a < stride → b < stride → Placed stride 1 a b 0 0
  at_one ha hb = record { first = ha; second = hb; row = omega arith; column = omega arith; stride_most = z.points-most; orbitals-most = omega arith }

  pub walk_inside : (walk.end < 256) × ((s : ℕ) → s ≤ walk.end → (2 * (t * stride) + 2 * s + 1 < length left) × (walk.first + s * walk.step + 1 < length right))
  walk_inside = (
    omega (arith, end_below, z.points-most),
    λ s h. let hs : s < stride = omega (arith, h, end_below) in
        (omega (arith, z.left-long, (within (at_one z.row hs)).inside), omega (arith, z.right-long, walk-place (factor_of sums) stride t u s, right-inside (factor_of sums) (at_one hs z.column))),
  )

-- the outcome of a group of one place at one orbital, once checks 1 to 3 pass
module _ (sums : Sums) (points : ℕ) (times left right : List Float) (t u : ℕ) (out : List Float)
    (z : Single sums points left right t u) (long : length out ≡ 2)
    (made : Complex) (is : made ≡ sum_at sums points 1 times left right t u 0 0) where
  passed : size_checks points 1 (is_group points 1 t u 1) (left ∷ right ∷ []) ≡ pass
  passed =
      let slices : all_long (length_of points 1) (left ∷ right ∷ []) ≡ true = long_also _ _ _ z.left-long (long_also _ _ _ z.right-long (long-none _)) in
      let sizes : SizesPassed points 1 true (left ∷ right ∷ []) =
      record { points-least = z.points-least; orbitals-least = omega arith; points-most = z.points-most; orbitals-most = omega arith; others = refl; long = slices } in
      let there : Grouped points 1 t u 1 =
      record { points-most = z.points-most; orbitals-most = omega arith; row = z.row; first = z.column; some = omega arith; most = omega arith; fit = omega (arith, z.column); few = omega arith } in
      flagged points 1 (is_group points 1 t u 1) (left ∷ right ∷ []) (group_is there) (sizes_pass (left ∷ right ∷ []) sizes slices)

  is_finite : group_finite sums points 1 times left right t u 1 out ≡ cfinite made
  unfolding all_below block_finite sums_of
  is_finite =
      ap (λ (v : ℕ). block_finite sums points 1 times left right t v) (add-zero u)
      ∙ sym (ap cfinite is ∙ end_test 1 (terms_at sums points times (read_as points 1 left) (read_as points 1 right) t u) 0 0 (zero-start sums points times (read_as points 1 left) (read_as points 1 right) t u 0 0))

  is_made : group_numbers sums points 1 times left right t u 1 out ≡ pair made
  unfolding join lay_out
  is_made = ap (λ (v : ℕ). pair (sum_at sums points 1 times left right t v 0 0)) (add-zero u) ∙ ap pair (sym is)

  pub single-outcome : group_sums sums points 1 times left right t u 1 out ≡ record { answer = cond (cfinite made) (Ok tt) (Err Overflow); out = cond (cfinite made) (pair made) (zeroed out) }
  unfolding group_sums summed_answer summed_out
  single-outcome = rw (eq-eqb (length out) 2 long, passed, is_finite, is_made) (by_flag (cfinite made))
    where
      by_flag : (f : Bool) → ◌≡◌ {A = SumsOutcome} (record { answer = summed_answer pass f; out = summed_out (summed_answer pass f) (pair made) out })
          (record { answer = cond f (Ok tt) (Err Overflow); out = cond f (pair made) (zeroed out) })
      by_flag true = refl
      by_flag false = refl
