-- Checks 1 to 3 as the code asks them, with the limits of N and n in the third too, and what it says that they pass. Assumes nothing.
use Rattle.std.specs.Prelude.{◌≡◌, ◌&&◌, ◌∷◌, ◌≤◌}
use Rattle.lists.specs.Prelude.{refl, sym, ◌∙◌, Bool, true, false, List, [], ℕ, min, min-eq_left, leb, eqb, length, Float, leb-true, eqb-true, le-leb, eq-eqb}
use Rattle.lists.specs.Agreement.{both}
use Rattle.refusal.specs.Verdict.{pass, Verdict, by, ask, ◌then◌}
use Rattle.refusal.specs.Checks.{large_enough, within_limits, fitting}
use Rattle.refusal.specs.Agreement.{ask_pass, then-pass, then-agree}
use Rattle.two_time.specs.Layout.{length_of}
use Rattle.two_time.specs.Calls.{all_long, all_fit, size_checks}
use Rattle.two_time.specs.Places.{and_agree}

-- two tests of orders that both hold
orders : (a b c d : ℕ) → leb a b && leb c d ≡ true → (a ≤ b) × (c ≤ d)
orders a b c d e = let tests = both (leb a b) (leb c d) e in (leb-true a b tests.0, leb-true c d tests.1)

module _ (points orbitals : ℕ) where
  pub large : large_enough points orbitals ≡ pass → (2 ≤ points) × (1 ≤ orbitals)
  unfolding large_enough
  large e = orders 2 points 1 orbitals (ask_pass (leb 2 points && leb 1 orbitals) (by 1) e)

  pub limited : within_limits points orbitals ≡ pass → (points ≤ 256) × (orbitals ≤ 16)
  unfolding within_limits
  limited e = orders points 256 orbitals 16 (ask_pass (leb points 256 && leb orbitals 16) (by 2) e)

-- what it says that checks 1 to 3 pass
pub record SizesPassed (points orbitals : ℕ) (fits : Bool) (slices : List (List Float)) : Type 0 where
  pub points-least : 2 ≤ points
  pub orbitals-least : 1 ≤ orbitals
  pub points-most : points ≤ 256
  pub orbitals-most : orbitals ≤ 16
  pub others : fits ≡ true
  pub long : all_long (length_of points orbitals) slices ≡ true

module _ (points orbitals : ℕ) (fits : Bool) (slices : List (List Float)) where
  -- where check 2 passes its limits are kept, and where it does not check 3 is not reached
  pub sizes-checks : (large_enough points orbitals then within_limits points orbitals then fitting (fits && all_fit points orbitals slices)) ≡ size_checks points orbitals fits slices
  unfolding size_checks all_fit
  sizes-checks =
      let limits = within_limits points orbitals in
      let asked = fitting (fits && all_fit points orbitals slices) in
      let told = fitting (fits && all_long (length_of points orbitals) slices) in
      then-agree (large_enough points orbitals) _ (limits then asked) (limits then told) refl
      (λ l. then-agree limits _ asked told refl (λ e. let most = limited points orbitals e in rw (le-leb _ _ most.0, le-leb _ _ most.1)))

  pub sizes-passed : size_checks points orbitals fits slices ≡ pass → SizesPassed points orbitals fits slices
  unfolding size_checks fitting
  sizes-passed e =
      let first = then-pass _ _ e in
      let second = then-pass _ _ first.1 in
      let least = large points orbitals first.0 in
      let most = limited points orbitals second.0 in
      let all = both fits (all_long (length_of points orbitals) slices) (ask_pass _ (by 3) second.1) in
      record {
        points-least = least.0;
        orbitals-least = least.1;
        points-most = most.0;
        orbitals-most = most.1;
        others = all.0;
        long = all.1;
      }

-- one slice, and the first of several
long-one : (count : ℕ) (xs : List Float) → all_long count (xs ∷ []) ≡ eqb (length xs) count
unfolding all_long
long-one count xs = one (eqb (length xs) count)
  where
    one : (b : Bool) → b && true ≡ b
    one true = refl
    one false = refl

pub long-first : (count : ℕ) (xs : List Float) (rest : List (List Float)) → all_long count (xs ∷ rest) ≡ true → (length xs ≡ count) × (all_long count rest ≡ true)
unfolding all_long
long-first count xs rest e = let tests = both (eqb (length xs) count) (all_long count rest) e in (eqb-true (length xs) count tests.0, tests.1)

module _ (points orbitals : ℕ) where
  -- a slice's test, as the code makes it: N and n are cut to their limits, so that the product fits
  pub fits_one : (xs : List Float) → (leb points 256 && leb orbitals 16) && eqb (length xs) (length_of (min points 256) (min orbitals 16)) ≡ all_fit points orbitals (xs ∷ [])
  unfolding all_fit
  fits_one xs =
      and_agree _ _ _ (λ h. let most = orders points 256 orbitals 16 h in rw (min-eq_left most.0, min-eq_left most.1) (sym (long-one (length_of points orbitals) xs)))

  pub fit_said : (xs : List Float) → all_fit points orbitals (xs ∷ []) ≡ true → (points ≤ 256) × (orbitals ≤ 16) × (length xs ≡ length_of points orbitals)
  unfolding all_fit
  fit_said xs e =
      let tests = both (leb points 256 && leb orbitals 16) _ e in
      let most = orders points 256 orbitals 16 tests.0 in
      (most.0, most.1, (long-first (length_of points orbitals) xs [] tests.1).0)

  -- the test of one slice and that of others are the test of all
  pub fits_more : (xs : List Float) (rest : List (List Float)) (b all : Bool) → b ≡ all_fit points orbitals (xs ∷ []) → all ≡ all_fit points orbitals rest → b && all ≡ all_fit points orbitals (xs ∷ rest)
  unfolding all_fit all_long
  fits_more xs rest b all e h = rw (e, h) (joined (leb points 256 && leb orbitals 16) (eqb (length xs) (length_of points orbitals)) (all_long (length_of points orbitals) rest))
    where
      joined : (limits x y : Bool) → (limits && (x && true)) && (limits && y) ≡ limits && (x && y)
      joined true true y = refl
      joined true false y = refl
      joined false x y = refl

  -- and with it checks 1 to 3 are asked
  pub sizes_asked_lem : (slices : List (List Float)) (fits all : Bool) (v : Verdict) → all ≡ all_fit points orbitals slices
      → v ≡ (large_enough points orbitals then within_limits points orbitals then fitting (fits && all)) → v ≡ size_checks points orbitals fits slices
  sizes_asked_lem slices fits all v h e = e ∙ rw h (sizes-checks points orbitals fits slices)

-- checks 1 to 3 of one function, with nothing lent beside it
pub sizes-one : {fits : Bool} {v : Verdict} (points orbitals : ℕ) (xs : List Float) → fits ≡ all_fit points orbitals (xs ∷ [])
    → v ≡ (large_enough points orbitals then within_limits points orbitals then fitting fits) → v ≡ size_checks points orbitals true (xs ∷ [])
sizes-one {fits} {v} points orbitals xs f e = sizes_asked_lem points orbitals (xs ∷ []) true fits v f e

-- back: sizes within the limits, and slices of their length, pass
pub long_also : (count : ℕ) (xs : List Float) (rest : List (List Float)) → length xs ≡ count → all_long count rest ≡ true → all_long count (xs ∷ rest) ≡ true
unfolding all_long
long_also count xs rest e h = rw (eq-eqb (length xs) count e, h)

pub long-none : (count : ℕ) → all_long count [] ≡ true
unfolding all_long
long-none count = refl

pub sizes_pass : {points orbitals : ℕ} {fits : Bool} {others : List (List Float)} (slices : List (List Float))
    → SizesPassed points orbitals fits others → all_long (length_of points orbitals) slices ≡ true → size_checks points orbitals true slices ≡ pass
unfolding size_checks large_enough within_limits fitting ask
sizes_pass slices z long = rw (le-leb _ _ z.points-least, le-leb _ _ z.orbitals-least, le-leb _ _ z.points-most, le-leb _ _ z.orbitals-most, long)
