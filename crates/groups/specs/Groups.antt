-- The sums at a group of neighbouring places of a row: the outcome of each call.
use Rattle.std.specs.Prelude.{is_ok, Ok, Err, ◌≡◌, ◌&&◌, ◌∷◌, ◌+◌, ◌*◌, ◌≤◌, ◌<◌}
use Rattle.lists.specs.Prelude.{refl, sym, ap, ◌∙◌, Bool, true, false, cond, List, [], ℕ, arith, leb, ltb, eqb, length, drop}
use Rattle.lists.specs.Prelude.{length-drop, length-take-le, Float, leb-true, ltb-true, le-leb, lt-ltb, eq-eqb, mid_of, put_mid, put_same}
use Rattle.lists.specs.Indexed.{all_below, join}
use Rattle.lists.specs.Agreement.{both}
use Rattle.block.specs.Block.{lay_out}
use Rattle.refusal.specs.declared.Refusal.{Refusal}
use Rattle.refusal.specs.Verdict.{pass, Verdict}
use Rattle.two_time.specs.declared.sums.Sums.{Sums}
use Rattle.two_time.specs.Summed.{Summed}
use Rattle.two_time.specs.declared.sums.SumError.TheVariants.{Overflow, Unfit}
use Rattle.two_time.specs.Calls.{size_checks}
use Rattle.two_time.specs.Outcome.{SumsOutcome, summed_answer, summed_out, outcome-finite, outcome-overflow}
use Rattle.lanes.specs.Lanes.{laid_lanes, lanes_finite, written}
use Rattle.groups.specs.PlaceSums.{sum_at, block_finite}
use Rattle.groups.specs.Forward.{forward_block, forward_finite, row_at}

-- within the limits of check 2, (t, u), .., (t, u + places − 1) are places, and their blocks have at most 16 columns
unfoldable pub is_group : ℕ → ℕ → ℕ → ℕ → ℕ → Bool
is_group points n t u places =
    ((leb points 256 && leb n 16) && ((ltb t points && ltb u points) && (ltb 0 places && leb places 16))) && (leb (u + places) points && leb (places * n) 16)

-- they stand on the diagonal or below it
abbrev pub is_below : ℕ → ℕ → ℕ → ℕ → ℕ → Bool
is_below points n t u places = is_group points n t u places && leb (u + places) (t + 1)

-- `group`: the sums there, laid out in a slice of their length
module _ (sums : Sums) (points n : ℕ) (times left right : List Float) (t u places : ℕ) (out : List Float) where
  abbrev pub group_finite : Bool
  group_finite = all_below places (λ p. block_finite sums points n times left right t (u + p))

  abbrev pub group_numbers : List Float
  group_numbers = join places (λ p. lay_out n n (sum_at sums points n times left right t (u + p)))

  unfoldable pub group_sums : SumsOutcome
  group_sums =
      let answer = cond (eqb (length out) (places * (2 * (n * n)))) (summed_answer (size_checks points n (is_group points n t u places) (left ∷ right ∷ [])) group_finite) (Err Unfit) in
      record { answer = answer; out = summed_out answer group_numbers out }

-- `forward_group`: Dyson's sums there, in their places of the slice that the rows before are read from
module _ (points n : ℕ) (times free kernel retarded : List Float) (t u places : ℕ) where
  abbrev pub forward_group_finite : Bool
  forward_group_finite = all_below places (λ p. forward_finite points n times free kernel retarded t (u + p))

  abbrev pub forward_numbers : List Float
  forward_numbers = join places (λ p. forward_block points n times free kernel retarded t (u + p))

  unfoldable pub forward_group : SumsOutcome
  forward_group =
      let answer = summed_answer (size_checks points n (is_below points n t u places) (free ∷ kernel ∷ retarded ∷ [])) forward_group_finite in
      let at = row_at points n t + u * (2 * (n * n)) in
      let count = places * (2 * (n * n)) in
      record { answer = answer; out = put_mid at count retarded (summed_out answer forward_numbers (mid_of at count retarded)) }

-- ---- laws

-- what it says to be a group
pub record Grouped (points n t u places : ℕ) : Type 0 where
  pub points-most : points ≤ 256
  pub orbitals-most : n ≤ 16
  pub row : t < points
  pub first : u < points
  pub some : 0 < places
  pub most : places ≤ 16
  pub fit : u + places ≤ points
  pub few : places * n ≤ 16

pub grouped : (points n t u places : ℕ) → is_group points n t u places ≡ true → Grouped points n t u places
unfolding is_group
grouped points n t u places h =
    let g = both ((leb points 256 && leb n 16) && ((ltb t points && ltb u points) && (ltb 0 places && leb places 16))) (leb (u + places) points && leb (places * n) 16) h in
    let f = both (leb points 256 && leb n 16) ((ltb t points && ltb u points) && (ltb 0 places && leb places 16)) g.0 in
    let limits = both (leb points 256) (leb n 16) f.0 in
    let w = both (ltb t points && ltb u points) (ltb 0 places && leb places 16) f.1 in
    let at = both (ltb t points) (ltb u points) w.0 in
    let count = both (ltb 0 places) (leb places 16) w.1 in
    let sums = both (leb (u + places) points) (leb (places * n) 16) g.1 in
    record {
      points-most = leb-true _ _ limits.0;
      orbitals-most = leb-true _ _ limits.1;
      row = ltb-true _ _ at.0;
      first = ltb-true _ _ at.1;
      some = ltb-true _ _ count.0;
      most = leb-true _ _ count.1;
      fit = leb-true _ _ sums.0;
      few = leb-true _ _ sums.1;
    }

pub group_is : {points n t u places : ℕ} → Grouped points n t u places → is_group points n t u places ≡ true
unfolding is_group
group_is g =
    rw (
      le-leb _ _ g.points-most,
      le-leb _ _ g.orbitals-most,
      lt-ltb _ _ g.row,
      lt-ltb _ _ g.first,
      lt-ltb _ _ g.some,
      le-leb _ _ g.most,
      le-leb _ _ g.fit,
      le-leb _ _ g.few,
    )

-- the answer once checks 1 to 3 pass
pub answer-passed : (v : Verdict) (finite : Bool) → v ≡ pass → summed_answer v finite ≡ cond finite (Ok tt) (Err Overflow)
unfolding summed_answer
answer-passed v true e = rw e
answer-passed v false e = rw e

pub unfit_also : (b : Bool) (x : Summed) → x ≡ Err Unfit → cond b x (Err Unfit) ≡ Err Unfit
unfit_also true x e = e
unfit_also false x e = refl

-- lanes that hold the sums are written as an outcome says
module _ {points n t u places : ℕ} (g : Grouped points n t u places) (totals : List Float) (until : ℕ) (out : List Float) (long : length totals ≡ 512)
    (finite : Bool) (made : List Float) (is_finite : lanes_finite totals n places until ≡ finite) (is_made : laid_lanes totals n places ≡ made) where
  abbrev answer : Summed
  answer = cond (eqb (length out) (places * (2 * (n * n)))) (cond finite (Ok tt) (Err Overflow)) (Err Unfit)

  pub written_is : written totals n places until out ≡ record { answer = answer; out = summed_out answer made out }
  unfolding written
  written_is = rw (le-leb _ _ g.orbitals-most, le-leb _ _ g.most, le-leb _ _ g.few, eq-eqb _ _ long, is_finite, is_made)

module _ (sums : Sums) (points n : ℕ) (times left right : List Float) (t u places : ℕ) (out : List Float) where
  abbrev outcome : SumsOutcome
  outcome = group_sums sums points n times left right t u places out

  abbrev checks : Verdict
  checks = size_checks points n (is_group points n t u places) (left ∷ right ∷ [])

  abbrev finite : Bool
  finite = group_finite sums points n times left right t u places out

  abbrev long : Bool
  long = eqb (length out) (places * (2 * (n * n)))

  pub group_unfit : (r : Refusal) → checks ≡ Err r → (Err Unfit ≡ outcome.answer) × (out ≡ outcome.out)
  unfolding group_sums summed_answer summed_out
  group_unfit r e =
      let a : cond long (summed_answer checks finite) (Err Unfit) ≡ Err Unfit = unfit_also long (summed_answer checks finite) (rw e) in
      (sym a, sym (ap (λ (y : Summed). summed_out y (group_numbers sums points n times left right t u places out) out) a))

  pub group_zero : Grouped points n t u places → checks ≡ pass → long ≡ true → finite ≡ true → (zeros : List Float) → zeros ≡ group_numbers sums points n times left right t u places out
      → (Ok tt ≡ outcome.answer) × (zeros ≡ outcome.out)
  unfolding group_sums summed_answer summed_out
  group_zero g e l f zeros h = (rw (l, e, f), rw (l, e, f) h)

  pub group_written : Grouped points n t u places → checks ≡ pass → (totals : List Float) → length totals ≡ 512
      → lanes_finite totals n places places ≡ finite → laid_lanes totals n places ≡ group_numbers sums points n times left right t u places out
      → written totals n places places out ≡ outcome
  unfolding group_sums
  group_written g e totals h f m =
      written_is g totals places out h finite (group_numbers sums points n times left right t u places out) f m
      ∙ ap (λ (y : Summed). record { answer = cond long y (Err Unfit); out = summed_out (cond long y (Err Unfit)) (group_numbers sums points n times left right t u places out) out }) (sym (answer-passed checks finite e))

module _ (points n : ℕ) (times free kernel retarded : List Float) (t u places : ℕ) where
  abbrev forward : SumsOutcome
  forward = forward_group points n times free kernel retarded t u places

  abbrev below : Verdict
  below = size_checks points n (is_below points n t u places) (free ∷ kernel ∷ retarded ∷ [])

  abbrev at : ℕ
  at = row_at points n t + u * (2 * (n * n))

  abbrev count : ℕ
  count = places * (2 * (n * n))

  abbrev forward_is_finite : Bool
  forward_is_finite = forward_group_finite points n times free kernel retarded t u places

  pub forward-unfit : (r : Refusal) → below ≡ Err r → (Err Unfit ≡ forward.answer) × (retarded ≡ forward.out)
  unfolding forward_group summed_answer summed_out
  forward-unfit r e = (rw e, rw e (sym (put_same at count retarded)))

  pub forward-written : Grouped points n t u places → below ≡ pass → (totals : List Float) (until : ℕ) → length totals ≡ 512 → at + count ≤ length retarded
      → lanes_finite totals n places until ≡ forward_is_finite → laid_lanes totals n places ≡ forward_numbers points n times free kernel retarded t u places
      → (width : ℕ) → width ≡ count → let w = written totals n places until (mid_of at width retarded) in
      (w.answer ≡ forward.answer) × (put_mid at width retarded w.out ≡ forward.out)
  unfolding forward_group
  forward-written g e totals until h room f m width same =
      let made = forward_numbers points n times free kernel retarded t u places in
      let part : List Float = mid_of at count retarded in
      let whole : length part ≡ count = length-take-le count (drop at retarded) (omega (arith, length-drop at retarded)) in
      let is : written totals n places until part ≡ record { answer = summed_answer below forward_is_finite; out = summed_out (summed_answer below forward_is_finite) made part } =
      written_is g totals until part h forward_is_finite made f m
      ∙ ap (λ (y : Summed). record { answer = y; out = summed_out y made part }) (ap (λ (b : Bool). cond b (cond forward_is_finite (Ok tt) (Err Overflow)) (Err Unfit)) (eq-eqb _ _ whole) ∙ sym (answer-passed below forward_is_finite e)) in (
        ap (λ (k : ℕ). (written totals n places until (mid_of at k retarded)).answer) same ∙ ap (λ (o : SumsOutcome). o.answer) is,
        ap (λ (k : ℕ). put_mid at k retarded (written totals n places until (mid_of at k retarded)).out) same ∙ ap (λ (o : SumsOutcome). put_mid at count retarded o.out) is,
      )

-- ---- what an outcome says of a group that is there

passed-there : (points n : ℕ) (there : Bool) (slices : List (List Float)) → there ≡ true → size_checks points n true slices ≡ pass → size_checks points n there slices ≡ pass
passed-there points n there slices e h = ap (λ (f : Bool). size_checks points n f slices) e ∙ h

module _ (sums : Sums) (points n : ℕ) (times left right : List Float) (t u places : ℕ) (out : List Float)
    (g : Grouped points n t u places) (passed : size_checks points n true (left ∷ right ∷ []) ≡ pass) (long : length out ≡ places * (2 * (n * n)))
    (answer : Summed) (after : List Float)
    (answered : answer ≡ (group_sums sums points n times left right t u places out).answer) (holds : after ≡ (group_sums sums points n times left right t u places out).out) where
  abbrev told : Summed
  told = summed_answer (size_checks points n (is_group points n t u places) (left ∷ right ∷ [])) (group_finite sums points n times left right t u places out)

  is-told : answer ≡ told
  unfolding group_sums
  is-told = answered ∙ ap (λ (b : Bool). cond b told (Err Unfit)) (eq-eqb _ _ long)

  pub group_finite_lem : is_ok answer ≡ true → (group_finite sums points n times left right t u places out ≡ true) × (after ≡ group_numbers sums points n times left right t u places out)
  unfolding group_sums
  group_finite_lem h =
      let l = outcome-finite _ _ (passed-there points n (is_group points n t u places) (left ∷ right ∷ []) (group_is g) passed) answer is-told h in
      (l.0, l.1 (group_numbers sums points n times left right t u places out) out after (holds ∙ ap (λ (b : Bool). summed_out (cond b told (Err Unfit)) (group_numbers sums points n times left right t u places out) out) (eq-eqb _ _ long)))

  pub group_overflow : is_ok answer ≡ false → group_finite sums points n times left right t u places out ≡ false
  group_overflow h = (outcome-overflow _ _ (passed-there points n (is_group points n t u places) (left ∷ right ∷ []) (group_is g) passed) answer is-told h).0

module _ (points n : ℕ) (times free kernel retarded : List Float) (t u places : ℕ)
    (g : Grouped points n t u places) (under : u + places ≤ t + 1) (passed : size_checks points n true (free ∷ kernel ∷ retarded ∷ []) ≡ pass)
    (answer : Summed) (after : List Float)
    (answered : answer ≡ (forward_group points n times free kernel retarded t u places).answer) (holds : after ≡ (forward_group points n times free kernel retarded t u places).out) where
  stands : is_below points n t u places ≡ true
  stands = rw (group_is g, le-leb _ _ under)

  pub forward_finite_lem : is_ok answer ≡ true → (forward_group_finite points n times free kernel retarded t u places ≡ true)
      × (after ≡ put_mid (row_at points n t + u * (2 * (n * n))) (places * (2 * (n * n))) retarded (forward_numbers points n times free kernel retarded t u places))
  unfolding forward_group
  forward_finite_lem h =
      let at = row_at points n t + u * (2 * (n * n)) in
      let count = places * (2 * (n * n)) in
      let l = outcome-finite _ _ (passed-there points n (is_below points n t u places) (free ∷ kernel ∷ retarded ∷ []) stands passed) answer answered h in
      (l.0, holds ∙ ap (λ (ys : List Float). put_mid at count retarded ys) (l.1 (forward_numbers points n times free kernel retarded t u places) (mid_of at count retarded) _ refl))

  pub forward-overflow : is_ok answer ≡ false → forward_group_finite points n times free kernel retarded t u places ≡ false
  unfolding forward_group
  forward-overflow h = (outcome-overflow _ _ (passed-there points n (is_below points n t u places) (free ∷ kernel ∷ retarded ∷ []) stands passed) answer answered h).0
