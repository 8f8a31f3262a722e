-- The outcome of a call that lays the sums at all places out in a slice and asks its sizes alone.
use Rattle.std.specs.Prelude.{is_ok, Ok, Err, ◌≡◌, ◌*◌, ◌&&◌, ◌∷◌}
use Rattle.lists.specs.Prelude.{refl, sym, ap, ◌∙◌, ℕ, Bool, true, false, cond, List, [], le_refl, arith, leb, le-leb, length, replicate, Float}
use Rattle.lists.specs.Agreement.{join_agree}
use Rattle.complex.specs.Arithmetic.{plus_zero}
use Rattle.block.specs.Operations.{zeros}
use Rattle.block.specs.Zero.{join-replicate, block-zero}
use Rattle.refusal.specs.declared.Refusal.{Refusal}
use Rattle.refusal.specs.Verdict.{pass, Verdict, zeroed}
use Rattle.two_time.specs.declared.sums.Sums.{Sums}
use Rattle.two_time.specs.Summed.{Summed}
use Rattle.two_time.specs.declared.sums.SumError.TheVariants.{Overflow, Unfit}
use Rattle.two_time.specs.Layout.{length_of, lay_out_all}
use Rattle.two_time.specs.New.{cleared_new}
use Rattle.two_time.specs.Sums.{sums_numbers, sums_of_finite, sums_finite, new_numbers, new_finite}
use Rattle.two_time.specs.Written.{every_new-all, written_all}
use Rattle.two_time.specs.Parts.{whole_length}
use Rattle.two_time.specs.Calls.{size_checks}
use Rattle.two_time.specs.SizeChecks.{SizesPassed, sizes-passed, sizes_pass, long-first}

-- the answer of `weighted_sums`, and its slice afterwards
pub record SumsOutcome : Type 0 where
  pub answer : Summed
  pub out : List Float

-- the answer: where checks 1 to 3 refuse nothing is summed
unfoldable pub summed_answer : Verdict → Bool → Summed
summed_answer (Err r) finite = Err Unfit
summed_answer (Ok tt) true = Ok tt
summed_answer (Ok tt) false = Err Overflow

-- what a slice holds afterwards
unfoldable pub summed_out : Summed → List Float → List Float → List Float
summed_out (Ok tt) made before = made
summed_out (Err Overflow) made before = zeroed before
summed_out (Err Unfit) made before = before

-- what an answer says once checks 1 to 3 pass: whether all is finite, and so what each slice holds
module _ (v : Verdict) (finite : Bool) (passed : v ≡ pass) (answer : Summed) (answered : answer ≡ summed_answer v finite) where
  pub by_flag : (ok : Bool) → ok ≡ is_ok answer → (finite ≡ ok) × ((made before : List Float) → summed_out (summed_answer v finite) made before ≡ cond ok made (zeroed before))
  unfolding summed_answer summed_out
  by_flag ok h = rw (h, answered, passed) (cases finite)
    where
      cases : (f : Bool) → (f ≡ is_ok (summed_answer pass f))
          × ((made before : List Float) → summed_out (summed_answer pass f) made before ≡ cond (is_ok (summed_answer pass f)) made (zeroed before))
      cases true = (refl, λ made before. refl)
      cases false = (refl, λ made before. refl)

  pub outcome-finite : is_ok answer ≡ true → (finite ≡ true) × ((made before after : List Float) → after ≡ summed_out (summed_answer v finite) made before → after ≡ made)
  outcome-finite h = let t = by_flag true (sym h) in (t.0, λ made before after s. s ∙ t.1 made before)

  pub outcome-overflow : is_ok answer ≡ false → (finite ≡ false) × ((made before after : List Float) → after ≡ summed_out (summed_answer v finite) made before → after ≡ zeroed before)
  outcome-overflow h = let t = by_flag false (sym h) in (t.0, λ made before after s. s ∙ t.1 made before)

-- how a call ends that asks its sizes alone: its answer, and what each slice holds, of what was made for it and what it held before
pub record SumsEnded (v : Verdict) (finite : Bool) (answer : Summed) (holds : List Float → List Float → List Float) : Type 0 where
  pub answered : answer ≡ summed_answer v finite
  pub slice : (made before : List Float) → holds made before ≡ summed_out (summed_answer v finite) made before

module _ {v : Verdict} (finite : Bool) where
  pub ends-unfit : {r : Refusal} → v ≡ Err r → SumsEnded v finite (Err Unfit) (λ made before. before)
  unfolding summed_answer summed_out
  ends-unfit p = record { answered = rw p; slice = λ made before. rw p }

  pub ends-finite : v ≡ pass → finite ≡ true → SumsEnded v finite (Ok tt) (λ made before. made)
  unfolding summed_answer summed_out
  ends-finite p e = record { answered = rw (p, e); slice = λ made before. rw (p, e) }

  pub ends-overflow : v ≡ pass → finite ≡ false → SumsEnded v finite (Err Overflow) (λ made before. zeroed before)
  unfolding summed_answer summed_out
  ends-overflow p e = record { answered = rw (p, e); slice = λ made before. rw (p, e) }

module _ (sums : Sums) (points orbitals : ℕ) (times left right out : List Float) where
  -- `weighted_sums`
  unfoldable pub summed : SumsOutcome
  summed =
      let answer = summed_answer (size_checks points orbitals true (left ∷ right ∷ out ∷ [])) (sums_finite sums points orbitals times left right) in
      record { answer = answer; out = summed_out answer (sums_numbers sums points orbitals times left right) out }

  -- what its answer says of slices that have their length
  pub sums_said : SizesPassed points orbitals true (left ∷ right ∷ out ∷ []) → {answer : Summed} {after : List Float} → answer ≡ summed.answer → after ≡ summed.out
      → (ok : Bool) → ok ≡ is_ok answer → (sums_finite sums points orbitals times left right ≡ ok) × (after ≡ cond ok (sums_numbers sums points orbitals times left right) (zeroed out))
  unfolding summed
  sums_said z a h ok e = let t = by_flag _ _ (sizes_pass _ z z.long) _ a ok e in (t.0, h ∙ t.1 _ out)

-- ---- in slices laid out for a capacity

-- what a slice holds afterwards, of what is made, what it is cleared to and what it held
unfoldable pub new_out : Summed → List Float → List Float → List Float → List Float
new_out (Ok tt) made cleared before = made
new_out (Err Overflow) made cleared before = cleared
new_out (Err Unfit) made cleared before = before

module _ (sums : Sums) (capacity orbitals old points : ℕ) (times left right out : List Float) where
  -- `new_sums`
  unfoldable pub new_sums : SumsOutcome
  new_sums =
      let answer = summed_answer (size_checks capacity orbitals (leb old points && leb points capacity) (left ∷ right ∷ out ∷ [])) (new_finite sums capacity orbitals old points times left right) in
      record { answer = answer; out = new_out answer (new_numbers sums capacity orbitals old points times left right out) (cleared_new capacity orbitals old points out) out }

-- what an answer says once checks 1 to 3 pass, as above
module _ (v : Verdict) (finite : Bool) (passed : v ≡ pass) (answer : Summed) (answered : answer ≡ summed_answer v finite) where
  pub new_flag : (ok : Bool) → ok ≡ is_ok answer → (finite ≡ ok) × ((made cleared before : List Float) → new_out (summed_answer v finite) made cleared before ≡ cond ok made cleared)
  unfolding summed_answer new_out
  new_flag ok h = rw (h, answered, passed) (cases finite)
    where
      cases : (f : Bool) → (f ≡ is_ok (summed_answer pass f))
          × ((made cleared before : List Float) → new_out (summed_answer pass f) made cleared before ≡ cond (is_ok (summed_answer pass f)) made cleared)
      cases true = (refl, λ made cleared before. refl)
      cases false = (refl, λ made cleared before. refl)

-- a flag that is set
pub flagged : (capacity n : ℕ) (there : Bool) (slices : List (List Float)) → there ≡ true → size_checks capacity n true slices ≡ pass → size_checks capacity n there slices ≡ pass
flagged capacity n there slices e h = ap (λ (b : Bool). size_checks capacity n b slices) e ∙ h

pub new_sums_said : (sums : Sums) (capacity n old points : ℕ) (times left right out : List Float) → size_checks capacity n (leb old points && leb points capacity) (left ∷ right ∷ out ∷ []) ≡ pass
    → {answer : Summed} {after : List Float} → (let made = new_sums sums capacity n old points times left right out in (answer ≡ made.answer) × (after ≡ made.out)) → (ok : Bool) → ok ≡ is_ok answer
    → (new_finite sums capacity n old points times left right ≡ ok) × (after ≡ cond ok (new_numbers sums capacity n old points times left right out) (cleared_new capacity n old points out))
unfolding new_sums
new_sums_said sums capacity n old points times left right out passed e ok h = let t = new_flag _ _ passed _ e.0 ok h in (t.0, e.1 ∙ t.1 _ _ out)

-- at all places of slices laid out for the points these are the sums at all places
module _ (sums : Sums) (points orbitals : ℕ) (times left right out : List Float) where
  pub all_finite_lem : new_finite sums points orbitals 0 points times left right ≡ sums_finite sums points orbitals times left right
  unfolding new_finite sums_finite sums_of_finite
  all_finite_lem = every_new-all points orbitals _

  pub all-numbers : new_numbers sums points orbitals 0 points times left right out ≡ sums_numbers sums points orbitals times left right
  unfolding new_numbers sums_numbers
  all-numbers = written_all points orbitals _ out

  pub all-cleared : length out ≡ length_of points orbitals → cleared_new points orbitals 0 points out ≡ zeroed out
  unfolding lay_out_all
  all-cleared long =
      written_all points orbitals _ out
      ∙ join_agree points _ _ (λ t ht. join_agree points _ _ (λ u hu. block-zero orbitals zeros (λ a b ha hb. refl)) ∙ join-replicate points (2 * (orbitals * orbitals)) plus_zero)
      ∙ join-replicate points (points * (2 * (orbitals * orbitals))) plus_zero
      ∙ ap (λ (k : ℕ). replicate k plus_zero) (whole_length points orbitals ∙ sym long)

  pub new_sums-all : new_sums sums points orbitals 0 points times left right out ≡ summed sums points orbitals times left right out
  unfolding new_sums summed summed_answer new_out summed_out
  new_sums-all =
      rw (le-leb 0 points (omega arith), le-leb points points (le_refl points), all_finite_lem, all-numbers)
      (by-verdict (size_checks points orbitals true (left ∷ right ∷ out ∷ [])) refl (sums_finite sums points orbitals times left right))
    where
      by-verdict : (v : Verdict) → size_checks points orbitals true (left ∷ right ∷ out ∷ []) ≡ v → (finite : Bool)
          → ◌≡◌ {A = SumsOutcome} (record { answer = summed_answer v finite; out = new_out (summed_answer v finite) (sums_numbers sums points orbitals times left right) (cleared_new points orbitals 0 points out) out })
          (record { answer = summed_answer v finite; out = summed_out (summed_answer v finite) (sums_numbers sums points orbitals times left right) out })
      by-verdict (Err r) e finite = refl
      by-verdict (Ok tt) e true = refl
      by-verdict pass e false =
          let z = sizes-passed points orbitals true (left ∷ right ∷ out ∷ []) e in
          let l = long-first _ left _ z.long in
          let r = long-first _ right _ l.1 in
          let o = long-first _ out [] r.1 in
          ap (λ (ys : List Float). record { answer = (Err Overflow); out = ys }) (all-cleared o.0)
