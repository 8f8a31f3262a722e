-- How a call ends that makes its checks and then works: refused by a check, with all that it makes finite, or not. Assumes nothing.
use Rattle.std.specs.Prelude.{Err, ◌≡◌}
use Rattle.lists.specs.Prelude.{sym, ◌∙◌, Bool, true, false, List, Float}
use Rattle.refusal.specs.declared.Refusal.{Refusal}
use Rattle.refusal.specs.Verdict.{pass, Verdict, by, ask, ◌then◌, afterwards}
use Rattle.refusal.specs.Checks.{finite_work}
use Rattle.refusal.specs.Agreement.{then-refused}
use Rattle.refusal.specs.Unchanged.{Keeping, keeping_clears}

-- the call's answer is the verdict, and each slice holds what the verdict says, of what was made for it and what it held before
pub record Ended (clear : List Float → List Float) (verdict answer : Verdict) (holds : List Float → List Float → List Float) : Type 0 where
  pub answered : answer ≡ verdict
  pub slice : (made before : List Float) → holds made before ≡ afterwards clear verdict made before

module _ (clear : List Float → List Float) {checks answer : Verdict} (checked : answer ≡ checks) (finite : Bool) where
  -- refused before the work, by a number that clears nothing
  pub unchanged : Keeping checks → (r : Refusal) → answer ≡ Err r → Ended clear (checks then finite_work finite) answer (λ made before. before)
  unfolding afterwards
  unchanged k r p =
      let q : checks ≡ Err r = sym checked ∙ p in
      record { answered = p ∙ sym (then-refused checks _ r q); slice = λ made before. rw (q, keeping_clears k r q) }

  pub accepted : answer ≡ pass → finite ≡ true → Ended clear (checks then finite_work finite) pass (λ made before. made)
  unfolding finite_work ask afterwards
  accepted p e = let q : checks ≡ pass = sym checked ∙ p in record { answered = rw (q, e); slice = λ made before. rw (q, e) }

  pub overflowed : answer ≡ pass → finite ≡ false → Ended clear (checks then finite_work finite) (Err (by 10)) (λ made before. clear before)
  unfolding finite_work ask afterwards
  overflowed p e = let q : checks ≡ pass = sym checked ∙ p in record { answered = rw (q, e); slice = λ made before. rw (q, e) }
