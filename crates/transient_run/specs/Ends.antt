-- How a call ends, by what is known of its checks and of its work, or of its answer. Assumes nothing.
use Rattle.std.specs.Prelude.{Ok, Err, ◌≡◌}
use Rattle.lists.specs.Prelude.{ap, true, false, List, ℕ, eqb, Float}
use Rattle.refusal.specs.declared.Refusal.{Refusal}
use Rattle.refusal.specs.Verdict.{pass, by, ask, ◌then◌, afterwards}
use Rattle.refusal.specs.Checks.{finite_work}
use Rattle.refusal.specs.Agreement.{then-refused}
use Rattle.refusal.specs.Unchanged.{keeping_clears}
use Rattle.transient_run.specs.Products.{formed}
use Rattle.transient_run.specs.Form.{start_products}
use Rattle.transient_run.specs.Calls.{Run, Outcome, solved, kernel_made, retarded_made, lesser_advanced_made, lesser_made, made_finite, checks_of, verdict_of, worked}
use Rattle.transient_run.specs.Checks.{accepted_with, refused, checks_keeping}

module _ (old points : ℕ) (r : Run) (clear : List Float → List Float) where
  -- refused by a check: every slice is as it was
  pub checks-end : (x : Refusal) → checks_of old points r ≡ Err x
      → worked old points r clear ≡ record { answer = Err x; retarded = r.retarded; lesser = r.lesser; kernel = r.kernel; lesser_advanced = r.lesser_advanced }
  unfolding worked verdict_of afterwards solved
  checks-end x e = rw (then-refused (checks_of old points r) (finite_work (made_finite old points r)) x e, keeping_clears (checks_keeping points r old) x e)

  module _ (passed : checks_of old points r ≡ pass) where
    -- all that is made is finite
    pub work-end : made_finite old points r ≡ true
        → worked old points r clear ≡ record { answer = Ok (formed (start_products r.form) old points); retarded = retarded_made old points r; lesser = lesser_made old points r; kernel = kernel_made old points r; lesser_advanced = lesser_advanced_made old points r }
    unfolding worked verdict_of finite_work ask afterwards solved
    work-end e = rw (passed, e)

    -- something is not
    pub overflow-end : made_finite old points r ≡ false
        → worked old points r clear ≡ record { answer = Err (by 10); retarded = clear r.retarded; lesser = clear r.lesser; kernel = clear r.kernel; lesser_advanced = clear r.lesser_advanced }
    unfolding worked verdict_of finite_work ask afterwards solved
    overflow-end e = rw (passed, e)

  -- what 10 would clear matters where it is the answer alone
  module _ (clear' : List Float → List Float) where
    pub accepted_alike : {count : ℕ} → (worked old points r clear).answer ≡ Ok count → worked old points r clear ≡ worked old points r clear'
    unfolding worked afterwards
    accepted_alike e = rw (accepted_with (verdict_of old points r) _ _ e).0

    module _ (x : Refusal) (e : (worked old points r clear).answer ≡ Err x) where
      pub refused_alike : eqb x.number 10 ≡ false → worked old points r clear ≡ worked old points r clear'
      unfolding worked afterwards
      refused_alike n = rw (refused (verdict_of old points r) x _ e, n)

      pub ten_end : eqb x.number 10 ≡ true
          → worked old points r clear' ≡ record { answer = Err x; retarded = clear' r.retarded; lesser = clear' r.lesser; kernel = clear' r.kernel; lesser_advanced = clear' r.lesser_advanced }
      unfolding worked afterwards solved
      ten_end n = rw (refused (verdict_of old points r) x _ e, n)

-- the parts of outcomes that are the same
module _ {o p : Outcome} (e : o ≡ p) where
  pub answers : o.answer ≡ p.answer
  answers = ap (λ (x : Outcome). x.answer) e

  pub retardeds : o.retarded ≡ p.retarded
  retardeds = ap (λ (x : Outcome). x.retarded) e

  pub lessers : o.lesser ≡ p.lesser
  lessers = ap (λ (x : Outcome). x.lesser) e

  pub kernels : o.kernel ≡ p.kernel
  kernels = ap (λ (x : Outcome). x.kernel) e

  pub lesser_advanceds : o.lesser_advanced ≡ p.lesser_advanced
  lesser_advanceds = ap (λ (x : Outcome). x.lesser_advanced) e
