-- What an accepted call on a grid says of its lengths, and that a refused one leaves the lent slice as it was. Assumes nothing.
use Rattle.std.specs.Prelude.{Err, ◌≡◌}
use Rattle.lists.specs.Prelude.{refl, sym, Bool, true, List, ℕ, eqb, length, Float, eqb-true}
use Rattle.lists.specs.Agreement.{both}
use Rattle.lists.specs.Singles.{singles}
use Rattle.refusal.specs.declared.Refusal.{Refusal}
use Rattle.refusal.specs.Verdict.{pass, afterwards}
use Rattle.refusal.specs.Checks.{large_enough, within_limits, fitting, finite_times, rising_times, finite_weights}
use Rattle.refusal.specs.Agreement.{ask_pass, then-pass}
use Rattle.refusal.specs.Unchanged.{Keeping, ask_keeping, then-keeping, all_keeping, keeping_slice}
use Rattle.grid.specs.Weights.{full_weight}
use Rattle.grid.specs.Calls.{grid_checks, grid_call_checks, full_weights}

module _ (points : ℕ) (times : List Float) where
  pub grid_keeping : (fits : Bool) → Keeping (grid_call_checks points times fits)
  unfolding grid_call_checks grid_checks large_enough within_limits fitting finite_times rising_times finite_weights
  grid_keeping fits =
      then-keeping (ask_keeping _ _ refl)
      (then-keeping (ask_keeping _ _ refl)
      (then-keeping (ask_keeping _ _ refl)
      (then-keeping (ask_keeping _ _ refl)
      (then-keeping (all_keeping _ _ (λ k. ask_keeping _ _ refl)) (ask_keeping _ _ refl)))))

  -- the other lengths fit
  pub grid_fits : (fits : Bool) → grid_call_checks points times fits ≡ pass → fits ≡ true
  unfolding grid_call_checks fitting
  grid_fits fits h =
      let limits = (then-pass (large_enough points 1) _ h).1 in
      let lengths = (then-pass (within_limits points 1) _ limits).1 in
      (both (eqb (length times) points) fits (ask_pass _ _ (then-pass _ _ lengths).0)).1

  module _ (weights : List Float) where
    pub accepted : grid_call_checks points times (eqb (length weights) points) ≡ pass
        → (pass ≡ (full_weights points times weights).answer) × (singles (length weights) (full_weight points times) ≡ (full_weights points times weights).weights)
    unfolding full_weights afterwards
    accepted h = (sym h, rw (h, eqb-true (length weights) points (grid_fits (eqb (length weights) points) h)))

    pub unchanged : (r : Refusal) → grid_call_checks points times (eqb (length weights) points) ≡ Err r
        → (Err r ≡ (full_weights points times weights).answer) × (weights ≡ (full_weights points times weights).weights)
    unfolding full_weights
    unchanged r h = (sym h, sym (keeping_slice (grid_keeping (eqb (length weights) points)) r (singles points (full_weight points times)) weights h))
