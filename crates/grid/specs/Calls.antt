-- Document 01, grid: the outcome of each call. A call on the grid alone asks checks 1 and 2 of N alone.
use Rattle.refusal.specs.declared.Refusal.{Refusal}
use Rattle.std.specs.Prelude.{Result, ◌&&◌, ◌∷◌}
use Rattle.lists.specs.Prelude.{ℕ, Bool, true, List, [], eqb, length, Float}
use Rattle.lists.specs.Indexed.{join}
use Rattle.refusal.specs.Verdict.{Verdict, ◌then◌, zeroed, afterwards, measured}
use Rattle.refusal.specs.Checks.{large_enough, within_limits, fitting, finite_times, rising_times, finite_weights, time_below}
use Rattle.grid.specs.Weights.{full_weight, interval_weight}

-- checks 4, 5 and 6
unfoldable pub grid_checks : ℕ → List Float → Verdict
grid_checks points times = finite_times points times then rising_times points times then finite_weights points (full_weight points times)

-- checks 1 to 6 of a call that is lent the times, with its own question of other lengths
unfoldable pub grid_call_checks : ℕ → List Float → Bool → Verdict
grid_call_checks points times fits = large_enough points 1 then within_limits points 1 then fitting (eqb (length times) points && fits) then grid_checks points times

-- `check_times`
unfoldable pub check_times : ℕ → List Float → Verdict
check_times points times = grid_call_checks points times true

-- `full_weights`: the answer, and the weights' slice afterwards
pub record FullWeights : Type 0 where
  pub answer : Verdict
  pub weights : List Float

unfoldable pub full_weights : ℕ → List Float → List Float → FullWeights
full_weights points times weights =
    let verdict = grid_call_checks points times (eqb (length weights) points) in
    record { answer = verdict; weights = afterwards zeroed verdict (join points (λ i. full_weight points times i ∷ [])) weights }

-- `checked_interval_weight`: "An end of N or more gives 11 before that."
unfoldable pub checked_interval_weight : ℕ → List Float → ℕ → ℕ → ℕ → Result Float Refusal
checked_interval_weight points times point start end = measured (grid_call_checks points times true then time_below end points) (interval_weight times point start end)
