-- Closed cases of the grid: P6 and P7 of document 01, the weights of the times 0, 0.5, 2, 5, and each refusal.
use Rattle.std.specs.Prelude.{Ok, Err, ◌≡◌, ◌∷◌}
use Rattle.lists.specs.Prelude.{refl, List, [], map, ℕ, Float, nan, binary64, to_bits}
use Rattle.std.specs.Float.Ieee as Ieee
use Rattle.lists.specs.Indexed.{join, all_below}
use Rattle.complex.specs.Arithmetic.{plus_zero, one, finite}
use Rattle.refusal.specs.Verdict.{pass, by, ask, ask_all, afterwards, measured}
use Rattle.refusal.specs.Checks.{large_enough, within_limits, fitting, finite_times, rising_times, finite_weights, time_below}
use Rattle.grid.specs.Weights.{half_step, full_weight, interval_weight}
use Rattle.grid.specs.Calls.{grid_checks, grid_call_checks, check_times, full_weights, checked_interval_weight}

-- the numbers of these bit patterns
abbrev floats : List ℕ → List Float
floats = map (Ieee.of_bits binary64)

-- 0, 0.5, 2, 5
abbrev times : List Float
times = floats (0 ∷ 0x3fe0_0000_0000_0000 ∷ 0x4000_0000_0000_0000 ∷ 0x4014_0000_0000_0000 ∷ [])

-- the weights over all points: 0.25, 1, 2.25, 1.5; a refused call leaves the slice as it was: its length is 3
full : full_weights 4 times (floats (7 ∷ 7 ∷ 7 ∷ 7 ∷ [])) ∷ full_weights 4 times (one ∷ []) ∷ []
    ≡ record { answer = pass; weights = floats (0x3fd0_0000_0000_0000 ∷ 0x3ff0_0000_0000_0000 ∷ 0x4002_0000_0000_0000 ∷ 0x3ff8_0000_0000_0000 ∷ []) }
    ∷ record { answer = Err (by 3); weights = one ∷ [] } ∷ []
unfolding full_weights grid_call_checks grid_checks large_enough within_limits fitting finite_times rising_times finite_weights ask ask_all afterwards full_weight half_step all_below join finite Ieee.of_bits Ieee.lt Ieee.sub Ieee.mul
full = refl

-- on 1..3 the points 1, 2, 3 have 0.75, 2.25, 1.5, and 0 lies outside; on 1..2 the points 1 and 2 have 0.75 and 3 lies outside;
-- 1..1 and 2..1 have no weight
interval : map (to_bits binary64)
    (interval_weight times 1 1 3 ∷ interval_weight times 2 1 3 ∷ interval_weight times 3 1 3 ∷ interval_weight times 0 1 3
    ∷ interval_weight times 1 1 2 ∷ interval_weight times 2 1 2 ∷ interval_weight times 3 1 2 ∷ interval_weight times 1 1 1 ∷ interval_weight times 1 2 1 ∷ [])
    ≡ 0x3fe8_0000_0000_0000 ∷ 0x4002_0000_0000_0000 ∷ 0x3ff8_0000_0000_0000 ∷ 0
    ∷ 0x3fe8_0000_0000_0000 ∷ 0x3fe8_0000_0000_0000 ∷ 0 ∷ 0 ∷ 0 ∷ []
unfolding interval_weight half_step to_bits Ieee.of_bits Ieee.sub Ieee.mul
interval = refl

-- P6: the times 0, 0 give 5 at 1. P7: minus the largest number and the largest give 6. Then checks 1 to 4
refused : check_times 2 (floats (0 ∷ 0 ∷ [])) ∷ check_times 2 (floats (0xffef_ffff_ffff_ffff ∷ 0x7fef_ffff_ffff_ffff ∷ []))
    ∷ check_times 1 (one ∷ []) ∷ check_times 257 [] ∷ check_times 2 (one ∷ []) ∷ check_times 2 (nan ∷ one ∷ []) ∷ []
    ≡ Err (record { number = 5; operand = 0; first = 1; second = 0; part = plus_zero }) ∷ Err (by 6)
    ∷ Err (by 1) ∷ Err (by 2) ∷ Err (by 3) ∷ Err (by 4) ∷ []
unfolding check_times grid_call_checks grid_checks large_enough within_limits fitting finite_times rising_times finite_weights ask ask_all full_weight half_step all_below finite Ieee.of_bits Ieee.lt Ieee.sub Ieee.mul
refused = refl

-- an end of N gives 11, although start ≥ end; one below N does not
ends : checked_interval_weight 4 times 4 4 4 ∷ checked_interval_weight 4 times 9 9 3 ∷ checked_interval_weight 4 times 3 2 3 ∷ []
    ≡ Err (by 11) ∷ Ok plus_zero ∷ Ok (Ieee.of_bits binary64 0x3ff8_0000_0000_0000) ∷ []
unfolding checked_interval_weight interval_weight measured time_below grid_call_checks grid_checks large_enough within_limits fitting finite_times rising_times finite_weights ask ask_all full_weight half_step all_below finite Ieee.of_bits Ieee.lt Ieee.sub Ieee.mul
ends = refl
