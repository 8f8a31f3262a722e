-- Closed cases of reading an entry: what stands there, and each refusal.
use Rattle.std.specs.Prelude.{Ok, Err, ◌≡◌, ◌∷◌}
use Rattle.lists.specs.Prelude.{refl, List, [], replicate, Float, nan}
use Rattle.std.specs.Float.Ieee as Ieee
use Rattle.complex.specs.Arithmetic.{plus_zero, one, finite}
use Rattle.refusal.specs.Verdict.{by, ask, ◌then◌, ask_all}
use Rattle.refusal.specs.Checks.{large_enough, within_limits, fitting, within_capacity, time_below, orbital_below}
use Rattle.matrix.specs.Calls.{valued}
use Rattle.two_time.specs.Calls.{all_long, capacity_checks, point_entries, point_checks}
use Rattle.observables.specs.Calls.{lesser_checks}
use Rattle.view.specs.Calls.{entry_checks, stored_entry}

-- N = 2, n = 1: block (1, 0) is 1 + 0i, the others +0
abbrev numbers : List Float
numbers = plus_zero ∷ plus_zero ∷ plus_zero ∷ plus_zero ∷ one ∷ plus_zero ∷ plus_zero ∷ plus_zero ∷ []

-- the entry; 11 of t and of u, 12 of a and of b, 11 before 12; then 1, 2, 3 and 7 with its position, each before 11
entries : stored_entry 2 1 numbers 1 0 0 0 ∷ stored_entry 2 1 numbers 0 1 0 0
    ∷ stored_entry 2 1 numbers 2 0 0 0 ∷ stored_entry 2 1 numbers 0 2 0 0 ∷ stored_entry 2 1 numbers 0 0 1 0 ∷ stored_entry 2 1 numbers 0 0 0 1 ∷ stored_entry 2 1 numbers 0 2 1 0
    ∷ stored_entry 1 1 [] 1 0 0 0 ∷ stored_entry 257 1 [] 257 0 0 0 ∷ stored_entry 2 1 (one ∷ []) 2 0 0 0 ∷ stored_entry 2 1 (one ∷ one ∷ one ∷ nan ∷ replicate 4 one) 2 0 0 0 ∷ []
    ≡ Ok (record { re = one; im = plus_zero }) ∷ Ok (record { re = plus_zero; im = plus_zero })
    ∷ Err (by 11) ∷ Err (by 11) ∷ Err (by 12) ∷ Err (by 12) ∷ Err (by 11)
    ∷ Err (by 1) ∷ Err (by 2) ∷ Err (by 3) ∷ Err (record { number = 7; operand = 0; first = 3; second = 0; part = plus_zero }) ∷ []
unfolding stored_entry entry_checks valued lesser_checks point_checks capacity_checks all_long large_enough within_limits fitting within_capacity point_entries time_below orbital_below ask ask_all finite Ieee.of_bits
entries = refl
