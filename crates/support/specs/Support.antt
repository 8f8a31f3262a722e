-- Document 01, support: "scale = largest norm of all entries, at least 2^-1022. A place t < t' is refused, rows first, if its block's largest
-- norm divided by scale exceeds the tolerance. NaN (infinite by infinite) does not exceed."
use Rattle.std.specs.Prelude.{◌∷◌}
use Rattle.lists.specs.Prelude.{ℕ, true, cond, List, [], ltb, Float, binary64, of_bits}
use Rattle.complex.specs.Arithmetic.{div, larger}
use Rattle.complex.specs.Sum.{largest_in}
use Rattle.block.specs.Operations.{matrix_norm_max}
use Rattle.refusal.specs.Verdict.{pass, Verdict, ◌then◌, ask_all}
use Rattle.refusal.specs.Checks.{valid_tolerance, retarded_at}
use Rattle.two_time.specs.Layout.{TwoTime, read_as}
use Rattle.two_time.specs.Calls.{size_checks, operand_checks, capacity_checks}

unfoldable pub scale_of : ℕ → ℕ → TwoTime → Float
scale_of points orbitals x = larger (largest_in points points (λ t u. matrix_norm_max orbitals orbitals (x t u))) (of_bits binary64 0x0010_0000_0000_0000)

unfoldable pub residual : ℕ → ℕ → TwoTime → ℕ → ℕ → Float
residual points orbitals x t u = div (matrix_norm_max orbitals orbitals (x t u)) (scale_of points orbitals x)

-- check 9 of one operand at one place, and in all
abbrev pub retarded_place : ℕ → ℕ → ℕ → Float → TwoTime → ℕ → ℕ → Verdict
retarded_place points orbitals operand tolerance x t u = cond (ltb t u) (retarded_at operand t u tolerance (residual points orbitals x t u)) pass

unfoldable pub retarded : ℕ → ℕ → ℕ → Float → TwoTime → Verdict
retarded points orbitals operand tolerance x = ask_all points (λ t. ask_all points (retarded_place points orbitals operand tolerance x t))

-- `check_retarded_support`: checks 1 to 3, 7, 8 and 9 of one function, operand 0
unfoldable pub check_support : ℕ → ℕ → List Float → Float → Verdict
check_support points orbitals xs tolerance =
    size_checks points orbitals true (xs ∷ []) then operand_checks 0 (xs ∷ []) then valid_tolerance tolerance then retarded points orbitals 0 tolerance (read_as points orbitals xs)

-- of a Dyson call: "Order: 8, 9 for free, 9 for self-energy"
unfoldable pub support_checks : ℕ → ℕ → Float → TwoTime → TwoTime → Verdict
support_checks points orbitals tolerance free self_energy =
    valid_tolerance tolerance then retarded points orbitals 0 tolerance free then retarded points orbitals 1 tolerance self_energy

-- `check_retarded_inputs`: checks 1 to 3 and 16, 8, and 9 of free, operand 0, and the self-energy, operand 1, in slices laid out for a capacity
unfoldable pub check_inputs : ℕ → ℕ → ℕ → List Float → List Float → Float → Verdict
check_inputs capacity points orbitals free self_energy tolerance =
    capacity_checks capacity points orbitals true (free ∷ self_energy ∷ [])
    then support_checks points orbitals tolerance (read_as capacity orbitals free) (read_as capacity orbitals self_energy)
