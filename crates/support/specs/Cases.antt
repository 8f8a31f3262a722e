-- Closed cases of the support test, P8 and P9 of document 01 among them.
use Rattle.std.specs.Prelude.{Err, ◌≡◌, ◌∷◌}
use Rattle.lists.specs.Prelude.{refl, List, [], ℕ, Float, binary64}
use Rattle.std.specs.Float.Ieee as Ieee
use Rattle.lists.specs.Indexed.{fold}
use Rattle.complex.specs.Arithmetic.{plus_zero, one, finite, larger}
use Rattle.complex.specs.Sum.{largest_from, largest_in}
use Rattle.norm.specs.Norm.{norm}
use Rattle.refusal.specs.Verdict.{pass, by, ask, ask_all}
use Rattle.refusal.specs.Checks.{large_enough, within_limits, fitting, finite_entries, valid_tolerance, retarded_at}
use Rattle.block.specs.Operations.{matrix_norm_max}
use Rattle.two_time.specs.Calls.{all_long, size_checks, operand_checks}
use Rattle.two_time.specs.Example.{floats}
use Rattle.support.specs.Support.{scale_of, residual, retarded, check_support}

-- diagonal 1, entry (1,0) +0 and entry (0,1) as given
abbrev above : ℕ → List Float
above x = one ∷ plus_zero ∷ Ieee.of_bits binary64 x ∷ plus_zero ∷ plus_zero ∷ plus_zero ∷ one ∷ plus_zero ∷ []

abbrev half : Float
half = Ieee.of_bits binary64 0x3fe0_0000_0000_0000

-- P8: with tolerance 0.5, 0.5 at (0,1) is retarded, and 0.75 is number 9 at (0,1). A scale is at least 2^-1022.
p8 : check_support 2 1 (above 0x3fe0_0000_0000_0000) half ∷ check_support 2 1 (above 0x3fe8_0000_0000_0000) half
    ∷ check_support 2 1 (floats (0 ∷ 0 ∷ 1 ∷ 0 ∷ 0 ∷ 0 ∷ 0 ∷ 0 ∷ [])) half ∷ check_support 2 1 (above 0) plus_zero ∷ []
    ≡ pass ∷ Err (record { number = 9; operand = 0; first = 0; second = 1; part = Ieee.of_bits binary64 0x3fe8_0000_0000_0000 }) ∷ pass ∷ Err (by 8) ∷ []
unfolding check_support size_checks all_long operand_checks large_enough within_limits fitting finite_entries valid_tolerance retarded retarded_at residual scale_of ask ask_all matrix_norm_max largest_in largest_from fold larger norm finite Ieee.of_bits Ieee.div Ieee.ne Ieee.eq Ieee.lt
p8 = refl

-- P9: entry (1,0) has both parts largest, so the scale is infinite, and entry (0,1) 1 has the residual 0
p9 : check_support 2 1 (floats (0 ∷ 0 ∷ 0x3ff0_0000_0000_0000 ∷ 0 ∷ 0x7fef_ffff_ffff_ffff ∷ 0x7fef_ffff_ffff_ffff ∷ 0 ∷ 0 ∷ [])) half ≡ pass
unfolding check_support size_checks all_long operand_checks large_enough within_limits fitting finite_entries valid_tolerance retarded retarded_at residual scale_of ask ask_all matrix_norm_max largest_in largest_from fold larger norm finite Ieee.of_bits Ieee.div Ieee.ne Ieee.eq Ieee.lt
p9 = refl

-- an infinite norm at (0,1) by the infinite scale is a NaN, which does not exceed
nan-residual : check_support 2 1 (floats (0 ∷ 0 ∷ 0x7fef_ffff_ffff_ffff ∷ 0x7fef_ffff_ffff_ffff ∷ 0 ∷ 0 ∷ 0 ∷ 0 ∷ [])) half ≡ pass
unfolding check_support size_checks all_long operand_checks large_enough within_limits fitting finite_entries valid_tolerance retarded retarded_at residual scale_of ask ask_all matrix_norm_max largest_in largest_from fold larger norm finite Ieee.of_bits Ieee.div Ieee.ne Ieee.eq Ieee.lt
nan-residual = refl
