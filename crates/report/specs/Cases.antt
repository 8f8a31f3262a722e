-- Closed cases of the report (reference/expected.py, case f), 10 by a subtraction, an infinite residual, the rule of
-- equal times, and the consistency question.
use Rattle.std.specs.Prelude.{Ok, Err, ◌≡◌, ◌∷◌, ◌++◌}
use Rattle.lists.specs.Prelude.{true, false, refl, List, [], map, ℕ, replicate, Float, nan, binary64}
use Rattle.std.specs.Float.Ieee as Ieee
use Rattle.lists.specs.Indexed.{fold, all_below}
use Rattle.complex.specs.Arithmetic.{plus_zero, one, finite, larger, csub, cmul, conj, cfinite}
use Rattle.complex.specs.Sum.{largest_from, largest_in}
use Rattle.norm.specs.Norm.{norm}
use Rattle.refusal.specs.Verdict.{by, ask, ask_all, decide}
use Rattle.refusal.specs.Checks.{large_enough, within_limits, fitting, finite_entries, valid_tolerance, finite_work}
use Rattle.block.specs.Operations.{adjoint, identity, scaled, subtracted, matrix_norm_max}
use Rattle.two_time.specs.Layout.{everywhere}
use Rattle.two_time.specs.Calls.{all_long, size_checks, operand_checks}
use Rattle.report.specs.declared.ConsistencyReport.{ConsistencyReport}
use Rattle.report.specs.declared.identities.Identity.TheVariants.{EqualTime}
use Rattle.report.specs.Residuals.{minus_mirror, counted, deviation_of, residual_at, residual_of, differences_finite}
use Rattle.report.specs.Calls.{reported, consistency_report, is_consistent}

abbrev floats : List ℕ → List Float
floats = map (Ieee.of_bits binary64)

abbrev f : ℕ → Float
f = Ieee.of_bits binary64

-- two points, one orbital: R = (1 + t) + ui, A = (0.3 − u) + ti, lesser 0.1·(t + 1) + 0.7i, greater (t − u) − 0.2i
abbrev retarded : List Float
retarded = floats (
    0x3ff0000000000000 ∷ 0 ∷ 0x3ff0000000000000 ∷ 0x3ff0000000000000 ∷ 0x4000000000000000 ∷ 0 ∷ 0x4000000000000000 ∷ 0x3ff0000000000000 ∷ [])

abbrev advanced : List Float
advanced = floats (
    0x3fd3333333333333 ∷ 0 ∷ 0xbfe6666666666666 ∷ 0 ∷ 0x3fd3333333333333 ∷ 0x3ff0000000000000 ∷ 0xbfe6666666666666 ∷ 0x3ff0000000000000 ∷ [])

abbrev lesser : List Float
lesser = floats (
    0x3fb999999999999a ∷ 0x3fe6666666666666 ∷ 0x3fb999999999999a ∷ 0x3fe6666666666666 ∷ 0x3fc999999999999a ∷ 0x3fe6666666666666 ∷ 0x3fc999999999999a ∷ 0x3fe6666666666666 ∷ [])

abbrev greater : List Float
greater = floats (
    0 ∷ 0xbfc999999999999a ∷ 0xbff0000000000000 ∷ 0xbfc999999999999a ∷ 0x3ff0000000000000 ∷ 0xbfc999999999999a ∷ 0 ∷ 0xbfc999999999999a ∷ [])

abbrev report : ℕ → ℕ → ℕ → ℕ → ℕ → ℕ → ℕ → ConsistencyReport
report a b c d e g h =
    record { retarded_causality = f a; advanced_causality = f b; advanced_adjoint = f c; lesser_antihermiticity = f d; greater_antihermiticity = f e; spectral_identity = f g; equal_time = f h }

residuals : consistency_report 2 1 retarded advanced lesser greater
    ≡ Ok (report 0x3ff6a09e667f3bcd 0x3ff0b4597bd9942c 0x400ae166e328e2e1 0x3fd999999999999a 0 0x400b11fdcc5f02ce 0x3fcc9f25c5bfeddb)
unfolding consistency_report reported size_checks all_long operand_checks large_enough within_limits fitting finite_entries finite_work ask ask_all minus_mirror counted deviation_of residual_at residual_of differences_finite everywhere all_below matrix_norm_max largest_in largest_from fold larger norm adjoint identity scaled subtracted csub cmul conj cfinite finite Ieee.of_bits Ieee.add Ieee.sub Ieee.mul Ieee.neg Ieee.ne Ieee.eq Ieee.lt
residuals = refl

-- entries at (0,0) alone
abbrev first : ℕ → List Float
first x = f x ∷ replicate 7 plus_zero

-- the largest less minus the largest: in R − A it is a block that is not finite, 10; in A − R† it is an infinite residual. Then 7 of operand 2.
overflow : consistency_report 2 1 (first 0x7fef_ffff_ffff_ffff) (first 0xffef_ffff_ffff_ffff) lesser greater
    ∷ consistency_report 2 1 (floats (0 ∷ 0 ∷ 0x7fef_ffff_ffff_ffff ∷ 0 ∷ 0 ∷ 0 ∷ 0 ∷ 0 ∷ [])) (floats (0 ∷ 0 ∷ 0 ∷ 0 ∷ 0xffef_ffff_ffff_ffff ∷ 0 ∷ 0 ∷ 0 ∷ [])) (replicate 8 plus_zero) (replicate 8 plus_zero)
    ∷ consistency_report 2 1 retarded advanced (nan ∷ replicate 7 one) greater ∷ []
    ≡ Err (by 10)
    ∷ Ok (report 0x7fef_ffff_ffff_ffff 0x7fef_ffff_ffff_ffff 0x7ff0_0000_0000_0000 0 0 0x7fef_ffff_ffff_ffff 0x3ff0_0000_0000_0000)
    ∷ Err (record { number = 7; operand = 2; first = 0; second = 0; part = plus_zero }) ∷ []
unfolding consistency_report reported size_checks all_long operand_checks large_enough within_limits fitting finite_entries finite_work ask ask_all minus_mirror counted deviation_of residual_at residual_of differences_finite everywhere all_below matrix_norm_max largest_in largest_from fold larger norm adjoint identity scaled subtracted csub cmul conj cfinite finite Ieee.of_bits Ieee.add Ieee.sub Ieee.mul Ieee.neg Ieee.ne Ieee.eq Ieee.lt
overflow = refl

-- the rule of equal times. G^> = −i and G^< = 2^-60·i leave 0 (G^> less −i, then less G^<, would leave 2^-60), also with G^>(0,1) = 7, a place
-- of which the rule does not speak; both parts of G^>(0,0) largest leave +infinity; two orbitals with 3+4i beside the diagonal leave 5
abbrev minus_i-at_0 : List ℕ → List Float
minus_i-at_0 beside = floats (0 ∷ 0xbff0_0000_0000_0000 ∷ beside) ++ floats (0 ∷ 0 ∷ 0 ∷ 0xbff0_0000_0000_0000 ∷ [])

abbrev small : List Float
small = floats (0 ∷ 0x3c30_0000_0000_0000 ∷ 0 ∷ 0 ∷ 0 ∷ 0 ∷ 0 ∷ 0x3c30_0000_0000_0000 ∷ [])

abbrev large : List Float
large = floats (0x7fef_ffff_ffff_ffff ∷ 0x7fef_ffff_ffff_ffff ∷ []) ++ replicate 6 plus_zero

abbrev zeros : List Float
zeros = replicate 8 plus_zero

-- entries (0,0), (0,1), (1,0), (1,1) of a block: −i on the diagonal
abbrev jump : ℕ → ℕ → List Float
jump re im = floats (0 ∷ 0xbff0_0000_0000_0000 ∷ re ∷ im ∷ 0 ∷ 0 ∷ 0 ∷ 0xbff0_0000_0000_0000 ∷ [])

abbrev equal_time_of : ℕ → List Float → List Float → Float
equal_time_of orbitals less more = residual_of 2 orbitals [] [] less more EqualTime

equal-times : equal_time_of 1 small (minus_i-at_0 (0 ∷ 0 ∷ [])) ∷ equal_time_of 1 small (minus_i-at_0 (0x401c_0000_0000_0000 ∷ 0 ∷ []))
    ∷ equal_time_of 1 zeros large ∷ equal_time_of 2 (replicate 32 plus_zero) (jump 0x4008_0000_0000_0000 0x4010_0000_0000_0000 ++ (zeros ++ (zeros ++ jump 0 0))) ∷ []
    ≡ floats (0 ∷ 0 ∷ 0x7ff0_0000_0000_0000 ∷ 0x4014_0000_0000_0000 ∷ [])
unfolding counted deviation_of residual_at residual_of matrix_norm_max largest_in largest_from fold larger norm identity scaled subtracted csub cmul Ieee.of_bits Ieee.add Ieee.sub Ieee.mul Ieee.neg Ieee.ne Ieee.eq Ieee.lt
equal-times = refl

-- a difference G^> − G^< that overflows
jump-overflows : consistency_report 2 1 retarded advanced (first 0xffef_ffff_ffff_ffff) (first 0x7fef_ffff_ffff_ffff) ≡ Err (by 10)
unfolding consistency_report reported size_checks all_long operand_checks large_enough within_limits fitting finite_entries finite_work ask ask_all differences_finite everywhere all_below subtracted csub cfinite finite Ieee.of_bits Ieee.add Ieee.sub Ieee.neg Ieee.ne Ieee.eq Ieee.lt
jump-overflows = refl

-- at most the tolerance; 8 first; a NaN is not at most it; the seventh at the tolerance, above it and a NaN
questions : is_consistent (report 0 0 0 0 0 0x3ff0_0000_0000_0000 0) one ∷ is_consistent (report 0 0 0 0 0 0x3ff0_0000_0000_0001 0) one
    ∷ is_consistent (report 0 0 0 0 0 0 0) plus_zero ∷ is_consistent (report 0 0x7ff8_0000_0000_0000 0 0 0 0 0) one
    ∷ is_consistent (report 0 0 0 0 0 0 0x3ff0_0000_0000_0000) one ∷ is_consistent (report 0 0 0 0 0 0 0x3ff0_0000_0000_0001) one
    ∷ is_consistent (report 0 0 0 0 0 0 0x7ff8_0000_0000_0000) one ∷ []
    ≡ Ok true ∷ Ok false ∷ Err (by 8) ∷ Ok false ∷ Ok true ∷ Ok false ∷ Ok false ∷ []
unfolding is_consistent decide valid_tolerance ask finite Ieee.of_bits Ieee.le Ieee.lt Ieee.eq
questions = refl
