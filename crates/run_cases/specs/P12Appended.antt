-- P12 in a capacity of 4, to 2 points and then appended twice, made stage by stage; the room beyond the points holds 7+7i (reference/expected.py, case k).
-- Assumes nothing.
use Rattle.std.specs.Prelude.{◌≡◌, ◌∷◌}
use Rattle.lists.specs.Prelude.{refl, true, List, [], ℕ, max, replicate, Float}
use Rattle.two_time.specs.declared.sums.Sums.TheVariants.{Causal, LesserAdvanced, Lesser}
use Rattle.two_time.specs.New.{is_new, written, every_new}
use Rattle.two_time.specs.Sums.{new_numbers, new_finite}
use Rattle.two_time.specs.Computation.{computation}
use Rattle.two_time.specs.Example.{floats}
use Rattle.dyson.specs.Retarded.{solve, retarded_onward, new_retarded, new_retarded_finite}

-- 0, 1, 2, 3
abbrev times : List Float
times = floats (0 ∷ 0x3ff0000000000000 ∷ 0x4000000000000000 ∷ 0x4008000000000000 ∷ [])

-- 1 on and below the diagonal, +0 above
abbrev lower : List Float
lower = floats (
    0x3ff0000000000000 ∷ 0 ∷ 0 ∷ 0 ∷ 0 ∷ 0 ∷ 0 ∷ 0 ∷
    0x3ff0000000000000 ∷ 0 ∷ 0x3ff0000000000000 ∷ 0 ∷ 0 ∷ 0 ∷ 0 ∷ 0 ∷
    0x3ff0000000000000 ∷ 0 ∷ 0x3ff0000000000000 ∷ 0 ∷ 0x3ff0000000000000 ∷ 0 ∷ 0 ∷ 0 ∷
    0x3ff0000000000000 ∷ 0 ∷ 0x3ff0000000000000 ∷ 0 ∷ 0x3ff0000000000000 ∷ 0 ∷ 0x3ff0000000000000 ∷ 0 ∷ [])

-- i everywhere
abbrev imaginary : List Float
imaginary = floats (
    0 ∷ 0x3ff0000000000000 ∷ 0 ∷ 0x3ff0000000000000 ∷ 0 ∷ 0x3ff0000000000000 ∷ 0 ∷ 0x3ff0000000000000 ∷
    0 ∷ 0x3ff0000000000000 ∷ 0 ∷ 0x3ff0000000000000 ∷ 0 ∷ 0x3ff0000000000000 ∷ 0 ∷ 0x3ff0000000000000 ∷
    0 ∷ 0x3ff0000000000000 ∷ 0 ∷ 0x3ff0000000000000 ∷ 0 ∷ 0x3ff0000000000000 ∷ 0 ∷ 0x3ff0000000000000 ∷
    0 ∷ 0x3ff0000000000000 ∷ 0 ∷ 0x3ff0000000000000 ∷ 0 ∷ 0x3ff0000000000000 ∷ 0 ∷ 0x3ff0000000000000 ∷ [])

-- what the slices hold before the run
abbrev room : List Float
room = floats (
    0x401c000000000000 ∷ 0x401c000000000000 ∷ 0x401c000000000000 ∷ 0x401c000000000000 ∷ 0x401c000000000000 ∷ 0x401c000000000000 ∷ 0x401c000000000000 ∷ 0x401c000000000000 ∷
    0x401c000000000000 ∷ 0x401c000000000000 ∷ 0x401c000000000000 ∷ 0x401c000000000000 ∷ 0x401c000000000000 ∷ 0x401c000000000000 ∷ 0x401c000000000000 ∷ 0x401c000000000000 ∷
    0x401c000000000000 ∷ 0x401c000000000000 ∷ 0x401c000000000000 ∷ 0x401c000000000000 ∷ 0x401c000000000000 ∷ 0x401c000000000000 ∷ 0x401c000000000000 ∷ 0x401c000000000000 ∷
    0x401c000000000000 ∷ 0x401c000000000000 ∷ 0x401c000000000000 ∷ 0x401c000000000000 ∷ 0x401c000000000000 ∷ 0x401c000000000000 ∷ 0x401c000000000000 ∷ 0x401c000000000000 ∷ [])

abbrev two_kernel : List ℕ
two_kernel =
    0 ∷ 0 ∷ 0 ∷ 0 ∷ 0x401c000000000000 ∷ 0x401c000000000000 ∷ 0x401c000000000000 ∷ 0x401c000000000000 ∷
    0x3ff0000000000000 ∷ 0 ∷ 0 ∷ 0 ∷ 0x401c000000000000 ∷ 0x401c000000000000 ∷ 0x401c000000000000 ∷ 0x401c000000000000 ∷
    0x401c000000000000 ∷ 0x401c000000000000 ∷ 0x401c000000000000 ∷ 0x401c000000000000 ∷ 0x401c000000000000 ∷ 0x401c000000000000 ∷ 0x401c000000000000 ∷ 0x401c000000000000 ∷
    0x401c000000000000 ∷ 0x401c000000000000 ∷ 0x401c000000000000 ∷ 0x401c000000000000 ∷ 0x401c000000000000 ∷ 0x401c000000000000 ∷ 0x401c000000000000 ∷ 0x401c000000000000 ∷ []

abbrev two_retarded : List ℕ
two_retarded =
    0x3ff0000000000000 ∷ 0 ∷ 0 ∷ 0 ∷ 0x401c000000000000 ∷ 0x401c000000000000 ∷ 0x401c000000000000 ∷ 0x401c000000000000 ∷
    0x3ff8000000000000 ∷ 0 ∷ 0x3ff0000000000000 ∷ 0 ∷ 0x401c000000000000 ∷ 0x401c000000000000 ∷ 0x401c000000000000 ∷ 0x401c000000000000 ∷
    0x401c000000000000 ∷ 0x401c000000000000 ∷ 0x401c000000000000 ∷ 0x401c000000000000 ∷ 0x401c000000000000 ∷ 0x401c000000000000 ∷ 0x401c000000000000 ∷ 0x401c000000000000 ∷
    0x401c000000000000 ∷ 0x401c000000000000 ∷ 0x401c000000000000 ∷ 0x401c000000000000 ∷ 0x401c000000000000 ∷ 0x401c000000000000 ∷ 0x401c000000000000 ∷ 0x401c000000000000 ∷ []

abbrev two_lesser_advanced : List ℕ
two_lesser_advanced =
    0 ∷ 0 ∷ 0 ∷ 0x3ff4000000000000 ∷ 0x401c000000000000 ∷ 0x401c000000000000 ∷ 0x401c000000000000 ∷ 0x401c000000000000 ∷
    0 ∷ 0 ∷ 0 ∷ 0x3ff4000000000000 ∷ 0x401c000000000000 ∷ 0x401c000000000000 ∷ 0x401c000000000000 ∷ 0x401c000000000000 ∷
    0x401c000000000000 ∷ 0x401c000000000000 ∷ 0x401c000000000000 ∷ 0x401c000000000000 ∷ 0x401c000000000000 ∷ 0x401c000000000000 ∷ 0x401c000000000000 ∷ 0x401c000000000000 ∷
    0x401c000000000000 ∷ 0x401c000000000000 ∷ 0x401c000000000000 ∷ 0x401c000000000000 ∷ 0x401c000000000000 ∷ 0x401c000000000000 ∷ 0x401c000000000000 ∷ 0x401c000000000000 ∷ []

abbrev two_lesser : List ℕ
two_lesser =
    0 ∷ 0 ∷ 0 ∷ 0 ∷ 0x401c000000000000 ∷ 0x401c000000000000 ∷ 0x401c000000000000 ∷ 0x401c000000000000 ∷
    0 ∷ 0 ∷ 0 ∷ 0x3ff9000000000000 ∷ 0x401c000000000000 ∷ 0x401c000000000000 ∷ 0x401c000000000000 ∷ 0x401c000000000000 ∷
    0x401c000000000000 ∷ 0x401c000000000000 ∷ 0x401c000000000000 ∷ 0x401c000000000000 ∷ 0x401c000000000000 ∷ 0x401c000000000000 ∷ 0x401c000000000000 ∷ 0x401c000000000000 ∷
    0x401c000000000000 ∷ 0x401c000000000000 ∷ 0x401c000000000000 ∷ 0x401c000000000000 ∷ 0x401c000000000000 ∷ 0x401c000000000000 ∷ 0x401c000000000000 ∷ 0x401c000000000000 ∷ []

abbrev three_kernel : List ℕ
three_kernel =
    0 ∷ 0 ∷ 0 ∷ 0 ∷ 0 ∷ 0 ∷ 0x401c000000000000 ∷ 0x401c000000000000 ∷
    0x3ff0000000000000 ∷ 0 ∷ 0 ∷ 0 ∷ 0 ∷ 0 ∷ 0x401c000000000000 ∷ 0x401c000000000000 ∷
    0x4000000000000000 ∷ 0 ∷ 0x3ff0000000000000 ∷ 0 ∷ 0 ∷ 0 ∷ 0x401c000000000000 ∷ 0x401c000000000000 ∷
    0x401c000000000000 ∷ 0x401c000000000000 ∷ 0x401c000000000000 ∷ 0x401c000000000000 ∷ 0x401c000000000000 ∷ 0x401c000000000000 ∷ 0x401c000000000000 ∷ 0x401c000000000000 ∷ []

abbrev three_retarded : List ℕ
three_retarded =
    0x3ff0000000000000 ∷ 0 ∷ 0 ∷ 0 ∷ 0 ∷ 0 ∷ 0x401c000000000000 ∷ 0x401c000000000000 ∷
    0x3ff8000000000000 ∷ 0 ∷ 0x3ff0000000000000 ∷ 0 ∷ 0 ∷ 0 ∷ 0x401c000000000000 ∷ 0x401c000000000000 ∷
    0x400c000000000000 ∷ 0 ∷ 0x3ff8000000000000 ∷ 0 ∷ 0x3ff0000000000000 ∷ 0 ∷ 0x401c000000000000 ∷ 0x401c000000000000 ∷
    0x401c000000000000 ∷ 0x401c000000000000 ∷ 0x401c000000000000 ∷ 0x401c000000000000 ∷ 0x401c000000000000 ∷ 0x401c000000000000 ∷ 0x401c000000000000 ∷ 0x401c000000000000 ∷ []

abbrev three_lesser_advanced : List ℕ
three_lesser_advanced =
    0 ∷ 0 ∷ 0 ∷ 0x3ff4000000000000 ∷ 0 ∷ 0x400e000000000000 ∷ 0x401c000000000000 ∷ 0x401c000000000000 ∷
    0 ∷ 0 ∷ 0 ∷ 0x3ff4000000000000 ∷ 0 ∷ 0x400e000000000000 ∷ 0x401c000000000000 ∷ 0x401c000000000000 ∷
    0 ∷ 0 ∷ 0 ∷ 0x3ff4000000000000 ∷ 0 ∷ 0x400e000000000000 ∷ 0x401c000000000000 ∷ 0x401c000000000000 ∷
    0x401c000000000000 ∷ 0x401c000000000000 ∷ 0x401c000000000000 ∷ 0x401c000000000000 ∷ 0x401c000000000000 ∷ 0x401c000000000000 ∷ 0x401c000000000000 ∷ 0x401c000000000000 ∷ []

abbrev three_lesser : List ℕ
three_lesser =
    0 ∷ 0 ∷ 0 ∷ 0 ∷ 0 ∷ 0 ∷ 0x401c000000000000 ∷ 0x401c000000000000 ∷
    0 ∷ 0 ∷ 0 ∷ 0x3ff9000000000000 ∷ 0 ∷ 0x4012c00000000000 ∷ 0x401c000000000000 ∷ 0x401c000000000000 ∷
    0 ∷ 0 ∷ 0 ∷ 0x4012c00000000000 ∷ 0 ∷ 0x402c200000000000 ∷ 0x401c000000000000 ∷ 0x401c000000000000 ∷
    0x401c000000000000 ∷ 0x401c000000000000 ∷ 0x401c000000000000 ∷ 0x401c000000000000 ∷ 0x401c000000000000 ∷ 0x401c000000000000 ∷ 0x401c000000000000 ∷ 0x401c000000000000 ∷ []

abbrev four_kernel : List ℕ
four_kernel =
    0 ∷ 0 ∷ 0 ∷ 0 ∷ 0 ∷ 0 ∷ 0 ∷ 0 ∷
    0x3ff0000000000000 ∷ 0 ∷ 0 ∷ 0 ∷ 0 ∷ 0 ∷ 0 ∷ 0 ∷
    0x4000000000000000 ∷ 0 ∷ 0x3ff0000000000000 ∷ 0 ∷ 0 ∷ 0 ∷ 0 ∷ 0 ∷
    0x4008000000000000 ∷ 0 ∷ 0x4000000000000000 ∷ 0 ∷ 0x3ff0000000000000 ∷ 0 ∷ 0 ∷ 0 ∷ []

abbrev four_retarded : List ℕ
four_retarded =
    0x3ff0000000000000 ∷ 0 ∷ 0 ∷ 0 ∷ 0 ∷ 0 ∷ 0 ∷ 0 ∷
    0x3ff8000000000000 ∷ 0 ∷ 0x3ff0000000000000 ∷ 0 ∷ 0 ∷ 0 ∷ 0 ∷ 0 ∷
    0x400c000000000000 ∷ 0 ∷ 0x3ff8000000000000 ∷ 0 ∷ 0x3ff0000000000000 ∷ 0 ∷ 0 ∷ 0 ∷
    0x4022000000000000 ∷ 0 ∷ 0x400c000000000000 ∷ 0 ∷ 0x3ff8000000000000 ∷ 0 ∷ 0x3ff0000000000000 ∷ 0 ∷ []

abbrev four_lesser_advanced : List ℕ
four_lesser_advanced =
    0 ∷ 0 ∷ 0 ∷ 0x3ff4000000000000 ∷ 0 ∷ 0x400e000000000000 ∷ 0 ∷ 0x4024000000000000 ∷
    0 ∷ 0 ∷ 0 ∷ 0x3ff4000000000000 ∷ 0 ∷ 0x400e000000000000 ∷ 0 ∷ 0x4024000000000000 ∷
    0 ∷ 0 ∷ 0 ∷ 0x3ff4000000000000 ∷ 0 ∷ 0x400e000000000000 ∷ 0 ∷ 0x4024000000000000 ∷
    0 ∷ 0 ∷ 0 ∷ 0x3ff4000000000000 ∷ 0 ∷ 0x400e000000000000 ∷ 0 ∷ 0x4024000000000000 ∷ []

abbrev four_lesser : List ℕ
four_lesser =
    0 ∷ 0 ∷ 0 ∷ 0 ∷ 0 ∷ 0 ∷ 0 ∷ 0 ∷
    0 ∷ 0 ∷ 0 ∷ 0x3ff9000000000000 ∷ 0 ∷ 0x4012c00000000000 ∷ 0 ∷ 0x4029000000000000 ∷
    0 ∷ 0 ∷ 0 ∷ 0x4012c00000000000 ∷ 0 ∷ 0x402c200000000000 ∷ 0 ∷ 0x4042c00000000000 ∷
    0 ∷ 0 ∷ 0 ∷ 0x4029000000000000 ∷ 0 ∷ 0x4042c00000000000 ∷ 0 ∷ 0x4059000000000000 ∷ []

-- to 2 points, from 0 on
two_made : (new_numbers Causal 4 1 0 2 times lower lower room ≡ floats two_kernel)
    × (new_retarded 4 1 0 2 times lower (floats two_kernel) room ≡ floats two_retarded)
    × (new_numbers LesserAdvanced 4 1 0 2 times imaginary (floats two_retarded) room ≡ floats two_lesser_advanced)
    × (new_numbers Lesser 4 1 0 2 times (floats two_retarded) (floats two_lesser_advanced) room ≡ floats two_lesser)
unfolding computation is_new written every_new new_numbers new_finite new_retarded new_retarded_finite solve retarded_onward
two_made = (refl, refl, refl, refl)

-- to 3 points, from 2 on
three_made : (new_numbers Causal 4 1 2 3 times lower lower (floats two_kernel) ≡ floats three_kernel)
    × (new_retarded 4 1 2 3 times lower (floats three_kernel) (floats two_retarded) ≡ floats three_retarded)
    × (new_numbers LesserAdvanced 4 1 2 3 times imaginary (floats three_retarded) (floats two_lesser_advanced) ≡ floats three_lesser_advanced)
    × (new_numbers Lesser 4 1 2 3 times (floats three_retarded) (floats three_lesser_advanced) (floats two_lesser) ≡ floats three_lesser)
unfolding computation is_new written every_new new_numbers new_finite new_retarded new_retarded_finite solve retarded_onward
three_made = (refl, refl, refl, refl)

-- to 4 points, from 3 on
four_made : (new_numbers Causal 4 1 3 4 times lower lower (floats three_kernel) ≡ floats four_kernel)
    × (new_retarded 4 1 3 4 times lower (floats four_kernel) (floats three_retarded) ≡ floats four_retarded)
    × (new_numbers LesserAdvanced 4 1 3 4 times imaginary (floats four_retarded) (floats three_lesser_advanced) ≡ floats four_lesser_advanced)
    × (new_numbers Lesser 4 1 3 4 times (floats four_retarded) (floats four_lesser_advanced) (floats three_lesser) ≡ floats four_lesser)
unfolding computation is_new written every_new new_numbers new_finite new_retarded new_retarded_finite solve retarded_onward
four_made = (refl, refl, refl, refl)
