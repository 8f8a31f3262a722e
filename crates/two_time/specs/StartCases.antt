-- Closed cases of G^< from an occupied start: P12's G^R and X (document 01) with g0 = i, to 2 and to 3 points in a capacity of 3, at once and appended;
-- two orbitals, where the order of the factors tells; products that are not finite.
use Rattle.std.specs.Prelude.{◌≡◌, ◌∷◌}
use Rattle.lists.specs.Prelude.{refl, Bool, true, false, List, [], ℕ, Float}
use Rattle.block.specs.Block.{entries_in, lay_out}
use Rattle.two_time.specs.New.{is_new, written, every_new}
use Rattle.two_time.specs.Layout.{read_as}
use Rattle.two_time.specs.Start.{occupied_first, occupied_block, occupied_by, new_lesser_numbers, new_lesser_finite}
use Rattle.two_time.specs.Example.{floats, bits, retarded_bits}
use Rattle.two_time.specs.Computation.{computation}

-- 0, 1, 2
abbrev times : List Float
times = floats (0 ∷ 0x3ff0000000000000 ∷ 0x4000000000000000 ∷ [])

-- G^R: 1; 1.5, 1; 3.5, 1.5, 1
abbrev retarded : List Float
retarded = floats (
    0x3ff0000000000000 ∷ 0 ∷ 0 ∷ 0 ∷ 0 ∷ 0 ∷
    0x3ff8000000000000 ∷ 0 ∷ 0x3ff0000000000000 ∷ 0 ∷ 0 ∷ 0 ∷
    0x400c000000000000 ∷ 0 ∷ 0x3ff8000000000000 ∷ 0 ∷ 0x3ff0000000000000 ∷ 0 ∷ [])

-- X: 0, 1.25i, 3.75i in each row
abbrev lesser_advanced : List Float
lesser_advanced = floats (
    0 ∷ 0 ∷ 0 ∷ 0x3ff4000000000000 ∷ 0 ∷ 0x400e000000000000 ∷
    0 ∷ 0 ∷ 0 ∷ 0x3ff4000000000000 ∷ 0 ∷ 0x400e000000000000 ∷
    0 ∷ 0 ∷ 0 ∷ 0x3ff4000000000000 ∷ 0 ∷ 0x400e000000000000 ∷ [])

-- what stands in the slice before
abbrev sevens : List Float
sevens = floats (
    0x401c000000000000 ∷ 0x401c000000000000 ∷ 0x401c000000000000 ∷ 0x401c000000000000 ∷ 0x401c000000000000 ∷ 0x401c000000000000 ∷
    0x401c000000000000 ∷ 0x401c000000000000 ∷ 0x401c000000000000 ∷ 0x401c000000000000 ∷ 0x401c000000000000 ∷ 0x401c000000000000 ∷
    0x401c000000000000 ∷ 0x401c000000000000 ∷ 0x401c000000000000 ∷ 0x401c000000000000 ∷ 0x401c000000000000 ∷ 0x401c000000000000 ∷ [])

abbrev made : ℕ → ℕ → List Float → List Float → List Float
made old points g0 before = new_lesser_numbers (occupied_by 3 1 g0 retarded) 3 1 old points times retarded lesser_advanced before

abbrev asked : ℕ → ℕ → List Float → Bool
asked old points g0 = new_lesser_finite (occupied_by 3 1 g0 retarded) 3 1 old points times retarded lesser_advanced

-- i, and what stands beyond the block
abbrev g0 : List Float
g0 = floats (0 ∷ 0x3ff0000000000000 ∷ 0x7ff8000000000000 ∷ [])

-- to 2 points: i, 1.5i; 1.5i, 3.8125i
abbrev two : List ℕ
two =
    0 ∷ 0x3ff0000000000000 ∷ 0 ∷ 0x3ff8000000000000 ∷ 0x401c000000000000 ∷ 0x401c000000000000 ∷
    0 ∷ 0x3ff8000000000000 ∷ 0 ∷ 0x400e800000000000 ∷ 0x401c000000000000 ∷ 0x401c000000000000 ∷
    0x401c000000000000 ∷ 0x401c000000000000 ∷ 0x401c000000000000 ∷ 0x401c000000000000 ∷ 0x401c000000000000 ∷ 0x401c000000000000 ∷ []

-- to 3 points: 3.5i, 9.9375i and 26.3125i in the third row and column
abbrev three : List ℕ
three =
    0 ∷ 0x3ff0000000000000 ∷ 0 ∷ 0x3ff8000000000000 ∷ 0 ∷ 0x400c000000000000 ∷
    0 ∷ 0x3ff8000000000000 ∷ 0 ∷ 0x400e800000000000 ∷ 0 ∷ 0x4023e00000000000 ∷
    0 ∷ 0x400c000000000000 ∷ 0 ∷ 0x4023e00000000000 ∷ 0 ∷ 0x403a500000000000 ∷ []

to_two : bits (made 0 2 g0 sevens) ≡ two
unfolding computation is_new written every_new occupied_first occupied_block new_lesser_numbers new_lesser_finite
to_two = refl

to_three : bits (made 0 3 g0 sevens) ≡ three
unfolding computation is_new written every_new occupied_first occupied_block new_lesser_numbers new_lesser_finite
to_three = refl

appended : bits (made 2 3 g0 (floats two)) ≡ three
unfolding computation is_new written every_new occupied_first occupied_block new_lesser_numbers new_lesser_finite
appended = refl

-- the largest number for g0: G^R(0,0)·g0 and its product with G^A(0,0) are finite. At (0,1), which has no term, the second product is not; at (1,0) the
-- first is not. Numbers that no sum reads are not asked: a NaN beyond the block.
tests : asked 0 1 (floats (0x7fefffffffffffff ∷ 0 ∷ [])) ∷ asked 0 2 (floats (0x7fefffffffffffff ∷ 0 ∷ [])) ∷ asked 0 3 g0 ∷ asked 2 3 g0 ∷ [] ≡ true ∷ false ∷ true ∷ true ∷ []
unfolding computation is_new written every_new occupied_first occupied_block new_lesser_numbers new_lesser_finite
tests = refl

-- two orbitals: (G^R(1,0)·g0)·G^A(0,2) of the shared example, g0 = 1+2i, 3; -i, 0.5+4i
order : bits (lay_out 2 2 (occupied_block 2 (entries_in 2 (floats (0x3ff0000000000000 ∷ 0x4000000000000000 ∷ 0x4008000000000000 ∷ 0 ∷ 0 ∷ 0xbff0000000000000 ∷ 0x3fe0000000000000 ∷ 0x4010000000000000 ∷ [])))
    (read_as 3 2 (floats retarded_bits)) 1 2))
    ≡ 0x408a799614000000 ∷ 0xc08bdd4654000000 ∷ 0x409498ee2a000000 ∷ 0xc0a2d206c6000000 ∷ 0x40a0d22625000000 ∷ 0xc095dce71a000000 ∷ 0x40ae0cea39000000 ∷ 0xc0b09a69cd000000 ∷ []
unfolding computation occupied_first occupied_block
order = refl
