-- Closed cases of the observables: P10 of document 01, traces that are not finite, the run with two orbitals (reference/expected.py, case d), each
-- refusal, and functions in a capacity.
use Rattle.std.specs.Prelude.{◌≡◌, ◌∷◌, ◌++◌}
use Rattle.std.specs.Result.{result_unwrap_or}
use Rattle.lists.specs.Prelude.{refl, List, [], map, ℕ, replicate, take, drop, Float, nan, binary64, to_bits}
use Rattle.std.specs.Float.Ieee as Ieee
use Rattle.lists.specs.Indexed.{fold, join, all_below}
use Rattle.complex.specs.declared.Complex.{Complex}
use Rattle.complex.specs.Arithmetic.{plus_zero, one, finite, size, cadd, cmul, cfinite}
use Rattle.complex.specs.Sum.{sum_from}
use Rattle.refusal.specs.Verdict.{by, ask, ◌then◌, ask_all}
use Rattle.refusal.specs.Checks.{large_enough, not_empty, within_limits, within_block, fitting, finite_entries, valid_tolerance, finite_work, time_below, orbital_below, within_capacity}
use Rattle.refusal.specs.Checks.{finite_factors, real_within}
use Rattle.matrix.specs.declared.DenseMatrix.{DenseMatrix}
use Rattle.block.specs.Block.{lay_out}
use Rattle.matrix.specs.Dense.{block_of, no_block, checked}
use Rattle.block.specs.Operations.{product, trace, all_finite}
use Rattle.two_time.specs.Calls.{all_long, capacity_checks, point_entries, point_checks}
use Rattle.two_time.specs.Example as Example
use Rattle.two_time.specs.Example.{floats}
use Rattle.observables.specs.declared.Observed.TheVariants.{Number, NotReal, Refused as NotObserved}
use Rattle.observables.specs.Density.{density}
use Rattle.observables.specs.Calls.{observed, lesser_checks, lesser_block_checks, density_matrix, particle_number, one_body_expectation, bond_flow_into}

abbrev f : ℕ → Float
f = Ieee.of_bits binary64

-- ---- two points, one orbital

-- G^<(0,0) as given, and i at (1,1), so that the density there is 1
abbrev lesser : ℕ → ℕ → List Float
lesser a b = floats (a ∷ b ∷ 0 ∷ 0 ∷ 0 ∷ 0 ∷ 0 ∷ 0x3ff0_0000_0000_0000 ∷ [])

-- P10: the density is (0 − 1i)·(−0.5 + 2i) = 2 + 0.5i: with tolerance 0.5 the number 2, and 14 where the imaginary part is 0.75
p10 : particle_number 2 2 1 (lesser 0xbfe0_0000_0000_0000 0x4000_0000_0000_0000) 0 (f 0x3fe0_0000_0000_0000)
    ∷ particle_number 2 2 1 (lesser 0xbfe8_0000_0000_0000 0x4000_0000_0000_0000) 0 (f 0x3fe0_0000_0000_0000)
    ∷ particle_number 2 2 1 (lesser 0 0) 1 one ∷ []
    ≡ Number (f 0x4000_0000_0000_0000) ∷ NotReal (f 0x3fe8_0000_0000_0000) ∷ Number one ∷ []
unfolding particle_number observed lesser_checks point_checks capacity_checks all_long large_enough within_limits fitting within_capacity point_entries valid_tolerance time_below finite_work real_within ask ask_all trace sum_from fold density size cadd cmul cfinite finite Ieee.of_bits Ieee.add Ieee.sub Ieee.mul Ieee.neg Ieee.lt
p10 = refl

-- the density of G^<(0,0) = 3 + 2i is 2 − 3i, and +0 follows the entry
densities : (result_unwrap_or (density_matrix 2 2 1 (lesser 0x4008_0000_0000_0000 0x4000_0000_0000_0000) 0) no_block).rows ∷ map (to_bits binary64) (take 3 (result_unwrap_or (density_matrix 2 2 1 (lesser 0x4008_0000_0000_0000 0x4000_0000_0000_0000) 0) no_block).values)
    ≡ 1 ∷ 0x4000_0000_0000_0000 ∷ 0xc008_0000_0000_0000 ∷ 0 ∷ []
unfolding density_matrix lesser_checks point_checks capacity_checks all_long large_enough within_limits fitting within_capacity point_entries time_below ask ask_all checked block_of lay_out join density cmul finite Ieee.of_bits to_bits Ieee.add Ieee.sub Ieee.mul Ieee.neg
densities = refl

-- in order: 8 before 11 (document 02, L8), each alone; 3, 7 with its place, and 1 before those
refused : particle_number 2 2 1 (lesser 0 0) 2 plus_zero ∷ particle_number 2 2 1 (lesser 0 0) 1 plus_zero ∷ particle_number 2 2 1 (lesser 0 0) 2 one ∷ particle_number 2 2 1 (one ∷ []) 2 plus_zero
    ∷ particle_number 2 2 1 (plus_zero ∷ plus_zero ∷ plus_zero ∷ nan ∷ replicate 4 one) 2 plus_zero ∷ particle_number 1 1 1 [] 2 plus_zero ∷ []
    ≡ NotObserved (by 8) ∷ NotObserved (by 8) ∷ NotObserved (by 11) ∷ NotObserved (by 3) ∷ NotObserved (record { number = 7; operand = 0; first = 3; second = 0; part = plus_zero }) ∷ NotObserved (by 1) ∷ []
unfolding particle_number observed lesser_checks point_checks capacity_checks all_long large_enough within_limits fitting within_capacity point_entries valid_tolerance time_below finite_work real_within ask ask_all trace sum_from fold density size cadd cmul cfinite finite Ieee.of_bits Ieee.add Ieee.sub Ieee.mul Ieee.neg Ieee.lt
refused = refl

-- ---- traces that are not finite (document 02, L10)

-- the largest number, and G^<(0,0) of two points with this diagonal: two orbitals, and three whose entries are i times a number
abbrev most : ℕ
most = 0x7fef_ffff_ffff_ffff

abbrev two : ℕ → ℕ → ℕ → ℕ → List Float
two a a' b b' = floats (a ∷ a' ∷ 0 ∷ 0 ∷ 0 ∷ 0 ∷ b ∷ b' ∷ replicate 24 0)

abbrev three : ℕ → ℕ → ℕ → List Float
three a b c = floats (0 ∷ a ∷ 0 ∷ 0 ∷ 0 ∷ 0 ∷ 0 ∷ 0 ∷ 0 ∷ b ∷ 0 ∷ 0 ∷ 0 ∷ 0 ∷ 0 ∷ 0 ∷ 0 ∷ c ∷ replicate 54 0)

abbrev half : Float
half = f 0x3fe0_0000_0000_0000

-- the trace of the density is the largest number; then infinite in its real part, in its imaginary part, and in its real part beside an imaginary
-- part of 1, which 14 would refuse; the largest twice and then back, whose sum stays infinite. 8 and 11 come before.
infinite-numbers : particle_number 2 2 2 (two 0 most 0 0) 0 half ∷ particle_number 2 2 2 (two 0 most 0 most) 0 half ∷ particle_number 2 2 2 (two most 0 most 0) 0 half
    ∷ particle_number 2 2 2 (two 0 most 0xbff0_0000_0000_0000 most) 0 half ∷ particle_number 2 2 3 (three most most 0xffef_ffff_ffff_ffff) 0 half
    ∷ particle_number 2 2 2 (two 0 most 0 most) 0 plus_zero ∷ particle_number 2 2 2 (two 0 most 0 most) 2 half ∷ []
    ≡ Number (f most) ∷ NotObserved (by 10) ∷ NotObserved (by 10) ∷ NotObserved (by 10) ∷ NotObserved (by 10) ∷ NotObserved (by 8) ∷ NotObserved (by 11) ∷ []
unfolding particle_number observed lesser_checks point_checks capacity_checks all_long large_enough within_limits fitting within_capacity point_entries valid_tolerance time_below finite_work real_within ask ask_all trace sum_from fold density size cadd cmul cfinite finite Ieee.of_bits Ieee.add Ieee.sub Ieee.mul Ieee.neg Ieee.lt
infinite-numbers = refl

-- the same of the product by the identity, whose entries are finite
abbrev unit : DenseMatrix
unit = record { rows = 2; columns = 2; values = one ∷ plus_zero ∷ plus_zero ∷ plus_zero ∷ plus_zero ∷ plus_zero ∷ one ∷ plus_zero ∷ [] }

infinite-expectations : one_body_expectation 2 2 2 (two 0 most 0 0) 0 unit half ∷ one_body_expectation 2 2 2 (two 0 most 0 most) 0 unit half ∷ one_body_expectation 2 2 2 (two most 0 most 0) 0 unit half
    ∷ one_body_expectation 2 2 2 (two 0 most 0xbff0_0000_0000_0000 most) 0 unit half ∷ one_body_expectation 2 2 2 (two 0 most 0 most) 0 unit plus_zero ∷ one_body_expectation 2 2 2 (two 0 most 0 most) 2 unit half ∷ []
    ≡ Number (f most) ∷ NotObserved (by 10) ∷ NotObserved (by 10) ∷ NotObserved (by 10) ∷ NotObserved (by 8) ∷ NotObserved (by 11) ∷ []
unfolding one_body_expectation observed lesser_block_checks large_enough not_empty within_limits within_block fitting within_capacity point_entries finite_entries valid_tolerance finite_work time_below real_within ask ask_all product trace all_finite all_below sum_from fold density size cadd cmul cfinite finite Ieee.of_bits Ieee.add Ieee.sub Ieee.mul Ieee.neg Ieee.lt
infinite-expectations = refl

-- ---- the run with two orbitals

abbrev run : List Float
run = floats Example.lesser_bits

abbrev million : Float
million = f 0x412e_8480_0000_0000

-- 1, 0.5 − i over 0.5 + i, −2
abbrev x : DenseMatrix
x = record { rows = 2; columns = 2; values = floats (0x3ff0_0000_0000_0000 ∷ 0 ∷ 0x3fe0_0000_0000_0000 ∷ 0xbff0_0000_0000_0000 ∷ 0x3fe0_0000_0000_0000 ∷ 0x3ff0_0000_0000_0000 ∷ 0xc000_0000_0000_0000 ∷ 0 ∷ []) }

numbers : particle_number 3 3 2 run 0 million ∷ particle_number 3 3 2 run 1 million ∷ particle_number 3 3 2 run 2 million ∷ particle_number 3 3 2 run 2 one ∷ []
    ≡ Number plus_zero ∷ Number (f 0x404c_4fb2_0000_0000) ∷ Number (f 0x40f3_15de_39de_0000) ∷ NotReal (f 0xc0d7_37dd_88fc_0000) ∷ []
unfolding particle_number observed lesser_checks point_checks capacity_checks all_long large_enough within_limits fitting within_capacity point_entries valid_tolerance time_below finite_work real_within ask ask_all trace sum_from fold density size cadd cmul cfinite finite Ieee.of_bits Ieee.add Ieee.sub Ieee.mul Ieee.neg Ieee.lt
numbers = refl

-- a block of one entry
abbrev short : DenseMatrix
short = record { rows = 1; columns = 1; values = one ∷ one ∷ [] }

-- both parts of each entry the largest, so that the product overflows
abbrev large : DenseMatrix
large = record { rows = 2; columns = 2; values = replicate 8 (f most) }

-- the number; 3, 2, 7 with its place, 10, 11; then 8 before 10 and before 11 (document 02, L8)
expectations : one_body_expectation 3 3 2 run 2 x million
    ∷ one_body_expectation 3 3 2 run 2 short million ∷ one_body_expectation 3 3 2 run 2 (record { rows = 17; columns = 1; values = [] }) million
    ∷ one_body_expectation 3 3 2 run 2 (record { rows = 2; columns = 2; values = replicate 5 one ++ nan ∷ one ∷ one ∷ [] }) million
    ∷ one_body_expectation 3 3 2 run 2 large million ∷ one_body_expectation 3 3 2 run 3 large million ∷ one_body_expectation 3 3 2 run 2 large plus_zero ∷ one_body_expectation 3 3 2 run 3 x plus_zero ∷ []
    ≡ Number (f 0xc0f2_17b8_498a_0000) ∷ NotObserved (by 3) ∷ NotObserved (by 2)
    ∷ NotObserved (record { number = 7; operand = 1; first = 5; second = 0; part = plus_zero }) ∷ NotObserved (by 10) ∷ NotObserved (by 11) ∷ NotObserved (by 8) ∷ NotObserved (by 8) ∷ []
unfolding one_body_expectation observed lesser_block_checks large_enough not_empty within_limits within_block fitting within_capacity point_entries finite_entries valid_tolerance finite_work time_below real_within ask ask_all product trace all_finite all_below sum_from fold density size cadd cmul cfinite finite Ieee.of_bits Ieee.add Ieee.sub Ieee.mul Ieee.neg Ieee.lt
expectations = refl

-- hopping 0.5 + 0.25i, charge factor 1.5; then 13 before 12 before 11
abbrev hopping : Complex
hopping = record { re = f 0x3fe0_0000_0000_0000; im = f 0x3fd0_0000_0000_0000 }

flows : bond_flow_into 3 3 2 run 1 0 1 hopping (f 0x3ff8_0000_0000_0000) ∷ bond_flow_into 3 3 2 run 3 2 2 hopping nan ∷ bond_flow_into 3 3 2 run 3 2 0 hopping one ∷ bond_flow_into 3 3 2 run 3 0 2 hopping one
    ∷ bond_flow_into 3 3 2 run 3 0 1 hopping one ∷ []
    ≡ Number (f 0x402f_c0e6_0000_0000) ∷ NotObserved (by 13) ∷ NotObserved (by 12) ∷ NotObserved (by 12) ∷ NotObserved (by 11) ∷ []
unfolding bond_flow_into observed lesser_checks point_checks capacity_checks all_long large_enough within_limits fitting within_capacity point_entries time_below orbital_below finite_factors ask ask_all density cmul cfinite finite Ieee.of_bits Ieee.add Ieee.sub Ieee.mul Ieee.neg
flows = refl

-- ---- in a capacity (document 02, L1)

-- two points of one orbital in a capacity of three: the number as given at (1,0), i at (1,1), and NaN in the room
abbrev roomy : Float → List Float
roomy z = plus_zero ∷ plus_zero ∷ plus_zero ∷ plus_zero ∷ nan ∷ nan ∷ z ∷ plus_zero ∷ plus_zero ∷ one ∷ replicate 8 nan

-- the room is no entry; 7's position is that in the slice, where (1,0) begins at 2·3; 11 asks the points; 16 before 7, 8 and 11, and 3, 2 and 1 before 16
in-capacity : particle_number 3 2 1 (roomy plus_zero) 1 one ∷ particle_number 3 2 1 (roomy nan) 1 one ∷ particle_number 3 2 1 (roomy plus_zero) 2 one
    ∷ particle_number 3 4 1 (roomy nan) 4 plus_zero ∷ particle_number 3 4 1 (one ∷ []) 4 plus_zero ∷ particle_number 257 258 1 [] 4 plus_zero ∷ particle_number 0 1 1 [] 4 plus_zero ∷ []
    ≡ Number one ∷ NotObserved (record { number = 7; operand = 0; first = 6; second = 0; part = plus_zero }) ∷ NotObserved (by 11)
    ∷ NotObserved (by 16) ∷ NotObserved (by 3) ∷ NotObserved (by 2) ∷ NotObserved (by 1) ∷ []
unfolding particle_number observed lesser_checks point_checks capacity_checks all_long large_enough within_limits fitting within_capacity point_entries valid_tolerance time_below finite_work real_within ask ask_all trace sum_from fold density size cadd cmul cfinite finite Ieee.of_bits Ieee.add Ieee.sub Ieee.mul Ieee.neg Ieee.lt
in-capacity = refl

-- the run with two orbitals in a capacity of four
abbrev wide : List Float
wide = take 24 run ++ replicate 8 nan ++ take 24 (drop 24 run) ++ replicate 8 nan ++ drop 48 run ++ replicate 40 nan

-- a block that holds a NaN
abbrev holed : DenseMatrix
holed = record { rows = 2; columns = 2; values = nan ∷ replicate 7 one }

-- the same number, and 11 before 10; 3 of the block before 16, 16 before 7; 7 of operand 0 before that of operand 1
wide-expectations : one_body_expectation 4 3 2 wide 2 x million ∷ one_body_expectation 4 3 2 wide 3 large million ∷ one_body_expectation 4 5 2 wide 2 short million
    ∷ one_body_expectation 4 5 2 wide 2 holed million ∷ one_body_expectation 4 4 2 wide 2 holed million ∷ one_body_expectation 4 3 2 wide 2 holed million ∷ []
    ≡ Number (f 0xc0f2_17b8_498a_0000) ∷ NotObserved (by 11) ∷ NotObserved (by 3) ∷ NotObserved (by 16)
    ∷ NotObserved (record { number = 7; operand = 0; first = 24; second = 0; part = plus_zero }) ∷ NotObserved (record { number = 7; operand = 1; first = 0; second = 0; part = plus_zero }) ∷ []
unfolding one_body_expectation observed lesser_block_checks large_enough not_empty within_limits within_block fitting within_capacity point_entries finite_entries valid_tolerance finite_work time_below real_within ask ask_all product trace all_finite all_below sum_from fold density size cadd cmul cfinite finite Ieee.of_bits Ieee.add Ieee.sub Ieee.mul Ieee.neg Ieee.lt
wide-expectations = refl

-- the same flow, and 11 of an index within the capacity
wide-flows : bond_flow_into 4 3 2 wide 1 0 1 hopping (f 0x3ff8_0000_0000_0000) ∷ bond_flow_into 4 3 2 wide 3 0 1 hopping one ∷ []
    ≡ Number (f 0x402f_c0e6_0000_0000) ∷ NotObserved (by 11) ∷ []
unfolding bond_flow_into observed lesser_checks point_checks capacity_checks all_long large_enough within_limits fitting within_capacity point_entries time_below orbital_below finite_factors ask ask_all density cmul cfinite finite Ieee.of_bits Ieee.add Ieee.sub Ieee.mul Ieee.neg
wide-flows = refl

-- the same density
wide-density : density_matrix 4 3 2 wide 2 ≡ density_matrix 3 3 2 run 2
unfolding density_matrix lesser_checks point_checks capacity_checks all_long large_enough within_limits fitting within_capacity point_entries time_below ask ask_all checked block_of lay_out join density cmul finite Ieee.of_bits Ieee.add Ieee.sub Ieee.mul Ieee.neg
wide-density = refl
