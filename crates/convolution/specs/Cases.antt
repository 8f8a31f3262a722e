-- Closed cases of both convolutions. Expected bits by reference/expected.py.
use Rattle.std.specs.Prelude.{Err, ◌≡◌, ◌∷◌}
use Rattle.lists.specs.Prelude.{refl, List, [], map, ℕ, replicate, Float, nan, binary64, to_bits}
use Rattle.std.specs.Float.Ieee as Ieee
use Rattle.complex.specs.Arithmetic.{plus_zero, one}
use Rattle.refusal.specs.Verdict.{pass, by}
use Rattle.two_time.specs.Computation.{computation}
use Rattle.convolution.specs.Calls.{convolved_by, time_convolution, causal_convolution}

-- what the cases compute with
unfoldable computing : Unit {0}
unfolding computation convolved_by
computing = tt

-- the numbers of these bit patterns, and back
abbrev floats : List ℕ → List Float
floats = map (Ieee.of_bits binary64)

abbrev bits : List Float → List ℕ
bits = map (to_bits binary64)

-- ---- three points, one orbital

-- 0, 0.5, 2
abbrev times : List Float
times = floats (0 ∷ 0x3fe0_0000_0000_0000 ∷ 0x4000_0000_0000_0000 ∷ [])

-- (1 + t + u/4) + (t/2 − u)i
abbrev left : List Float
left = floats (
    0x3ff0000000000000 ∷ 0 ∷ 0x3ff4000000000000 ∷ 0xbff0000000000000 ∷ 0x3ff8000000000000 ∷ 0xc000000000000000 ∷
    0x4000000000000000 ∷ 0x3fe0000000000000 ∷ 0x4002000000000000 ∷ 0xbfe0000000000000 ∷ 0x4004000000000000 ∷ 0xbff8000000000000 ∷
    0x4008000000000000 ∷ 0x3ff0000000000000 ∷ 0x400a000000000000 ∷ 0 ∷ 0x400c000000000000 ∷ 0xbff0000000000000 ∷ [])

-- (2 − t + u) + (t·u + 1)i
abbrev right : List Float
right = floats (
    0x4000000000000000 ∷ 0x3ff0000000000000 ∷ 0x4008000000000000 ∷ 0x3ff0000000000000 ∷ 0x4010000000000000 ∷ 0x3ff0000000000000 ∷
    0x3ff0000000000000 ∷ 0x3ff0000000000000 ∷ 0x4000000000000000 ∷ 0x4000000000000000 ∷ 0x4008000000000000 ∷ 0x4008000000000000 ∷
    0 ∷ 0x3ff0000000000000 ∷ 0x3ff0000000000000 ∷ 0x4008000000000000 ∷ 0x4000000000000000 ∷ 0x4014000000000000 ∷ [])

abbrev out : List Float
out = replicate 18 one

-- +0 on the diagonal and above it
causal_case : bits (causal_convolution 3 1 times left right out).out ≡
    0 ∷ 0 ∷ 0 ∷ 0 ∷ 0 ∷ 0 ∷
    0x3ff9000000000000 ∷ 0x3ff3000000000000 ∷ 0 ∷ 0 ∷ 0 ∷ 0 ∷
    0x4015000000000000 ∷ 0x401c800000000000 ∷ 0x4023800000000000 ∷ 0x4028000000000000 ∷ 0 ∷ 0 ∷ []
unfolding computing
causal_case = refl

full_case : bits (time_convolution 3 1 times left right out).out ≡
    0x4011000000000000 ∷ 0x3ffa000000000000 ∷ 0x4025c00000000000 ∷ 0x4005000000000000 ∷ 0x4031800000000000 ∷ 0x400d000000000000 ∷
    0x4013000000000000 ∷ 0x4011800000000000 ∷ 0x4028400000000000 ∷ 0x4021c00000000000 ∷ 0x4033800000000000 ∷ 0x402ac00000000000 ∷
    0x4015000000000000 ∷ 0x401c800000000000 ∷ 0x402ac00000000000 ∷ 0x402e400000000000 ∷ 0x4035800000000000 ∷ 0x4037200000000000 ∷ []
unfolding computing
full_case = refl

-- ---- two points, one orbital: what a sum starts at, where the weight goes, and 10

abbrev apart : List Float
apart = plus_zero ∷ one ∷ []

-- a function that is 1 but for its first number
abbrev with_first : ℕ → List Float
with_first x = Ieee.of_bits binary64 x ∷ plus_zero ∷ one ∷ plus_zero ∷ one ∷ plus_zero ∷ one ∷ plus_zero ∷ []

-- -0 at (0,0), with +0 parts beside it: each sum starts at +0+0i, so no -0 survives
no-minus-zero : (causal_convolution 2 1 apart (with_first 0x8000_0000_0000_0000) (with_first 0x3ff0_0000_0000_0000) (replicate 8 one)).out
    ≡ plus_zero ∷ plus_zero ∷ plus_zero ∷ plus_zero ∷ Ieee.of_bits binary64 0x3ff0_0000_0000_0000 ∷ plus_zero ∷ plus_zero ∷ plus_zero ∷ []
unfolding computing
no-minus-zero = refl

-- the largest by 1.5 overflows before the weight of half a step could make it small
product_before-weight : time_convolution 2 1 apart (with_first 0x7fef_ffff_ffff_ffff) (with_first 0x3ff8_0000_0000_0000) (replicate 8 one)
    ≡ record { answer = Err (by 10); out = replicate 8 plus_zero }
unfolding computing
product_before-weight = refl

-- 2u at (0,0) by half a step is u; half a step of u alone would be +0
weight-on_the_product : bits (time_convolution 2 1 apart (floats (1 ∷ 0 ∷ 0 ∷ 0 ∷ 0 ∷ 0 ∷ 0 ∷ 0 ∷ [])) (floats (0x4000_0000_0000_0000 ∷ 0 ∷ 0 ∷ 0 ∷ 0 ∷ 0 ∷ 0 ∷ 0 ∷ [])) (replicate 8 one)).out
    ≡ 1 ∷ 0 ∷ 0 ∷ 0 ∷ 0 ∷ 0 ∷ 0 ∷ 0 ∷ []
unfolding computing
weight-on_the_product = refl

-- the largest by 2 at (0,0) of the causal one: "Form no product where an interval has one point only (start = end); the block is +0"
one_point : causal_convolution 2 1 apart (with_first 0x7fef_ffff_ffff_ffff) (with_first 0x4000_0000_0000_0000) (replicate 8 one)
    ≡ record { answer = pass; out = floats (0 ∷ 0 ∷ 0 ∷ 0 ∷ 0x3ff8_0000_0000_0000 ∷ 0 ∷ 0 ∷ 0 ∷ []) }
unfolding computing
one_point = refl

-- the same product in the interval from 0 to 2^-1074: "A longer interval whose step halves to 0 still forms its products"
two-points : causal_convolution 2 1 (floats (0 ∷ 1 ∷ [])) (floats (0 ∷ 0 ∷ 0 ∷ 0 ∷ 0x7fef_ffff_ffff_ffff ∷ 0 ∷ 0 ∷ 0 ∷ [])) (with_first 0x4000_0000_0000_0000) (replicate 8 one)
    ≡ record { answer = Err (by 10); out = replicate 8 plus_zero }
unfolding computing
two-points = refl

-- any other refusal leaves the output: 7 of operand 1 at number 2, and 3 for an output that is short
other-refusals : causal_convolution 2 1 apart (with_first 0) (plus_zero ∷ plus_zero ∷ nan ∷ plus_zero ∷ plus_zero ∷ plus_zero ∷ plus_zero ∷ plus_zero ∷ []) (replicate 8 one)
    ∷ causal_convolution 2 1 apart (with_first 0) (with_first 0) (one ∷ []) ∷ []
    ≡ record { answer = Err (record { number = 7; operand = 1; first = 2; second = 0; part = plus_zero }); out = replicate 8 one }
    ∷ record { answer = Err (by 3); out = one ∷ [] } ∷ []
unfolding computing
other-refusals = refl
