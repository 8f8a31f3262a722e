-- Closed cases of the Langreth product (reference/expected.py, case e), 10 and another refusal.
use Rattle.std.specs.Prelude.{Err, ◌≡◌, ◌∷◌}
use Rattle.lists.specs.Prelude.{refl, List, [], map, ℕ, replicate, Float, nan}
use Rattle.complex.specs.Arithmetic.{plus_zero, one}
use Rattle.refusal.specs.Verdict.{pass, by}
use Rattle.two_time.specs.Computation.{computation}
use Rattle.two_time.specs.Example.{floats}
use Rattle.two_time.specs.Example as Example
use Rattle.langreth.specs.Calls.{Components, components_of, listed, correlation, correlation_finite, product_finite, product_verdict, langreth_product}

-- what the cases compute with
unfoldable langreth_computation : Unit {0}
unfolding computation correlation correlation_finite product_finite product_verdict langreth_product
langreth_computation = tt

-- 0, 0.1
abbrev times : List Float
times = floats (0 ∷ 0x3fb999999999999a ∷ [])

-- R = (1 + t) + ui, A = (0.3 − u) + ti, lesser 0.1·(t + 1) + 0.7i, greater (t − u) − 0.2i
abbrev left : Components
left =
    record {
      retarded = floats (0x3ff0000000000000 ∷ 0 ∷ 0x3ff0000000000000 ∷ 0x3ff0000000000000 ∷ 0x4000000000000000 ∷ 0 ∷ 0x4000000000000000 ∷ 0x3ff0000000000000 ∷ []);
      advanced = floats (0x3fd3333333333333 ∷ 0 ∷ 0xbfe6666666666666 ∷ 0 ∷ 0x3fd3333333333333 ∷ 0x3ff0000000000000 ∷ 0xbfe6666666666666 ∷ 0x3ff0000000000000 ∷ []);
      lesser = floats (0x3fb999999999999a ∷ 0x3fe6666666666666 ∷ 0x3fb999999999999a ∷ 0x3fe6666666666666 ∷ 0x3fc999999999999a ∷ 0x3fe6666666666666 ∷ 0x3fc999999999999a ∷ 0x3fe6666666666666 ∷ []);
      greater = floats (0 ∷ 0xbfc999999999999a ∷ 0xbff0000000000000 ∷ 0xbfc999999999999a ∷ 0x3ff0000000000000 ∷ 0xbfc999999999999a ∷ 0 ∷ 0xbfc999999999999a ∷ []);
    }

-- R = 0.5 + (t + u)i, A = (1 + t·u) − i, lesser u + 0.9i, greater 0.6 − ti
abbrev right : Components
right =
    record {
      retarded = floats (0x3fe0000000000000 ∷ 0 ∷ 0x3fe0000000000000 ∷ 0x3ff0000000000000 ∷ 0x3fe0000000000000 ∷ 0x3ff0000000000000 ∷ 0x3fe0000000000000 ∷ 0x4000000000000000 ∷ []);
      advanced = floats (0x3ff0000000000000 ∷ 0xbff0000000000000 ∷ 0x3ff0000000000000 ∷ 0xbff0000000000000 ∷ 0x3ff0000000000000 ∷ 0xbff0000000000000 ∷ 0x4000000000000000 ∷ 0xbff0000000000000 ∷ []);
      lesser = floats (0 ∷ 0x3feccccccccccccd ∷ 0x3ff0000000000000 ∷ 0x3feccccccccccccd ∷ 0 ∷ 0x3feccccccccccccd ∷ 0x3ff0000000000000 ∷ 0x3feccccccccccccd ∷ []);
      greater = floats (0x3fe3333333333333 ∷ 0x8000000000000000 ∷ 0x3fe3333333333333 ∷ 0x8000000000000000 ∷ 0x3fe3333333333333 ∷ 0xbff0000000000000 ∷ 0x3fe3333333333333 ∷ 0xbff0000000000000 ∷ []);
    }

abbrev ones : Components
ones = let each = replicate 8 one in components_of each each each each

abbrev bits : Components → List (List ℕ)
bits x = map Example.bits (listed x)

components : bits (langreth_product 2 1 times left right ones).out ≡
    (
    0 ∷ 0 ∷ 0 ∷ 0 ∷ 0x3fa999999999999a ∷ 0x3fc0000000000000 ∷ 0 ∷ 0 ∷ [])
    ∷ (
    0 ∷ 0 ∷ 0xbfac28f5c28f5c28 ∷ 0x3f947ae147ae147a ∷ 0 ∷ 0 ∷ 0 ∷ 0 ∷ [])
    ∷ (
    0x3fa1eb851eb851eb ∷ 0x3fc3333333333334 ∷ 0x3fc1eb851eb851eb ∷ 0x3fce147ae147ae14 ∷ 0x3fa70a3d70a3d709 ∷ 0x3fcd70a3d70a3d71 ∷ 0x3fd051eb851eb852 ∷ 0x3fd428f5c28f5c28 ∷ [])
    ∷ (
    0x3fa47ae147ae147c ∷ 0x3f847ae147ae147c ∷ 0xbf847ae147ae1480 ∷ 0xbc60000000000000 ∷ 0x3fc999999999999a ∷ 0xbfc1eb851eb851ec ∷ 0x3fc999999999999a ∷ 0xbfc3333333333333 ∷ [])
    ∷ []
unfolding langreth_computation
components = refl

-- components that are zero but for the retarded and the advanced one
abbrev zero_but : List Float → List Float → Components
zero_but retarded advanced = let zeros = replicate 8 plus_zero in components_of retarded advanced zeros zeros

abbrev zeros : Components
zeros = let each = replicate 8 plus_zero in zero_but each each

-- 2^1023 at (0,0) or (1,1)
abbrev at_0_0 : List Float
at_0_0 = floats (0x7fe0000000000000 ∷ 0 ∷ 0 ∷ 0 ∷ 0 ∷ 0 ∷ 0 ∷ 0 ∷ [])

abbrev at_1_1 : List Float
at_1_1 = floats (0 ∷ 0 ∷ 0 ∷ 0 ∷ 0 ∷ 0 ∷ 0x7fe0000000000000 ∷ 0 ∷ [])

-- their products on the diagonal are not formed: those intervals have one point
one_point : langreth_product 2 1 times (zero_but at_0_0 at_1_1) (zero_but at_0_0 at_1_1) ones ≡ record { answer = pass; out = zeros }
unfolding langreth_computation
one_point = refl

-- 10 by the product of the advanced components at (0,1): each output +0. And 7 of operand 7, the right greater function
abbrev at_0_1 : List Float
at_0_1 = floats (0 ∷ 0 ∷ 0x7fe0000000000000 ∷ 0 ∷ 0 ∷ 0 ∷ 0 ∷ 0 ∷ [])

refused : langreth_product 2 1 times (zero_but at_0_0 at_0_1) (zero_but at_0_0 at_1_1) ones
    ∷ langreth_product 2 1 times ones (components_of ones.retarded ones.advanced ones.lesser (nan ∷ replicate 7 one)) ones ∷ []
    ≡ record { answer = Err (by 10); out = zeros }
    ∷ record { answer = Err (record { number = 7; operand = 7; first = 0; second = 0; part = plus_zero }); out = ones } ∷ []
unfolding langreth_computation
refused = refl
