-- The inputs of the bench cases, in the words of document 01.
use Rattle.std.specs.Prelude.{◌∷◌}
use Rattle.lists.specs.Prelude.{ℕ, List, [], pos, Float, binary64, of_bits}
use Rattle.std.specs.Float.Ieee as Ieee
use Rattle.complex.specs.declared.Complex.{Complex}
use Rattle.complex.specs.Arithmetic.{plus_zero, one}
use Rattle.two_time.specs.Layout.{read_as}

-- a whole number; a number of the smallest units u = 2^-1074; the largest number; 0.5 and 0.75
abbrev pub whole : ℕ → Float
whole n = Ieee.of_int binary64 (pos n)

abbrev pub units : ℕ → Float
units n = of_bits binary64 n

abbrev pub largest : Float
largest = of_bits binary64 0x7fef_ffff_ffff_ffff

abbrev pub half : Float
half = of_bits binary64 0x3fe0_0000_0000_0000

abbrev pub three_quarters : Float
three_quarters = of_bits binary64 0x3fe8_0000_0000_0000

-- P8: "N=2, n=1, diagonal 1, entry (1,0) +0", entry (0,1) as given
abbrev pub above : Float → List Float
above x = one ∷ plus_zero ∷ x ∷ plus_zero ∷ plus_zero ∷ plus_zero ∷ one ∷ plus_zero ∷ []

-- P9: "entry (1,0) with both parts largest, entry (0,1) 1"; N, n and the diagonal are P8's
abbrev pub huge : List Float
huge = one ∷ plus_zero ∷ one ∷ plus_zero ∷ largest ∷ largest ∷ one ∷ plus_zero ∷ []

-- P10: a lesser function with −x + 2i at (0,0), whose density is 2 + xi
abbrev pub lesser_with : Float → List Float
lesser_with x = Ieee.neg x ∷ whole 2 ∷ plus_zero ∷ plus_zero ∷ plus_zero ∷ plus_zero ∷ plus_zero ∷ plus_zero ∷ []

-- P11 and P12: the entry at (t,u) of three points and one orbital
abbrev pub entry : List Float → ℕ → ℕ → Complex
entry xs t u = read_as 3 1 xs t u 0 0
