-- Closed cases of the arithmetic: the expected bits are IEEE 754's, and reference/document01.py gives the same.
use Rattle.std.specs.Prelude.{◌≡◌, ◌∷◌}
use Rattle.lists.specs.Prelude.{refl, true, false, List, [], map, ℕ, zero, suc, Float, nan, inf, binary64, to_bits}
use Rattle.std.specs.Float.Ieee as Ieee
use Rattle.lists.specs.Indexed.{fold}
use Rattle.complex.specs.declared.Complex.{Complex}
use Rattle.complex.specs.Arithmetic.{plus_zero, one, finite, size, larger, czero, cone, minus_i, cadd, csub, cmul, conj, cfinite}
use Rattle.complex.specs.Sum.{sum_from, sum, largest_from, largest_in}

-- a number by its bits, a complex number by those of its parts, and back
abbrev f : ℕ → Float
f = Ieee.of_bits binary64

abbrev z : ℕ → ℕ → Complex
z a b = record { re = f a; im = f b }

abbrev bits : Complex → List ℕ
bits x = to_bits binary64 x.re ∷ to_bits binary64 x.im ∷ []

abbrev -zero : ℕ
-zero = 0x8000_0000_0000_0000

abbrev most : ℕ
most = 0x7fef_ffff_ffff_ffff

-- the constants: +0+0i, 1+0i, +0-1i
constants : map bits (czero ∷ cone ∷ minus_i ∷ []) ≡
    (0 ∷ 0 ∷ []) ∷ (0x3ff0_0000_0000_0000 ∷ 0 ∷ []) ∷ (0 ∷ 0xbff0_0000_0000_0000 ∷ []) ∷ []
unfolding Ieee.of_bits to_bits Ieee.neg
constants = refl

-- (1+2i)(3+4i) = -5+10i, and (3+4i)(0-1i) = 4-3i
product : map bits (
    cmul (z 0x3ff0_0000_0000_0000 0x4000_0000_0000_0000) (z 0x4008_0000_0000_0000 0x4010_0000_0000_0000) ∷
    cmul (z 0x4008_0000_0000_0000 0x4010_0000_0000_0000) minus_i ∷ []) ≡
    (0xc014_0000_0000_0000 ∷ 0x4024_0000_0000_0000 ∷ []) ∷ (0x4010_0000_0000_0000 ∷ 0xc008_0000_0000_0000 ∷ []) ∷ []
unfolding cmul Ieee.mul Ieee.add Ieee.sub Ieee.neg Ieee.of_bits to_bits
product = refl

-- 1+2i less 3+4i, and plus
difference : map bits (
    csub (z 0x3ff0_0000_0000_0000 0x4000_0000_0000_0000) (z 0x4008_0000_0000_0000 0x4010_0000_0000_0000) ∷
    cadd (z 0x3ff0_0000_0000_0000 0x4000_0000_0000_0000) (z 0x4008_0000_0000_0000 0x4010_0000_0000_0000) ∷ []) ≡
    (0xc000_0000_0000_0000 ∷ 0xc000_0000_0000_0000 ∷ []) ∷ (0x4010_0000_0000_0000 ∷ 0x4018_0000_0000_0000 ∷ []) ∷ []
unfolding cadd csub Ieee.add Ieee.sub Ieee.of_bits to_bits
difference = refl

-- conjugation gives 1+0i the imaginary part -0
conjugate-of-one : bits (conj cone) ≡ 0x3ff0_0000_0000_0000 ∷ -zero ∷ []
unfolding conj Ieee.neg Ieee.of_bits to_bits
conjugate-of-one = refl

-- the sum of -0-0i alone is +0+0i: it starts at +0+0i and not at its first term
sum-of-minus-zero : bits (sum 1 (λ k. z -zero -zero)) ≡ 0 ∷ 0 ∷ []
unfolding sum_from fold cadd Ieee.add Ieee.of_bits to_bits
sum-of-minus-zero = refl

-- 2^53 + 1 + 1 is 2^53 where it is added in that order, and 1 + 1 + 2^53 is 2^53 + 2
abbrev at_first : ℕ → Complex
at_first zero = z 0x4340_0000_0000_0000 0
at_first (suc k) = cone

abbrev at_last : ℕ → Complex
at_last zero = cone
at_last (suc zero) = cone
at_last (suc (suc k)) = z 0x4340_0000_0000_0000 0

order_of_a_sum : map bits (sum 3 at_first ∷ sum 3 at_last ∷ []) ≡ (0x4340_0000_0000_0000 ∷ 0 ∷ []) ∷ (0x4340_0000_0000_0001 ∷ 0 ∷ []) ∷ []
unfolding sum_from fold cadd Ieee.add Ieee.of_bits to_bits
order_of_a_sum = refl

-- a sum from a value: 1 + (2 + 3) as (1 + 2) + 3, terms 2 and 3 at the indices 2 and 3
from_a_value : bits (sum_from cone (λ k. record { re = Ieee.of_int binary64 (lib.IntN.pos k); im = plus_zero }) 2 2) ≡ 0x4018_0000_0000_0000 ∷ 0 ∷ []
unfolding sum_from fold cadd Ieee.add Ieee.of_bits Ieee.of_int to_bits
from_a_value = refl

finiteness : map finite (nan ∷ inf true ∷ inf false ∷ f most ∷ f -zero ∷ []) ≡ false ∷ false ∷ false ∷ true ∷ true ∷ []
unfolding finite Ieee.of_bits
finiteness = refl

finiteness-of-both : map cfinite (z 0 0 ∷ record { re = nan; im = plus_zero } ∷ record { re = plus_zero; im = inf true } ∷ []) ≡ true ∷ false ∷ false ∷ []
unfolding cfinite finite Ieee.of_bits
finiteness-of-both = refl

sizes : map size (nan ∷ inf true ∷ f -zero ∷ f 0xc008_0000_0000_0000 ∷ []) ≡ nan ∷ inf false ∷ plus_zero ∷ f 0x4008_0000_0000_0000 ∷ []
unfolding size Ieee.of_bits
sizes = refl

-- a NaN is never kept beside a number
larger-ones : larger nan one ∷ larger one nan ∷ larger nan nan ∷ larger plus_zero one ∷ larger one plus_zero ∷ larger one (inf false) ∷ []
    ≡ one ∷ one ∷ nan ∷ one ∷ one ∷ inf false ∷ []
unfolding larger Ieee.ne Ieee.eq Ieee.lt Ieee.of_bits
larger-ones = refl

-- a maximum begins at +0
largest-of-none : largest_in 0 2 (λ a b. one) ∷ largest_in 1 1 (λ a b. nan) ∷ largest_in 2 2 (λ a b. one) ∷ [] ≡ plus_zero ∷ plus_zero ∷ one ∷ []
unfolding largest_in largest_from fold larger Ieee.ne Ieee.eq Ieee.lt Ieee.of_bits
largest-of-none = refl
