-- Closed cases of the norm, P1 to P5 of document 01 among them. Expected bits by exact integer arithmetic (reference/document01.py).
use Rattle.std.specs.Prelude.{◌≡◌, ◌∷◌, ◌^◌}
use Rattle.lists.specs.Prelude.{refl, true, false, [], map, ℕ, nan, inf, binary64, to_bits}
use Rattle.std.specs.Float.Ieee as Ieee
use Rattle.norm.specs.Norm.{norm, root}

-- the norm of two parts, all by their bits
abbrev of : ℕ → ℕ → ℕ
of a b = to_bits binary64 (norm (Ieee.of_bits binary64 a) (Ieee.of_bits binary64 b))

roots : map root (0 ∷ 1 ∷ 3 ∷ 4 ∷ 24 ∷ 25 ∷ 2 ^ 200 ∷ []) ≡ 0 ∷ 1 ∷ 1 ∷ 2 ∷ 4 ∷ 5 ∷ 2 ^ 100 ∷ []
unfolding root
roots = refl

-- P1 to P4: norm(3,4) = 5, norm(-0,+0) = +0, norm(2u,2u) = 3u, the largest number twice gives +infinity
p1_to_p4 : of 0x4008_0000_0000_0000 0x4010_0000_0000_0000 ∷ of 0x8000_0000_0000_0000 0 ∷ of 2 2 ∷ of 0x7fef_ffff_ffff_ffff 0x7fef_ffff_ffff_ffff ∷ []
    ≡ 0x4014_0000_0000_0000 ∷ 0 ∷ 3 ∷ 0x7ff0_0000_0000_0000 ∷ []
unfolding norm Ieee.of_bits to_bits
p1_to_p4 = refl

-- P5 is a tie above an even significand, and goes down. The second is a tie above an odd one, and goes up.
ties : of 0x433f_ffff_fbff_ffff 0x4338_0000_0c00_0000 ∷ of 0x431a_b273_836f_db6c 0x4344_be92_f03e_3ef0 ∷ []
    ≡ 0x4344_0000_0200_0000 ∷ 0x4345_02d9_cadd_ae6e ∷ []
unfolding norm Ieee.of_bits to_bits
ties = refl

-- The root is (2^54 − 1)·2^970 exactly, and gives +infinity. With a part one step smaller it gives the largest number.
threshold : of 0x7fd5_9b43_fab3_687f 0x7fee_1f0a_43c3_e148 ∷ of 0x7fd5_9b43_fab3_687f 0x7fee_1f0a_43c3_e147 ∷ []
    ≡ 0x7ff0_0000_0000_0000 ∷ 0x7fef_ffff_ffff_ffff ∷ []
unfolding norm Ieee.of_bits to_bits
threshold = refl

-- norm(u,u) = u and norm(5u,5u) = 7u: a subnormal result is rounded at whole units. norm(-0,-7.25) = 7.25; norm(1, 2^-26) = 1
small : of 1 1 ∷ of 5 5 ∷ of 0x8000_0000_0000_0000 0xc01d_0000_0000_0000 ∷ of 0x3ff0_0000_0000_0000 0x3e50_0000_0000_0000 ∷ []
    ≡ 1 ∷ 7 ∷ 0x401d_0000_0000_0000 ∷ 0x3ff0_0000_0000_0000 ∷ []
unfolding norm Ieee.of_bits to_bits
small = refl

-- an infinite part before a NaN
specials : norm nan (inf true) ∷ norm (inf true) nan ∷ norm nan nan ∷ norm nan (Ieee.of_bits binary64 0) ∷ norm (inf true) (inf true) ∷ []
    ≡ inf false ∷ inf false ∷ nan ∷ nan ∷ inf false ∷ []
unfolding norm Ieee.of_bits
specials = refl
