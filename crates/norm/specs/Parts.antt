-- A part's size from its bits without the sign: the significand times a power of two, in units of 2^-1074. And the bits of such a size.
use Rattle.std.specs.Prelude.{◌⊎◌, ◌≡◌, ◌+◌, ◌-◌, ◌*◌, ◌/◌, ◌%◌, ◌^◌, ◌≤◌, ◌<◌}
use Rattle.lists.specs.Prelude.{ℕ, false, cond, ltb, Float, binary64, units, of_bits, to_bits, pos, ℤ}
use Rattle.std.specs.Int.Signed.{mag}

-- an exponent as code holds it, an `i16`: a natural number, at most `most`
abbrev pub UpTo : ℕ → ℤ → Type 0
UpTo most k = (k ≡ pos (mag k)) × (mag k ≤ most)

-- the bits without the sign
abbrev pub unsigned : Float → ℕ
unsigned x = to_bits binary64 x % 2 ^ 63

-- the significand, whose leading digit the bits leave out where the exponent's field is not 0
unfoldable pub significand_of : ℕ → ℕ
significand_of a = cond (ltb a (2 ^ 52)) a (2 ^ 52 + a % 2 ^ 52)

-- how far it is shifted: the exponent's field counted from 1, and a field of 0 counts as 1
abbrev pub shift_of : ℕ → ℕ
shift_of a = a / 2 ^ 52 - 1

unfoldable pub units_of : ℕ → ℕ
unfolding significand_of
units_of a = significand_of a * 2 ^ shift_of a

-- q is a significand at the step 2^k: it has at most 53 digits, and all 53 where the step is not the unit
pub record Significand (q k : ℕ) : Type 0 where
  pub small : q < 2 ^ 53
  pub full : (k ≡ 0) ⊎ (2 ^ 52 ≤ q)

-- a significand after rounding, which can carry it to 2^53
pub record Rounded (q k : ℕ) : Type 0 where
  pub most : q ≤ 2 ^ 53
  pub full : (k ≡ 0) ⊎ (2 ^ 52 ≤ q)

-- the bits r are those of q·2^k units
abbrev pub Encodes : ℕ → ℕ → ℕ → Type 0
Encodes r q k = (r ≤ 2047 * 2 ^ 52) × (of_bits binary64 r ≡ units binary64 false q k)
