-- What the code cites: the digits of parts shifted to one exponent, a root below a middle and half a number, by the bits.
use Rattle.std.specs.Prelude.{◌+◌, ◌-◌, ◌*◌, ◌/◌, ◌%◌, ◌^◌, ◌<◌}
use Rattle.lists.specs.Prelude.{ℕ, cond, ltb}
use Rattle.norm.specs.Parts.{significand_of, shift_of, units_of}

-- the significand of the bits a and ten digits behind it, with a leading digit whatever the exponent's field
abbrev pub ten_more : ℕ → ℕ
ten_more a = (2 ^ 52 + a % 2 ^ 52) * 2 ^ 10

-- these shifted down and cut, and 1 more
abbrev pub over : ℕ → ℕ → ℕ
over a down = ten_more a / 2 ^ down + 1

-- By the bits: l is finite and not negative, the parts are finite, and the root of their squares is below the middle of l and the next
-- number, both sides doubled and squared.
pub record BelowMiddle (l a b : ℕ) : Type 0 where
  pub number : l < 2047 * 2 ^ 52
  pub first : a < 2047 * 2 ^ 52
  pub second : b < 2047 * 2 ^ 52
  pub root : 4 * (units_of a ^ 2 + units_of b ^ 2) < (2 * significand_of l + 1) * 2 ^ shift_of l * ((2 * significand_of l + 1) * 2 ^ shift_of l)

-- the bits of half a number: its exponent one lower; of one below 2^-1021 its own
unfoldable pub half_bits : ℕ → ℕ
half_bits a = cond (ltb a (2 ^ 53)) a (a - 2 ^ 52)
