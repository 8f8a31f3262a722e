-- SumOfSquares: the parts' bits to the sum of their squares, in the units of the smaller part; and where the smaller is too small to count.
-- Assumes nothing.
use Rattle.std.specs.Prelude.{◌≡◌, ◌⊎◌, ◌+◌, ◌*◌, ◌^◌, ◌≤◌, ◌<◌}
use Rattle.lists.specs.Prelude.{sym, ap, ◌∙◌, inl, inr, ⊎_map, ℕ, suc, le-add_right, le_trans, le_of_eq, le_of_suc-le-suc}
use Rattle.lists.specs.Prelude.{lt_of_lt_of_le, lt_of_le_of_lt, mul-pos, mul-le-mul, mul-le-mul_left, mul-le-mul_right, mul-lt-mul_of_pos_right, arith, lit<, lit≤}
use Rattle.lists.specs.Prelude.{pow-add, pow_pos, pow_mono, shl_lt, add-lt-pow, binary64, of_bits}
use Rattle.norm.specs.Norm.{rounded_root}
use Rattle.norm.specs.Parts.{significand_of, shift_of, units_of}
use Rattle.norm.specs.Checked.{Ranked, squares}
use Rattle.norm.specs.Squares.{square_le, square-power, mul-lt-pow, power-of_four, four_pos, below-of-squares, between-squares}
use Rattle.norm.specs.Cell.{step-alone}
use Rattle.norm.specs.Sizes.{placed, by-step, shift_mono, significand_small}

-- ---- a part that is alone or far above the other: its bits are the norm's

alone : (a b : ℕ) → a < 2047 * 2 ^ 52 → 4 * (units_of b * units_of b) < (4 * significand_of a + 1) * (2 ^ shift_of a * 2 ^ shift_of a)
    → of_bits binary64 a ≡ rounded_root (units_of a ^ 2 + units_of b ^ 2)
unfolding units_of
alone a b h l = by-step a h ∙ sym (step-alone (significand_of a) (shift_of a) (units_of b) (placed a).digits l)

pub zero-part : (a b : ℕ) → a < 2047 * 2 ^ 52 → b ≡ 0 → of_bits binary64 a ≡ rounded_root (units_of a ^ 2 + units_of b ^ 2)
unfolding units_of
zero-part a b h e =
    let none : significand_of b ≡ 0 = ap significand_of e ∙ significand_small 0 (lit< tt) in
    alone a b h (rw none (omega (arith, mul-pos (pow_pos (shift_of a)) (pow_pos (shift_of a)))))

-- 27 or more shifts below
far_below : (q k r j : ℕ) → 2 ^ 52 ≤ q → r < 2 ^ 53 → 27 + j ≤ k → 4 * ((r * 2 ^ j) * (r * 2 ^ j)) < (4 * q + 1) * (2 ^ k * 2 ^ k)
far_below q k r j f s g =
    let P = 2 ^ k in
    let l : r * 2 ^ j ≤ 2 ^ 26 * P = omega (arith, mul-lt-mul_of_pos_right s (pow_pos j), pow-add 2 27 j, pow_mono g) in
    omega (arith, square_le l, mul-le-mul_right (P * P) f, mul-pos (pow_pos k) (pow_pos k))

pub far_part : (a b : ℕ) → a < 2047 * 2 ^ 52 → 27 + shift_of b ≤ shift_of a → of_bits binary64 a ≡ rounded_root (units_of a ^ 2 + units_of b ^ 2)
unfolding units_of
far_part a b h g = alone a b h (far_below (significand_of a) (shift_of a) (significand_of b) (shift_of b) (long (placed a).digits.full) (placed b).digits.small g)
  where
    long : (shift_of a ≡ 0) ⊎ (2 ^ 52 ≤ significand_of a) → 2 ^ 52 ≤ significand_of a
    long (inl e) = absurd (omega arith)
    long (inr l) = l

-- ---- parts near each other, g shifts apart

pub aligned : (a b g : ℕ) → g + shift_of b ≡ shift_of a → squares (significand_of a) (significand_of b) g * 4 ^ shift_of b ≡ 4 * (units_of a ^ 2 + units_of b ^ 2)
unfolding units_of
aligned a b g e = rw (← e) (product (significand_of a) (significand_of b) (shift_of b))
  where
    product : (q r j : ℕ) → squares q r g * 4 ^ j ≡ 4 * ((q * 2 ^ (g + j)) ^ 2 + (r * 2 ^ j) ^ 2)
    product q r j = simp (square-power, pow-add 2 g j, power-of_four) (omega arith)

-- a unit that is not the definition's has a significand of 53 digits above it
pub unit-or-full : (a b : ℕ) → b ≤ a → (shift_of b ≡ 0) ⊎ (2 ^ 52 ≤ significand_of a)
unit-or-full a b le = ⊎_map (λ e. omega (arith, shift_mono a b le)) (λ h. h) (placed a).digits.full

-- parts that are as large as their significands, where the larger is without its leading digit
pub ranked : (a b : ℕ) → 0 < b → b ≤ a → Ranked (significand_of a) (significand_of b) (shift_of a)
ranked a b z le = go (placed a).digits.full
  where
    go : (shift_of a ≡ 0) ⊎ (2 ^ 52 ≤ significand_of a) → Ranked (significand_of a) (significand_of b) (shift_of a)
    go (inl e) = inr (e, omega (arith, (placed a).bits), omega (arith, (placed a).bits, (placed b).bits, shift_mono a b le))
    go (inr h) = inl h

-- ---- how large the sum of the squares is, and its root x, which leaves t

module _ (qa qb g : ℕ) (la : qa < 2 ^ 53) (lb : qb < 2 ^ 53) (lg : g < 27) where
  double : (q : ℕ) → q < 2 ^ 53 → 2 * q * (2 * q) < 2 ^ 108
  double q h = let l : 2 * q < 2 ^ 54 = omega arith in mul-lt-pow 54 54 l l

  pub raised-small : 2 * qa * (2 * qa) * 4 ^ g < 2 ^ 160
  raised-small = lt_of_le_of_lt (mul-le-mul_left (2 * qa * (2 * qa)) four) (shl_lt 108 52 (double qa la))
    where
      four : 4 ^ g ≤ 2 ^ 52
      four = rw power-of_four (mul-le-mul (pow_mono (le_of_suc-le-suc lg)) (pow_mono (le_of_suc-le-suc lg)))

  pub sum-small : squares qa qb g < 2 ^ 162
  sum-small = lt_of_lt_of_le (add-lt-pow 160 raised-small (lt_of_lt_of_le (double qb lb) (lit≤ {m = 2 ^ 108} {n = 2 ^ 160} tt))) (lit≤ {m = 2 ^ 161} {n = 2 ^ 162} tt)

  module _ (x t : ℕ) (value : x * x + t ≡ squares qa qb g) where
    pub root-fits : x < 2 ^ 81
    root-fits = below-of-squares x (2 ^ 81) (lt_of_le_of_lt (le_trans (le-add_right (x * x) t) (le_of_eq value)) sum-small)

    -- a significand of 53 digits has a root of 54
    pub unit-or-long : (u : ℕ) → t ≤ 2 * x → (u ≡ 0) ⊎ (2 ^ 52 ≤ qa) → (u ≡ 0) ⊎ (2 ^ 53 ≤ x)
    unit-or-long u l = ⊎_map (λ e. e) (λ h. between-squares (2 ^ 53) x (squares qa qb g) (long h) (lt_of_le_of_lt (le_of_eq (sym value)) next))
      where
        long : 2 ^ 52 ≤ qa → 2 ^ 53 * 2 ^ 53 ≤ squares qa qb g
        long h = le_trans (mul-le-mul (square_le (mul-le-mul_left 2 h)) (four_pos g)) (le-add_right (2 * qa * (2 * qa) * 4 ^ g) (2 * qb * (2 * qb)))

        next : x * x + t < suc x * suc x
        next = omega arith
