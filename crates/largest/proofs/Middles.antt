-- From the digits to the larger: squares in steps of 2^64 show that a root is below the middle of the step above l, and such a root rounds to at
-- most l, so that the larger of l and the norm is l. Assumes nothing.
use Rattle.std.specs.Prelude.{◌≡◌, ◌+◌, ◌*◌, ◌/◌, ◌%◌, ◌^◌, ◌≤◌, ◌<◌}
use Rattle.lists.specs.Prelude.{sym, ap, ◌∙◌, false, ℕ, suc, le_refl, le_of_lt, lt_of_not-le}
use Rattle.lists.specs.Prelude.{div-lt_iff_lt-mul, mul-pos, mul-lt-mul_of_pos_right, pow-suc, dec_le, arith, T, pow-add, pow_pos, Float, binary64}
use Rattle.lists.specs.Prelude.{units, le, fits, to_bits}
use lib.Ieee.Bits.{of_bits-to_bits}
use Rattle.complex.specs.Arithmetic.{larger}
use Rattle.norm.specs.Norm.{norm, rounded_root}
use Rattle.norm.specs.Parts.{unsigned, significand_of, shift_of, units_of, Significand}
use Rattle.norm.specs.Squares.{less, square_le, square-power}
use Rattle.norm.specs.Cell.{rounded-within, step-alone}
use Rattle.norm.specs.Sizes.{placed, by-step, size-by_bits, significand_small, significand_large}
use Rattle.norm.specs.Nearest.{norm-of-sizes}
use Rattle.norm.specs.Order.{ordered}
use Rattle.largest.specs.Digits.{ten_more, over, BelowMiddle}
use Rattle.largest.proofs.Bound.{at_most}

-- ---- the parts are below their digits at the exponent's field f

module _ (a : ℕ) where
  abbrev field : ℕ
  field = a / 2 ^ 52

  -- a step of a normal number is half that of its field
  half_step : 2 ^ 52 ≤ a → 2 ^ field ≡ 2 ^ shift_of a * 2
  half_step h = ap (λ (j : ℕ). 2 ^ j) (let e : field ≡ suc (shift_of a) = omega arith in e) ∙ pow-suc 2 (shift_of a)

  -- a subnormal number is at most half of 2^52 and its own digits
  doubled : 2 * units_of a ≤ (2 ^ 52 + a % 2 ^ 52) * 2 ^ field
  unfolding units_of
  doubled = go (dec_le (2 ^ 52) a)
    where
      go : Dec (2 ^ 52 ≤ a) → 2 * units_of a ≤ (2 ^ 52 + a % 2 ^ 52) * 2 ^ field
      go (yes h) = rw (half_step h, significand_large a h) (omega arith)
      go (no h) = let z : field ≡ 0 = omega arith in rw (z, significand_small a (lt_of_not-le h)) (omega arith)

  pub below-over : (down f : ℕ) → down + field ≡ f → 2 ^ 11 * units_of a < over a down * 2 ^ f
  below-over down f e =
      let p : 2 ^ f ≡ 2 ^ down * 2 ^ field = ap (λ (j : ℕ). 2 ^ j) (sym e) ∙ pow-add 2 down field in
      let cut : ten_more a < over a down * 2 ^ down = (div-lt_iff_lt-mul (pow_pos down)).0 (omega arith) in
      rw p (scaled (units_of a) (2 ^ 52 + a % 2 ^ 52) (over a down) (2 ^ down) (2 ^ field) doubled (mul-lt-mul_of_pos_right cut (pow_pos field)))
    where
      scaled : (u q o d p : ℕ) → 2 * u ≤ q * p → q * 2 ^ 10 * p < o * d * p → 2 ^ 11 * u < o * (d * p)
      scaled u q o d p h k = omega arith

-- ---- so the root is below the middle

-- with A-as-P and B-as-P above 2^11·u and 2^11·v, and H-as-P for 2^10·M
squares-within : (u v A B H P M : ℕ) → 0 < P → 2 ^ 11 * u < A * P → 2 ^ 11 * v < B * P → A * A + B * B < H * H → H * P ≡ M * 2 ^ 10 → 4 * (u ^ 2 + v ^ 2) < M * M
squares-within u v A B H P M z hu hv h e =
    rw (square-power u, square-power v)
    (omega (arith, square_le (le_of_lt hu), square_le (le_of_lt hv), mul-lt-mul_of_pos_right h (mul-pos z z), ap (λ (x : ℕ). x * x) e))

-- the middle, 2^9 of the 2^10 parts of a step above l
middle : (l : ℕ) → 2 ^ 52 ≤ l → (ten_more l + 512) * 2 ^ (l / 2 ^ 52) ≡ (2 * significand_of l + 1) * 2 ^ shift_of l * 2 ^ 10
middle l h = rw (half_step l h, significand_large l h) (omega arith)

-- the numbers that are looked at: an l that is normal and positive, and parts at most 63 fields below
pub record Looked (f down_a down_b : ℕ) : Type 0 where
  pub normal : 0 < f
  pub finite : f ≤ 2046
  pub near_a : down_a ≤ 63
  pub near_b : down_b ≤ 63

-- what the test has found: steps r and s of the parts' squares, and t of the middle's
pub record Found (l a b r s t : ℕ) : Type 0 where
  pub down_a : ℕ
  pub down_b : ℕ
  pub looks : Looked (l / 2 ^ 52) down_a down_b
  pub first : down_a + a / 2 ^ 52 ≡ l / 2 ^ 52
  pub second : down_b + b / 2 ^ 52 ≡ l / 2 ^ 52
  pub square_a : over a down_a * over a down_a < (r + 3) * 2 ^ 64
  pub square_b : over b down_b * over b down_b < (s + 3) * 2 ^ 64
  pub middle-square : t * 2 ^ 64 ≤ (ten_more l + 512) * (ten_more l + 512)
  pub below : r + s + 6 ≤ t

pub root_below : {l a b r s t : ℕ} → Found l a b r s t → BelowMiddle l a b
root_below {l} {a} {b} {r} {s} {t} g = record {
  number = omega (arith, g.looks.finite);
  first = omega (arith, g.first, g.looks.finite);
  second = omega (arith, g.second, g.looks.finite);
  root =
      squares-within (units_of a) (units_of b) (over a g.down_a) (over b g.down_b) (ten_more l + 512) (2 ^ (l / 2 ^ 52)) ((2 * significand_of l + 1) * 2 ^ shift_of l) (pow_pos (l / 2 ^ 52))
      (below-over a g.down_a (l / 2 ^ 52) g.first) (below-over b g.down_b (l / 2 ^ 52) g.second)
      (within _ _ _ g.square_a g.square_b g.middle-square g.below) (middle l (omega (arith, g.looks.normal)));
}
  where
    within : (x y z : ℕ) → x < (r + 3) * 2 ^ 64 → y < (s + 3) * 2 ^ 64 → t * 2 ^ 64 ≤ z → r + s + 6 ≤ t → x + y < z
    within x y z a b c d = omega arith

-- ---- a root below the middle above q·2^k rounds to at most q·2^k

at-most-step : (n q k : ℕ) → Significand q k → 4 * n < (2 * q + 1) * 2 ^ k * ((2 * q + 1) * 2 ^ k) → T (le (rounded_root n) (units binary64 false q k))
at-most-step n q k s h = go (dec_le ((q * 2 ^ k) * (q * 2 ^ k)) n)
  where
    go : Dec ((q * 2 ^ k) * (q * 2 ^ k) ≤ n) → T (le (rounded_root n) (units binary64 false q k))
    go (yes g) = rw (← (rounded-within (record { digits = s; above = g; below = omega arith }) (less h))) (ordered n n (le_refl n))
    go (no g) =
        rw (← (step-alone q k 0 s (omega (arith, mul-pos (pow_pos k) (pow_pos k)))))
        (ordered n ((q * 2 ^ k) ^ 2 + 0 ^ 2) (omega (arith, square-power (q * 2 ^ k))))

pub below-middle : (l re im : Float) → T (fits binary64 l) → T (fits binary64 re) → T (fits binary64 im)
    → BelowMiddle (to_bits binary64 l) (unsigned re) (unsigned im) → larger l (norm re im) ≡ l
below-middle l re im fl fr fi b =
    let bits = to_bits binary64 l in
    let n = units_of (unsigned re) ^ 2 + units_of (unsigned im) ^ 2 in
    let at : units binary64 false (significand_of bits) (shift_of bits) ≡ l = sym (by-step bits b.number) ∙ of_bits-to_bits binary64 l fl in
    let below : T (le (rounded_root n) l) = rw at at (at-most-step n _ _ (placed bits).digits b.root) in
    at_most l (norm re im) (rw (norm-of-sizes re im _ _ (size-by_bits re fr b.first) (size-by_bits im fi b.second)) below)
