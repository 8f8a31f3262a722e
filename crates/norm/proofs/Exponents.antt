-- Exponents: what leading zeros say of a number's digits, of a significand's bits at its step, and of how many digits of a root are dropped.
-- Assumes nothing.
use Rattle.std.specs.Prelude.{◌≡◌, ◌⊎◌, ◌+◌, ◌-◌, ◌*◌, ◌/◌, ◌%◌, ◌^◌, ◌≤◌, ◌<◌}
use Rattle.lists.specs.Prelude.{refl, ap, ◌∙◌, inl, inr, ℕ, suc, le_of_lt, lt_of_lt_of_le, lt_of_le_of_lt}
use Rattle.lists.specs.Prelude.{lt_of_not-le, le_of_suc-le-suc, eq-or-lt_of_le, arith, lit<, lit≤, pow-add, pow_mono, shl_lt}
use lib.Count.{count_leading_zeros, leading_length, leading_top}
use Rattle.norm.specs.Words.{Long, Dropped}

-- ---- the number of digits, from the leading zeros

pub digits_long : (x : ℕ) → x < 2 ^ 128 → Long x (128 - count_leading_zeros 128 x)
digits_long x h =
    let m = leading_length 128 x h in
    let z : 128 - count_leading_zeros 128 x ≡ m.0 = omega arith in
    rw z (m.2, m.3)

-- ---- the bits of a rounded significand m at its step: with more than 11 leading zeros it has no 53rd digit

pub short_significand : (m step : ℕ) → m ≤ 2 ^ 53 → 11 < count_leading_zeros 64 m → (step ≡ 0) ⊎ (2 ^ 52 ≤ m) → m ≡ step * 2 ^ 52 + m
short_significand m step l h f = go f
  where
    below : m < 2 ^ 52
    below =
        let t = leading_length 64 m (lt_of_le_of_lt l (lit< tt)) in
        let few : t.0 ≤ 52 = omega arith in
        lt_of_lt_of_le t.2 (pow_mono few)

    go : (step ≡ 0) ⊎ (2 ^ 52 ≤ m) → m ≡ step * 2 ^ 52 + m
    go (inl e) = omega arith
    go (inr g) = absurd (omega (arith, below))

-- at least 10: rounding carries by one digit at most
pub carried-most : (m : ℕ) → m ≤ 2 ^ 53 → 11 - count_leading_zeros 64 m ≤ 1
carried-most m l =
    let t = leading_length 64 m (lt_of_le_of_lt l (lit< tt)) in
    let most : t.0 ≤ 54 = le_of_suc-le-suc (lt_of_not-le (λ (g : 55 ≤ t.0). let no : ⊥ = omega (arith, pow_mono g) in no)) in
    omega arith

-- up to 11 it has 53 digits, or it was carried to 2^53 and is shifted to the next step
pub long_significand : (m step : ℕ) → m ≤ 2 ^ 53 → let z = count_leading_zeros 64 m in z ≤ 11 → (step + (11 - z) + 1) * 2 ^ 52 + m / 2 ^ (11 - z) % 2 ^ 52 ≡ step * 2 ^ 52 + m
long_significand m step l h = go (leading_length 64 m (lt_of_le_of_lt l (lit< tt)))
  where
    z : ℕ
    z = count_leading_zeros 64 m

    go : (n : ℕ) × (z + n ≡ 64) × (m < 2 ^ n) × (2 ^ n ≤ 2 * m + 1) → (step + (11 - z) + 1) * 2 ^ 52 + m / 2 ^ (11 - z) % 2 ^ 52 ≡ step * 2 ^ 52 + m
    go (n, e, b, a) = by (eq-or-lt_of_le most)
      where
        most : n ≤ 54
        most = le_of_suc-le-suc (lt_of_not-le (λ (g : 55 ≤ n). let no : ⊥ = omega (arith, pow_mono g) in no))

        by : (n ≡ 54) ⊎ (n < 54) → (step + (11 - z) + 1) * 2 ^ 52 + m / 2 ^ (11 - z) % 2 ^ 52 ≡ step * 2 ^ 52 + m
        by (inl w) =
            let c : 11 - z ≡ 1 = omega arith in
            let p : 2 ^ 54 ≤ 2 * m + 1 = rw w at a in
            rw c (omega arith)
        by (inr g) =
            let w : n ≡ 53 = omega arith in
            let c : 11 - z ≡ 0 = omega arith in
            let p : 2 ^ 53 ≤ 2 * m + 1 = rw w at a in
            let q : m < 2 ^ 53 = rw w at b in
            rw c (omega arith)

-- a significand that is shorter has more, and raised by those above 11 it has all its digits
pub raised_significand : (q : ℕ) → 0 < q → q < 2 ^ 52 → let r = count_leading_zeros 64 q - 11 in (11 ≤ count_leading_zeros 64 q) × (1 ≤ r) × (r ≤ 52) × (q * 2 ^ r < 2 ^ 53)
raised_significand q p h =
    let z = count_leading_zeros 64 q in
    let t = leading_top 64 q p (lt_of_lt_of_le h (lit≤ tt)) in
    let most : t.0 < 52 = lt_of_not-le (λ (g : 52 ≤ t.0). let no : ⊥ = omega (arith, pow_mono g) in no) in
    let all : suc t.0 + (z - 11) ≤ 53 = omega arith in
    (omega arith, omega arith, omega arith, lt_of_lt_of_le (shl_lt (suc t.0) (z - 11) t.3) (pow_mono all))

-- ---- the digits dropped of a root with z digits

pub drop-one : (x z : ℕ) → Long x z → z < 54 → Dropped x 1
drop-one x z l h = record { some = omega arith; few = omega arith; short = lt_of_lt_of_le l.0 (pow_mono (le_of_lt h)); long = inl refl }

pub drop_more : (x z : ℕ) → x < 2 ^ 81 → Long x z → 54 ≤ z → Dropped x (z - 53)
drop_more x z b l h =
    let most : z ≤ 81 = le_of_suc-le-suc (lt_of_not-le (λ (g : 82 ≤ z). let no : ⊥ = omega (arith, pow_mono g) in no)) in
    let e : z ≡ 53 + (z - 53) = omega arith in
    let power : 2 ^ z ≡ 2 ^ 53 * 2 ^ (z - 53) = ap (λ (y : ℕ). 2 ^ y) e ∙ pow-add 2 53 (z - 53) in
    record { some = omega arith; few = omega arith; short = omega arith; long = inr (omega arith) }
