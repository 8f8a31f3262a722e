-- Encoding: q·2^k units as bits. The step's exponent in the exponent's field, and q added: its leading digit, and one that rounding
-- carries, raise the field. From 2^1024 on it is infinity's pattern. Assumes nothing.
use Rattle.std.specs.Prelude.{◌≡◌, ◌⊎◌, ◌+◌, ◌-◌, ◌*◌, ◌/◌, ◌^◌, ◌≤◌, ◌<◌}
use Rattle.lists.specs.Prelude.{refl, sym, ap, ◌∙◌, inl, inr, true, false, not, true≢false, ℕ, suc, le_of_lt}
use Rattle.lists.specs.Prelude.{lt_of_lt_of_le, lt_of_le_of_lt, lt_of_not-le, not-le_of_lt, eq-or-lt_of_le, mul-div_cancel, mul-le-mul, mul-le-mul_left}
use Rattle.lists.specs.Prelude.{mul-lt-mul_of_pos_right, lt-suc_self, le_refl, pow-suc, dec_le, arith, ℤ, T, lit<, lit≤, pow_pos, pow_mono, Float, nan, inf, fin}
use Rattle.lists.specs.Prelude.{binary64, units, odd, up, down, fits, is_nan, of_bits, to_bits, size, lt-ltb, le-ltb}
use Rattle.std.specs.Float.Ieee.Exact.{HasValue, odd_sign}
use Rattle.std.specs.Float.Ieee.Fits.{odd-fits, down_pos}
use Rattle.std.specs.Float.Ieee.Bits.{of_bits-to_bits, to_bits-of_bits}
use Rattle.norm.specs.Norm.{in_units}
use Rattle.norm.specs.Parts.{Significand, Rounded, Encodes}
use Rattle.norm.specs.Cell.{dropped_digits, whole-steps}

pub unrounded : {q k : ℕ} → Significand q k → Rounded q k
unrounded s = record { most = le_of_lt s.small; full = s.full }

-- 2^53 at a step is 2^52 at the next
pub carried : (q k : ℕ) → q ≡ 2 ^ 53 → q * 2 ^ k ≡ 2 ^ 52 * 2 ^ suc k
carried q k e = rw (e, pow-suc 2 k) (omega arith)

-- the size of what equals a units
pub in-units : (m : ℕ) (e : ℤ) (a : ℕ) → m * up e * 2 ^ 1074 ≡ a * down e → in_units m e ≡ a
in-units m e a h = ap (λ (x : ℕ). x / down e) h ∙ mul-div_cancel a (down_pos e)

-- the bits of a positive number of a units, where 53 digits and k more hold it: the field k and the 53 digits
pub bits_at : (a k q m : ℕ) (e : ℤ) → in_units m e ≡ a → size a - 53 ≡ k → a / 2 ^ k ≡ q → to_bits binary64 (fin false m e) ≡ k * 2 ^ 52 + q
unfolding to_bits
bits_at a k q m e h s d =
    ap (λ (n : ℕ). 0 + (size n - 53) * 2 ^ 52 + n / 2 ^ (size n - 53)) h ∙ ap (λ (j : ℕ). 0 + j * 2 ^ 52 + a / 2 ^ j) s ∙ omega (arith, d)

-- what is read from those bits
read_back : (x : Float) (a k q : ℕ) → HasValue x false a (2 ^ 1074) → T (fits binary64 x) → size a - 53 ≡ k → a / 2 ^ k ≡ q → of_bits binary64 (k * 2 ^ 52 + q) ≡ x
read_back nan a k q h f s d = absurd h
read_back (inf t) a k q h f s d = absurd h
read_back (fin true m e) a k q h f s d = absurd (true≢false h.0)
read_back (fin false m e) a k q h f s d =
    ap (λ (b : ℕ). of_bits binary64 b) (sym (bits_at a k q m e (in-units m e a h.1) s d)) ∙ of_bits-to_bits binary64 (fin false m e) f

-- a significand's own multiple of the step
pub own-digits : {q k : ℕ} → Significand q k → (size (q * 2 ^ k) - 53 ≡ k) × (q * 2 ^ k / 2 ^ k ≡ q)
own-digits {q} {k} s =
    let h : q * 2 ^ k < suc q * 2 ^ k = mul-lt-mul_of_pos_right (lt-suc_self q) (pow_pos k) in
    (dropped_digits (q * 2 ^ k) q k s (le_refl (q * 2 ^ k)) h, whole-steps (q * 2 ^ k) q k s (le_refl (q * 2 ^ k)) h)

module _ {q k : ℕ} (r : Rounded q k) where
  abbrev bits : ℕ
  bits = k * 2 ^ 52 + q

  odd_bits : q * 2 ^ k < 2 ^ 2098 → of_bits binary64 bits ≡ odd 54 false q k 1074
  odd_bits h = go (eq-or-lt_of_le r.most)
    where
      at : (j p : ℕ) → q * 2 ^ k ≡ p * 2 ^ j → Significand p j → of_bits binary64 (j * 2 ^ 52 + p) ≡ odd 54 false q k 1074
      at j p e s =
          read_back (odd 54 false q k 1074) (q * 2 ^ k) j p (odd_sign 54 false q k 1074) (odd-fits binary64 54 false q k (lt_of_le_of_lt r.most (lit< tt)) r.most h)
          (rw e (own-digits s).0) (rw e (own-digits s).1)

      go : (q ≡ 2 ^ 53) ⊎ (q < 2 ^ 53) → of_bits binary64 bits ≡ odd 54 false q k 1074
      go (inl e) =
          let same : bits ≡ suc k * 2 ^ 52 + 2 ^ 52 = omega arith in
          ap (λ (b : ℕ). of_bits binary64 b) same ∙ at (suc k) (2 ^ 52) (carried q k e) (record { small = lit< tt; full = inr (le_refl (2 ^ 52)) })
      go (inr g) = at k q refl (record { small = g; full = r.full })

  -- the two sides of the overflow threshold, by the bits
  under_top : bits < 2047 * 2 ^ 52 → q * 2 ^ k < 2 ^ 2098
  under_top h = go r.full (dec_le k 2044)
    where
      go : (k ≡ 0) ⊎ (2 ^ 52 ≤ q) → Dec (k ≤ 2044) → q * 2 ^ k < 2 ^ 2098
      go f (yes g) = lt_of_le_of_lt (mul-le-mul r.most (pow_mono g)) (lit< {m = 2 ^ 53 * 2 ^ 2044} {n = 2 ^ 2098} tt)
      go (inl e) (no g) = absurd (omega arith)
      go (inr f) (no g) =
          let s : q < 2 ^ 53 = omega arith in
          let l : k ≤ 2045 = omega arith in
          lt_of_lt_of_le (mul-lt-mul_of_pos_right s (pow_pos k)) (mul-le-mul_left (2 ^ 53) (pow_mono l))

  over-top : 2047 * 2 ^ 52 ≤ bits → 2 ^ 2098 ≤ q * 2 ^ k
  over-top h = go r.full (dec_le k 2045)
    where
      go : (k ≡ 0) ⊎ (2 ^ 52 ≤ q) → Dec (k ≤ 2045) → 2 ^ 2098 ≤ q * 2 ^ k
      go f (yes g) =
          let s : 2 ^ 53 ≤ q = omega (arith, r.most) in
          let l : 2045 ≤ k = omega (arith, r.most) in
          mul-le-mul s (pow_mono l)
      go (inl e) (no g) = absurd (omega arith)
      go (inr w) (no g) = mul-le-mul w (pow_mono (lt_of_not-le g))

  -- what the pattern stands for, below infinity's and from there on
  pub finite-bits : bits < 2047 * 2 ^ 52 → of_bits binary64 bits ≡ units binary64 false q k
  unfolding units
  finite-bits h = odd_bits (under_top h) ∙ sym (rw (lt-ltb (q * 2 ^ k) (2 ^ 2098) (under_top h)))

  infinite-bits : 2047 * 2 ^ 52 ≤ bits → of_bits binary64 (2047 * 2 ^ 52) ≡ units binary64 false q k
  unfolding units of_bits
  infinite-bits h = sym (rw (le-ltb (q * 2 ^ k) (2 ^ 2098) (over-top h)))

  -- the bits of a number: the step's field and the significand
  pub bits-of-units : q * 2 ^ k < 2 ^ 2098 → to_bits binary64 (units binary64 false q k) ≡ bits
  unfolding is_nan
  bits-of-units h =
      ap (λ (x : Float). to_bits binary64 x) (sym (finite-bits small))
      ∙ to_bits-of_bits binary64 bits (lt_of_lt_of_le small (lit≤ {m = 2047 * 2 ^ 52} {n = 2 ^ 64} tt)) (rw (odd_bits h) (a_number (odd 54 false q k 1074) (odd_sign 54 false q k 1074)))
    where
      small : bits < 2047 * 2 ^ 52
      small = lt_of_not-le (λ (g : 2047 * 2 ^ 52 ≤ bits). not-le_of_lt h (over-top g))

      a_number : (x : Float) → HasValue x false (q * 2 ^ k) (2 ^ 1074) → T (not (is_nan x))
      a_number nan v = absurd v
      a_number (inf s) v = absurd v
      a_number (fin s m e) v = tt

  -- a step below 2^2046 units: the pattern, which a carry can make infinity's
  pub bits-of-step : k < 2046 → Encodes bits q k
  bits-of-step h =
      let most : bits ≤ 2047 * 2 ^ 52 = omega (arith, r.most) in
      (most, go (eq-or-lt_of_le most))
    where
      go : (bits ≡ 2047 * 2 ^ 52) ⊎ (bits < 2047 * 2 ^ 52) → of_bits binary64 bits ≡ units binary64 false q k
      go (inl e) = ap (λ (b : ℕ). of_bits binary64 b) e ∙ infinite-bits (omega arith)
      go (inr g) = finite-bits g

  -- and from there on infinity's
  pub bits-past-steps : 2046 ≤ k → Encodes (2047 * 2 ^ 52) q k
  bits-past-steps h = (le_refl (2047 * 2 ^ 52), infinite-bits (past r.full))
    where
      past : (k ≡ 0) ⊎ (2 ^ 52 ≤ q) → 2047 * 2 ^ 52 ≤ bits
      past (inl e) = absurd (omega arith)
      past (inr g) = omega arith
