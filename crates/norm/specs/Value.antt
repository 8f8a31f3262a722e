-- The rounded root as a binary64: it is one, its value, its size where it is finite, and its last bit at a tie. Assumes nothing.
use Rattle.std.specs.Prelude.{◌≡◌, ◌⊎◌, ◌+◌, ◌*◌, ◌%◌, ◌^◌, ◌≤◌, ◌<◌, ◌≢◌}
use Rattle.lists.specs.Prelude.{refl, sym, ap, ◌∙◌, subst, inl, inr, ⊎_map, false, ℕ, suc, le_trans, lt_of_not-le}
use Rattle.lists.specs.Prelude.{eq-or-lt_of_le, dec_le, arith, T, lit<, Float, nan, inf, fin, binary64, units, fits, of_bits, to_bits, le-ltb}
use Rattle.std.specs.Float.Ieee.Bits.{of_bits-fits}
use Rattle.std.specs.Float.Ieee.Digits.{Equals}
use Rattle.std.specs.Float.Ieee.Exact.{HasValue, units_val}
use Rattle.std.specs.Float.Ieee.Fits.{nearest-le, nan-fits, inf-fits}
use Rattle.std.specs.Float.Ieee.Nearest.{nearest-ge}
use Rattle.norm.specs.Norm.{norm, rounded_root, in_units}
use Rattle.norm.specs.Parts.{Rounded}
use Rattle.norm.specs.Encoding.{carried, in-units, bits-of-units, bits-of-step, bits-past-steps}
use Rattle.norm.specs.Nearest.{rounded_size, significand_of_root, digits_of, step_of, order_of, rounded-is, own-step, Representable, NoNearer, no_nearer, tie-is-even}

rounded : (n : ℕ) → Rounded (significand_of_root n) (step_of n)
rounded n = record {
  most = le_trans (nearest-le (digits_of n) (order_of n)) (own-step n).digits.small;
  full = ⊎_map (λ e. e) (λ h. le_trans h (nearest-ge (digits_of n) (order_of n))) (own-step n).digits.full;
}

-- the rounded size is a binary64's, also where a carry made 2^53 of the significand
pub rounded_representable : (n : ℕ) → Representable (rounded_size n)
rounded_representable n = go (eq-or-lt_of_le (rounded n).most)
  where
    m : ℕ
    m = significand_of_root n

    k : ℕ
    k = step_of n

    go : (m ≡ 2 ^ 53) ⊎ (m < 2 ^ 53) → Representable (rounded_size n)
    go (inl e) = record { digits = 2 ^ 52; step = suc k; short = lit< tt; value = carried m k e }
    go (inr h) = record { digits = m; step = k; short = h; value = refl }

-- what the size is as a value: itself below 2^1024, and infinity from there on
pub rounded-value : (n : ℕ) → rounded_size n < 2 ^ 2098 → HasValue (rounded_root n) false (rounded_size n) (2 ^ 1074)
rounded-value n h = rw (rounded-is n) (units_val binary64 false (significand_of_root n) (step_of n) h)

pub rounded-infinite : (n : ℕ) → 2 ^ 2098 ≤ rounded_size n → rounded_root n ≡ inf false
unfolding units
rounded-infinite n h = rounded-is n ∙ rw (le-ltb (rounded_size n) (2 ^ 2098) h)

-- it is a binary64, and so is every norm
rounded-fits : (n : ℕ) → T (fits binary64 (rounded_root n))
rounded-fits n = rw (rounded-is n) (go (dec_le 2046 k))
  where
    k : ℕ
    k = step_of n

    by_bits : (b : ℕ) → of_bits binary64 b ≡ units binary64 false (significand_of_root n) k → T (fits binary64 (units binary64 false (significand_of_root n) k))
    by_bits b e = rw e at (of_bits-fits binary64 b)

    go : Dec (2046 ≤ k) → T (fits binary64 (units binary64 false (significand_of_root n) k))
    go (yes h) = by_bits _ (bits-past-steps (rounded n) h).1
    go (no h) = by_bits _ (bits-of-step (rounded n) (lt_of_not-le h)).1

pub norm-fits : (x y : Float) → T (fits binary64 (norm x y))
unfolding norm
norm-fits nan nan = nan-fits binary64
norm-fits nan (inf t) = inf-fits binary64 false
norm-fits nan (fin t n d) = nan-fits binary64
norm-fits (inf s) y = inf-fits binary64 false
norm-fits (fin s m e) nan = nan-fits binary64
norm-fits (fin s m e) (inf t) = inf-fits binary64 false
norm-fits (fin s m e) (fin t n d) = rounded-fits (in_units m e ^ 2 + in_units n d ^ 2)

-- ---- a rounded root of w units

size_is : (n w : ℕ) → Equals (rounded_root n) w (2 ^ 1074) → (rounded_size n < 2 ^ 2098) × (w ≡ rounded_size n)
size_is n w h = (below, same (rounded_root n) h (rounded-value n below))
  where
    below : rounded_size n < 2 ^ 2098
    below = lt_of_not-le (λ (g : 2 ^ 2098 ≤ rounded_size n). subst (λ (x : Float). Equals x w (2 ^ 1074)) (rounded-infinite n g) h)

    same : (x : Float) → Equals x w (2 ^ 1074) → HasValue x false (rounded_size n) (2 ^ 1074) → w ≡ rounded_size n
    same nan h k = absurd h
    same (inf s) h k = absurd h
    same (fin s m e) h k = sym (in-units m e w h) ∙ in-units m e (rounded_size n) k.1

pub nearest-size : (n w c : ℕ) → Equals (rounded_root n) w (2 ^ 1074) → Representable c → NoNearer n w c
nearest-size n w c h r = rw (size_is n w h).1 (no_nearer n c r)

-- at a tie its last bit is 0
pub last_bit : (n w c : ℕ) → Equals (rounded_root n) w (2 ^ 1074) → Representable c → (c ≢ w) → 4 * n ≡ (w + c) * (w + c) → to_bits binary64 (rounded_root n) % 2 ≡ 0
last_bit n w c h r d t =
    let z = size_is n w h in
    let e : significand_of_root n % 2 ≡ 0 = tie-is-even n c r (λ (g : c ≡ rounded_size n). d (g ∙ sym z.1)) (rw z.1 at t) in
    ap (λ (x : Float). to_bits binary64 x % 2) (rounded-is n) ∙ ap (λ (b : ℕ). b % 2) (bits-of-units (rounded n) z.0) ∙ even (step_of n) (significand_of_root n) e
  where
    even : (k m : ℕ) → m % 2 ≡ 0 → (k * 2 ^ 52 + m) % 2 ≡ 0
    even k m e = omega arith
