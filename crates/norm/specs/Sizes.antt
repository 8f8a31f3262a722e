-- Sizes: what a part's bits without the sign say of it. Infinity's pattern is the border: a NaN's are above it, and below it
-- stand the finite numbers, whose size is the significand times a power of two. Assumes nothing.
use Rattle.std.specs.Prelude.{◌≡◌, ◌+◌, ◌*◌, ◌/◌, ◌%◌, ◌^◌, ◌≤◌, ◌<◌, ◌≢◌}
use Rattle.lists.specs.Prelude.{refl, sym, ap, ap₂, ◌∙◌, subst, inl, inr, Bool, true, false, cond, ℕ, zero, suc, lt_of_not-le}
use Rattle.lists.specs.Prelude.{mod-lt, dec_le, arith, ℤ, T, leb, eqb, pow_pos, Float, nan, inf, fin, binary64, odd, up, down, fits, of_fields, of_bits, to_bits, lt-ltb}
use Rattle.lists.specs.Prelude.{le-ltb}
use Rattle.std.specs.Float.Ieee as Ieee
use Rattle.std.specs.Float.Ieee.Digits.{Equals, odd_val}
use Rattle.std.specs.Float.Ieee.Fits.{eq→eqb}
use Rattle.std.specs.Float.Ieee.Bits.{of_bits-to_bits}
use Rattle.norm.specs.Norm.{in_units}
use Rattle.norm.specs.Parts.{unsigned, significand_of, shift_of, units_of, Significand}
use Rattle.norm.specs.Encoding.{in-units, unrounded, finite-bits}

-- ---- the significand and the shift of bits a

pub significand_small : (a : ℕ) → a < 2 ^ 52 → significand_of a ≡ a
unfolding significand_of
significand_small a h = rw (lt-ltb a (2 ^ 52) h)

pub significand_large : (a : ℕ) → 2 ^ 52 ≤ a → significand_of a ≡ 2 ^ 52 + a % 2 ^ 52
unfolding significand_of
significand_large a h = rw (le-ltb a (2 ^ 52) h)

-- a significand at its step, and the bits from the two
pub record Placed (a : ℕ) : Type 0 where
  pub digits : Significand (significand_of a) (shift_of a)
  pub bits : shift_of a * 2 ^ 52 + significand_of a ≡ a

pub placed : (a : ℕ) → Placed a
placed a = go (dec_le (2 ^ 52) a)
  where
    go : Dec (2 ^ 52 ≤ a) → Placed a
    go (yes h) = let e = significand_large a h in record { digits = record { small = omega arith; full = inr (omega arith) }; bits = omega arith }
    go (no h) = let e = significand_small a (lt_of_not-le h) in record { digits = record { small = omega arith; full = inl (omega arith) }; bits = omega arith }

-- finite bits stand for the significand's multiple of its step
pub by-step : (a : ℕ) → a < 2047 * 2 ^ 52 → of_bits binary64 a ≡ Ieee.units binary64 false (significand_of a) (shift_of a)
by-step a h = let p = placed a in ap (λ (b : ℕ). of_bits binary64 b) (sym p.bits) ∙ finite-bits (unrounded p.digits) (omega arith)

pub shift_mono : (a b : ℕ) → b ≤ a → shift_of b ≤ shift_of a
shift_mono a b h = omega arith

pub shift_le : (a : ℕ) → a < 2047 * 2 ^ 52 → shift_of a ≤ 2045
shift_le a h = omega arith

-- ---- a value by its bits

-- the bits a of m·2^e, which is a whole number of units
abbrev pub Finite : ℕ → ℕ → ℤ → Type 0
Finite a m e = (a < 2047 * 2 ^ 52) × (in_units m e ≡ units_of a) × (m * up e * 2 ^ 1074 ≡ units_of a * down e)

-- from what `odd` makes of the digits q and the step k
sized : (a : ℕ) (s : Bool) (q k : ℕ) (t : Bool) (m : ℕ) (e : ℤ) → odd 53 s q k 1074 ≡ fin t m e → a < 2047 * 2 ^ 52 → q ≡ significand_of a → k ≡ shift_of a → Finite a m e
unfolding units_of
sized a s q k t m e p h f g =
    let v : m * up e * 2 ^ 1074 ≡ units_of a * down e = subst (λ (x : Float). Equals x (q * 2 ^ k) (2 ^ 1074)) p (odd_val 53 s q k 1074) ∙ ap₂ (λ (x y : ℕ). x * 2 ^ y * down e) f g in
    (h, in-units m e (units_of a) v, v)

no_number : (w s : Bool) (t : Bool) (m : ℕ) (e : ℤ) → cond w (inf s) nan ≢ fin t m e
no_number true s t m e p = let z : ◌≡◌ {A = ℕ} 0 1 = cc in omega arith
no_number false s t m e p = let z : ◌≡◌ {A = ℕ} 0 1 = cc in omega arith

fields : (s : Bool) (b : ℕ) (t : Bool) (m : ℕ) (e : ℤ) (x : ℕ) → b % 2 ^ 63 / 2 ^ 52 ≡ x → of_fields binary64 s x (b % 2 ^ 52) ≡ fin t m e → Finite (b % 2 ^ 63) m e
unfolding of_fields
fields s b t m e zero f p =
    let h : b % 2 ^ 63 < 2 ^ 52 = omega arith in
    sized (b % 2 ^ 63) s (b % 2 ^ 52) 0 t m e p (omega arith) (omega (arith, significand_small (b % 2 ^ 63) h)) (omega arith)
fields s b t m e (suc x) f p = go (eqb (suc x) 2047) (λ q. eq→eqb q) p
  where
    go : (w : Bool) → (suc x ≡ 2047 → T w) → cond w (cond (eqb (b % 2 ^ 52) 0) (inf s) nan) (odd 53 s (2 ^ 52 + b % 2 ^ 52) x 1074) ≡ fin t m e → Finite (b % 2 ^ 63) m e
    go true w p = absurd (no_number (eqb (b % 2 ^ 52) 0) s t m e p)
    go false w p =
        let h : 2 ^ 52 ≤ b % 2 ^ 63 = omega arith in
        sized (b % 2 ^ 63) s (2 ^ 52 + b % 2 ^ 52) x t m e p (omega (arith, w, mod-lt b (pow_pos 63))) (omega (arith, significand_large (b % 2 ^ 63) h)) (omega arith)

read : (b : ℕ) → of_bits binary64 b ≡ of_fields binary64 (leb (2 ^ 63) b) (b % 2 ^ 63 / 2 ^ 52) (b % 2 ^ 52)
unfolding of_bits
read b = refl

pub finite-size : (s : Bool) (m : ℕ) (e : ℤ) → T (fits binary64 (fin s m e)) → Finite (unsigned (fin s m e)) m e
finite-size s m e f =
    let b = to_bits binary64 (fin s m e) in
    fields (leb (2 ^ 63) b) b s m e (b % 2 ^ 63 / 2 ^ 52) refl (sym (read b) ∙ of_bits-to_bits binary64 (fin s m e) f)

-- every finite binary64 is a whole number of units
pub exact_units : (s : Bool) (m : ℕ) (e : ℤ) → T (fits binary64 (fin s m e)) → Equals (fin s m e) (in_units m e) (2 ^ 1074)
exact_units s m e f = let w = finite-size s m e f in w.2 ∙ ap (λ (a : ℕ). a * down e) (sym w.1)

-- bits below infinity's are a finite number's
pub size-by_bits : (x : Float) → T (fits binary64 x) → unsigned x < 2047 * 2 ^ 52 → Equals x (units_of (unsigned x)) (2 ^ 1074)
unfolding to_bits
size-by_bits nan f h = absurd (let z : 0x7ff8_0000_0000_0000 < 2047 * 2 ^ 52 = h in omega arith)
size-by_bits (inf true) f h = absurd (let z : 2047 * 2 ^ 52 < 2047 * 2 ^ 52 = h in omega arith)
size-by_bits (inf false) f h = absurd (let z : 2047 * 2 ^ 52 < 2047 * 2 ^ 52 = h in omega arith)
size-by_bits (fin s m e) f h = (finite-size s m e f).2

-- infinity's are an infinity's, and those above a NaN's
pub infinite-by_bits : (x : Float) → T (fits binary64 x) → unsigned x ≡ 2047 * 2 ^ 52 → (s : Bool) × (x ≡ inf s)
unfolding to_bits
infinite-by_bits nan f h = absurd (let z : 0x7ff8_0000_0000_0000 ≡ 2047 * 2 ^ 52 = h in omega arith)
infinite-by_bits (inf s) f h = (s, refl)
infinite-by_bits (fin s m e) f h = absurd (omega (arith, h, (finite-size s m e f).0))

pub nan-by_bits : (x : Float) → T (fits binary64 x) → 2047 * 2 ^ 52 < unsigned x → x ≡ nan
unfolding to_bits
nan-by_bits nan f h = refl
nan-by_bits (inf true) f h = absurd (let z : 2047 * 2 ^ 52 < 2047 * 2 ^ 52 = h in omega arith)
nan-by_bits (inf false) f h = absurd (let z : 2047 * 2 ^ 52 < 2047 * 2 ^ 52 = h in omega arith)
nan-by_bits (fin s m e) f h = absurd (omega (arith, h, (finite-size s m e f).0))
