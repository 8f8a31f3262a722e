-- A number from its bits without the sign: its size, and no NaN. Assumes nothing.
use Rattle.std.specs.Prelude.{◌≡◌, ◌*◌, ◌^◌, ◌≤◌}
use Rattle.lists.specs.Prelude.{refl, sym, ap, ◌∙◌, Bool, true, false, not, ℕ, zero, suc, le_trans, lt_of_not-le, mod-le, dec_le, ℤ, T, Float, nan}
use Rattle.lists.specs.Prelude.{inf, fin, binary64, ne, fits, nan_bits, of_bits, to_bits}
use lib.Ieee.Bits.{of_bits-to_bits}
use lib.Ieee.Compare.{nan_differs}
use Rattle.lists.specs.Agreement.{never}
use Rattle.complex.specs.Arithmetic.{size}
use Rattle.norm.specs.Parts.{unsigned, units_of}
use Rattle.norm.specs.Encoding.{own-digits, bits_at}
use Rattle.norm.specs.Sizes.{placed, finite-size, nan-by_bits}
use Rattle.complex.specs.Bits.{at-most-infinity}

-- a format holds a number whatever its sign
held-unsigned : (s : Bool) (m : ℕ) (e : ℤ) → T (fits binary64 (fin s m e)) → T (fits binary64 (fin false m e))
unfolding fits
held-unsigned s zero e f = f
held-unsigned s (suc m) e f = f

pub size_of_bits : (x : Float) → T (fits binary64 x) → of_bits binary64 (unsigned x) ≡ size x
unfolding size to_bits of_bits units_of
size_of_bits nan f = refl
size_of_bits (inf true) f = refl
size_of_bits (inf false) f = refl
size_of_bits (fin s m e) f =
    let p = placed (unsigned (fin s m e)) in
    let own = own-digits p.digits in
    ap (λ (b : ℕ). of_bits binary64 b) (sym p.bits ∙ sym (bits_at _ _ _ m e (finite-size s m e f).1 own.0 own.1))
    ∙ of_bits-to_bits binary64 (fin false m e) (held-unsigned s m e f)

-- the bits of a number are at most infinity's
pub number-bits : (x : Float) → T (fits binary64 x) → ne x x ≡ false → unsigned x ≤ 2047 * 2 ^ 52
number-bits x f n = go (dec_le (unsigned x) (2047 * 2 ^ 52))
  where
    go : Dec (unsigned x ≤ 2047 * 2 ^ 52) → unsigned x ≤ 2047 * 2 ^ 52
    go (yes h) = h
    go (no h) = never (sym n ∙ ap (λ (y : Float). ne y y) (nan-by_bits x f (lt_of_not-le h)) ∙ nan_differs)

pub bits_of_number : (x : Float) → T (fits binary64 x) → ne x x ≡ false → T (not (nan_bits binary64 (unsigned x)))
bits_of_number x f n = at-most-infinity (unsigned x) (le_trans (mod-le (unsigned x) (2 ^ 63)) (number-bits x f n))
