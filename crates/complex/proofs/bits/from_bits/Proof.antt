-- `complex::bits::from_bits` meets its contract: above infinity's pattern stand the NaNs', and what reaches `from_bits` is none of
-- them. Assumes nothing.
use Rattle.std.specs.Prelude.{◌≡◌, ◌<◌, ◌*◌, ◌%◌, ◌^◌}
use Rattle.lists.specs.Prelude.{refl, sym, ◌∙◌, subst, Bool, ℕ, T, lt→ltb, Float, nan, inf, fin, binary64, is_nan, of_bits, rules}
use lib.Ieee as Ieee
use lib.Ieee.Bits.{nan_bits_above, nan_bits_is}
use Rattle.complex.specs.Bits.{at-most-infinity}
use Rattle.complex.proofs.bits.from_bits.Statement.{statement}
use Rattle.complex.proofs.bits.from_bits.Tie as tie

one-nan : (x : Float) → T (is_nan x) → x ≡ nan
unfolding is_nan
one-nan nan h = refl
one-nan (inf s) h = absurd h
one-nan (fin s m e) h = absurd h

above-infinity : (b : ℕ) → 2047 * 2 ^ 52 < b % 2 ^ 63 → of_bits binary64 b ≡ nan
above-infinity b h =
    one-nan (of_bits binary64 b) (subst (λ (x : Bool). T x) (sym (nan_bits_above binary64 b) ∙ nan_bits_is binary64 b) (lt→ltb (2047 * 2 ^ 52) (b % 2 ^ 63) h))

no_number : Ieee.div binary64 (of_bits binary64 0) (of_bits binary64 0) ≡ nan
unfolding Ieee.div of_bits
no_number = refl

pub from_bits_spec : {M : Type 1} → statement M
from_bits_spec =
    tie.close
    (tie.spec
    (λ c. no_number ∙ sym (above-infinity c.before.args.bits c.if-bits-gt9218868437227405312.true))  -- returns-then-bits-gt9218868437227405312
    (λ c. at-most-infinity c.before.args.bits c.if-bits-gt9218868437227405312.false)  -- float_from_bits-result
    (λ c. search rules))  -- returns-2
