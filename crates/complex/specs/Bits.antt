-- Where the language's `to_bits` and `from_bits` are defined. Assumes nothing.
use Rattle.std.specs.Prelude.{◌≡◌, ◌*◌, ◌%◌, ◌^◌, ◌≤◌}
use Rattle.lists.specs.Prelude.{sym, ◌∙◌, subst, Bool, false, not, true≢false, ℕ, T, le→nltb, Float, nan, inf, fin, binary64, ne, is_nan, nan_bits}
use Rattle.std.specs.Float.Ieee.Bits.{nan_bits_above}
use Rattle.std.specs.Float.Ieee.Compare.{nan_differs}

-- a value that equals itself is no NaN
pub equals_itself : (x : Float) → ne x x ≡ false → T (not (is_nan x))
unfolding is_nan
equals_itself nan e = absurd (true≢false (sym nan_differs ∙ e))
equals_itself (inf s) e = tt
equals_itself (fin s m e) f = tt

-- bits that are at most infinity's, without the sign, are no NaN's
pub at-most-infinity : (b : ℕ) → b % 2 ^ 63 ≤ 2047 * 2 ^ 52 → T (not (nan_bits binary64 b))
at-most-infinity b h = subst (λ (x : Bool). T (not x)) (sym (nan_bits_above binary64 b)) (le→nltb (2047 * 2 ^ 52) (b % 2 ^ 63) h)
