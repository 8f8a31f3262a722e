-- `norm::magnitude` meets its contract: only a NaN differs from itself. Assumes nothing.
use Rattle.std.specs.Prelude.{◌≡◌, ◌%◌, ◌^◌}
use Rattle.lists.specs.Prelude.{refl, sym, ap, subst, T, Float, nan, binary64, to_bits}
use lib.Ieee.Compare.{differs_from_itself}
use Rattle.complex.specs.Bits.{equals_itself}
use Rattle.norm.proofs.magnitude.Statement.{statement}
use Rattle.norm.proofs.magnitude.Tie as tie

quiet : (x : Float) → x ≡ nan → 0x7ff8_0000_0000_0000 ≡ to_bits binary64 x % 2 ^ 63
unfolding to_bits
quiet x e = ap (λ (y : Float). to_bits binary64 y % 2 ^ 63) (sym e)

returns : tie.Need-returns-then-x
returns c = quiet c.before.args.x (differs_from_itself c.before.args.x (subst T (sym c.if-x.true) tt))

float_to_bits_result : tie.Need-float_to_bits-result
float_to_bits_result c = equals_itself c.before.args.x c.if-x.false

pub magnitude_spec : {M : Type 1} → statement M
magnitude_spec = tie.close (tie.spec returns float_to_bits_result (λ c. refl))
