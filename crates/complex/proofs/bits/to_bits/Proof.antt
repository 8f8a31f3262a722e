-- `complex::bits::to_bits` meets its contract: only a NaN differs from itself. Assumes nothing.
use Rattle.std.specs.Prelude.{◌≡◌}
use Rattle.lists.specs.Prelude.{refl, sym, ap, subst, T, Float, nan, binary64, to_bits}
use lib.Ieee.Compare.{differs_from_itself}
use Rattle.complex.specs.Bits.{equals_itself}
use Rattle.complex.proofs.bits.to_bits.Statement.{statement}
use Rattle.complex.proofs.bits.to_bits.Tie as tie

quiet : (x : Float) → x ≡ nan → 0x7ff8_0000_0000_0000 ≡ to_bits binary64 x
unfolding to_bits
quiet x e = ap (to_bits binary64) (sym e)

pub to_bits_spec : {M : Type 1} → statement M
to_bits_spec =
    tie.close
    (tie.spec
    (λ c. quiet c.before.args.x (differs_from_itself c.before.args.x (subst T (sym c.if-x.true) tt)))  -- returns-then-x
    (λ c. equals_itself c.before.args.x c.if-x.false)  -- float_to_bits-result
    (λ c. refl))  -- returns-2
