-- All digits but the leading zeros.
use Rattle.lists.specs.Prelude.{refl, arith}
use Rattle.std.specs.Int.Count.{count_leading_zeros}
use lib.Count.{leading_le}
use Rattle.norm.proofs.Sixteen.{bits_say, up_to, minus}
use Rattle.norm.proofs.Exponents.{digits_long}
use Rattle.norm.proofs.exponent.digits.Goals as goal

pub returns : goal.returns
returns c =
    let x = c.args.x in
    let l = leading_le 128 x in
    let m = (minus _ _ 128 (count_leading_zeros 128 x) refl (bits_say _ (omega (arith, l))) l (omega arith)).1 in
    (up_to _ m (omega arith), rw m (digits_long x c.ranges.x.fits))
