-- `norm::exponent::missing` meets its contract, by the leading zeros (`Exponents`). Assumes nothing.
use Rattle.std.specs.Prelude.{◌-◌}
use Rattle.lists.specs.Prelude.{refl, arith, pos}
use lib.Count.{count_leading_zeros, leading_le}
use Rattle.std.proofs.Common.{◌-ℤ◌}
use Rattle.norm.proofs.Sixteen.{held, held-is, up_to, Made, minus}
use Rattle.norm.proofs.Exponents.{raised_significand}
use Rattle.norm.proofs.exponent.missing.Statement.{statement}
use Rattle.norm.proofs.exponent.missing.Tie as tie

made : (c : tie.After-zeros) → Made (held c.zeros.result -ℤ pos 11) (count_leading_zeros 64 c.before.args.q - 11)
made c =
    let s = c.before in
    let few = leading_le 64 s.args.q in
    minus _ _ _ 11 (held-is _ c.zeros.ensures (omega (arith, few))) refl (raised_significand s.args.q s.requires.0 s.requires.1).0 (omega (arith, few))

pub missing_spec : {M : Type 1} → statement M
missing_spec =
    tie.close (tie.spec
    (λ c κs. tt) (λ c. (made c).0)
    (λ c. let r = raised_significand c.before.args.q c.before.requires.0 c.before.requires.1 in let m = (made c).1 in (up_to _ m r.2, rw m r.1, rw m r.3)))
