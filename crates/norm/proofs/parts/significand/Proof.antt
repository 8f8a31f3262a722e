-- `norm::parts::significand` meets its contract. Assumes nothing.
use Rattle.lists.specs.Prelude.{sym, arith}
use Rattle.norm.specs.Sizes.{significand_small, significand_large}
use Rattle.norm.proofs.parts.significand.Statement.{statement}
use Rattle.norm.proofs.parts.significand.Tie as tie

pub significand_spec : {M : Type 1} → statement M
significand_spec =
    tie.close
    (tie.spec (λ c. omega arith) (λ c. sym (significand_small c.before.args.a c.if-a-lt4503599627370496.true)) (λ c. sym (significand_large c.before.args.a c.if-a-lt4503599627370496.false)))
