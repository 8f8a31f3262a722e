-- What is returned has passed the check.
use Rattle.std.specs.Prelude.{◌+◌}
use Rattle.lists.specs.Prelude.{arith}
use Rattle.norm.proofs.Middles.{passes}
use Rattle.norm.proofs.guess.settled.Goals as goal

pub returns : goal.returns
returns c =
    let a = c.args in
    let rest = c.in_ok-rest.ensures in
    passes a.m (c.one_if.result + c.one_if-2.result) a.t (omega (arith, c.requires.0)) (omega (arith, c.one_if.ensures, c.one_if-2.ensures))
    (rw (← c.high_square.ensures) (omega (arith, rest.0, rest.1, c.if-rest-below.false)))
    (rw (← c.high_square.ensures) (omega (arith, rest.0, rest.1, c.if-rest-below-2.false, c.requires.0)))
