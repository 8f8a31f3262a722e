-- What the steps leave out of each square is less than a step.
use Rattle.lists.specs.Prelude.{arith}
use Rattle.std.specs.Int.Signed.{mag}
use Rattle.norm.specs.Squares.{even_power}
use Rattle.norm.proofs.Sixteen.{kept, passed}
use Rattle.norm.proofs.Middles.{covers}
use Rattle.norm.proofs.guess.summed.Goals as goal

pub returns : goal.returns
returns c =
    let more = c.longer-more in
    let gap = c.args.gap in (
      passed more.result more.ensures (omega arith) (omega arith),
      rw (
        c.in_ok-t.ensures.1,
        c.fourths.ensures,
        c.fourths-2.ensures,
        c.fourths-aligned.ensures,
        c.high_square-large.ensures,
        c.high_square-small.ensures,
        kept more.result more.ensures (omega arith),
        kept gap c.requires.2 (omega arith),
        even_power (mag more.result),
        even_power (mag gap),
      )
          (covers _ _ (mag gap) (mag more.result)),
    )
