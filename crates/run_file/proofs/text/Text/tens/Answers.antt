-- `run_file::text::Text::tens` meets its contract. Assumes nothing.
use Rattle.lists.specs.Prelude.{arith}
use Rattle.run_file.specs.Digits.{one_digit, last_digit}
use Rattle.run_file.proofs.text.Text.tens.Goals as goal

pub returns-then-n-lt10 : goal.returns-then-n-lt10
returns-then-n-lt10 c = (one_digit _ c.if-n-lt10.true c.letter.ensures.0, omega (arith, c.letter.ensures.1))

pub returns : goal.returns
returns c =
    (last_digit _ c.if-n-lt10.false (one_digit _ (omega arith) c.letter-2.ensures.0) c.letter-3.ensures.0, omega (arith, c.letter-2.ensures.1, c.letter-3.ensures.1))
