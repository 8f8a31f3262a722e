-- `run_file::text::Text::decimal` meets its contract. Assumes nothing.
use Rattle.lists.specs.Prelude.{arith}
use Rattle.run_file.specs.Digits.{last_digit}
use Rattle.run_file.proofs.text.Text.decimal.Goals as goal

pub returns : goal.returns
returns c = (last_digit _ (omega (arith, c.if-n-lt100.false)) c.tens-2.ensures.0 c.letter.ensures.0, omega (arith, c.tens-2.ensures.1, c.letter.ensures.1))
