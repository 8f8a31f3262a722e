-- `run_file::text::Text::time_line` meets its contract. Assumes nothing.
use Rattle.lists.specs.Prelude.{arith}
use Rattle.run_file.specs.Appended.{both_words, as_text}
use Rattle.run_file.specs.Lines.{number-words, not-real-words, not-observed-words}
use Rattle.run_file.proofs.text.Text.time_line.Goals as goal

pub returns-in-Number : goal.returns-in-Number
returns-in-Number c = (
  as_text (number-words _ _ _ c.in-Number.is c.to_bits.ensures)
      (both_words _ _ (both_words _ _ (both_words _ _ (both_words _ _ c.decimal.ensures.0 c.letter.ensures.0) c.letters.ensures.0) c.hexadecimal.ensures.0) c.letter-in-Number.ensures.0),
  omega (arith, c.decimal.ensures.1, c.letter.ensures.1, c.letters.ensures.1, c.hexadecimal.ensures.1, c.letter-in-Number.ensures.1),
)

pub returns-in-NotReal : goal.returns-in-NotReal
returns-in-NotReal c = (
  as_text (not-real-words _ _ c.in-NotReal.is) (both_words _ _ (both_words _ _ c.decimal.ensures.0 c.letter.ensures.0) c.refused_line.ensures.0),
  omega (arith, c.decimal.ensures.1, c.letter.ensures.1, c.refused_line.ensures.1),
)

pub returns-in-Refused : goal.returns-in-Refused
returns-in-Refused c = (
  as_text (not-observed-words _ _ c.in-Refused.is) (both_words _ _ (both_words _ _ c.decimal.ensures.0 c.letter.ensures.0) c.refused_line-in-Refused.ensures.0),
  omega (arith, c.decimal.ensures.1, c.letter.ensures.1, c.refused_line-in-Refused.ensures.1),
)
