-- `run_file::text::Text::run_line` meets its contract. Assumes nothing.
use Rattle.lists.specs.Prelude.{arith}
use Rattle.run_file.specs.Appended.{both_words, as_text}
use Rattle.run_file.specs.Lines.{run-words}
use Rattle.run_file.proofs.text.Text.run_line.Goals as goal

pub returns : goal.returns
returns c = (
  as_text (run-words _ _)
      (both_words _ _ (both_words _ _ (both_words _ _ (both_words _ _ c.letters.ensures.0 c.decimal.ensures.0) c.letter.ensures.0) c.decimal-2.ensures.0) c.letter-2.ensures.0),
  omega (arith, c.letters.ensures.1, c.decimal.ensures.1, c.letter.ensures.1, c.decimal-2.ensures.1, c.letter-2.ensures.1),
)
