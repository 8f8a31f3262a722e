-- `run_file::text::Text::letters` meets its contract. Assumes nothing.
use Rattle.lists.specs.Prelude.{refl, arith}
use Rattle.run_file.specs.Appended.{one_word}
use Rattle.run_file.proofs.text.Text.letters.Goals as goal

pub returns : goal.returns
returns c = (one_word _ _ _ _ c.copy_from_slice.ensures.after (omega arith), refl)
