-- `run_file::text::Text::letter` meets its contract. Assumes nothing.
use Rattle.lists.specs.Prelude.{refl, arith}
use Rattle.run_file.specs.Appended.{one_byte}
use Rattle.run_file.proofs.text.Text.letter.Goals as goal

pub returns : goal.returns
returns c = (one_byte _ _ _ (omega arith), refl)
