-- A text that is whole fits, and stands over the start of the array.
use Rattle.lists.specs.Prelude.{refl}
use Rattle.run_file.specs.FileRun.{text-printed}
use Rattle.run_file.proofs.print.Goals as goal

pub returns : goal.returns
returns c = text-printed c.args.bytes.now refl c.answer.ensures
