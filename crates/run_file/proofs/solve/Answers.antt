-- `run_file::solve` meets its contract: the text is that of the run's answer. Assumes nothing.
use Rattle.run_file.specs.FileRun.{answer-printed}
use Rattle.run_file.specs.Appended.{as_text}
use Rattle.run_file.proofs.solve.Goals as goal

pub returns : goal.returns
returns c = let made = c.transient_run-booked.ensures in as_text (answer-printed _ made.0 made.3) c.answer_text.ensures
