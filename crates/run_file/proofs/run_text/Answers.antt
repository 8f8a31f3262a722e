-- `run_file::run_text` meets its contract: the lines after the first t times, and after all. Assumes nothing.
use Rattle.lists.specs.Prelude.{arith}
use Rattle.run_file.specs.Appended.{no_word, both_words, as_text}
use Rattle.run_file.specs.Lines.{no-times, time_more, all-times}
use Rattle.run_file.proofs.run_text.Goals as goal

pub loop-t-init : goal.loop-t-init
loop-t-init c = (omega arith, omega arith, as_text (no-times _ _ _) (no_word _ _))

pub loop-t-preserved : goal.loop-t-preserved
loop-t-preserved c =
    let i = c.loop-t.invariant in
    (omega arith, omega (arith, i.1, c.time_line.ensures.1), as_text (time_more _ _ _ c.loop-t.t c.particle_number.ensures) (both_words _ _ i.2 c.time_line.ensures.0))

pub returns : goal.returns
returns c = as_text (all-times _ _ _ c.loop-t.t c.loop-t.invariant.0 c.loop-t-test.false) (both_words _ _ c.run_line.ensures.0 c.loop-t.invariant.2)
