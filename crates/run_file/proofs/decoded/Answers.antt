-- `run_file::decoded` meets its contract: what it decodes and solves is the file's run, in buffers that hold +0. Assumes nothing.
use Rattle.std.specs.Prelude.{◌+◌, ◌*◌}
use Rattle.lists.specs.Prelude.{refl, ap, ℕ}
use Rattle.run_file.specs.LittleEndian.{same_numbers}
use Rattle.run_file.specs.Program.{run_answer}
use Rattle.run_file.specs.FileRun.{decoded-run, part-zero}
use Rattle.run_file.specs.Appended.{as_text}
use Rattle.run_file.proofs.decoded.Goals as goal

pub returns : goal.returns
returns c =
    let long = c.requires.times_len in
    let each = c.body_length-each.ensures in
    let starts : ℕ → ℕ = λ e. 40 + 8 * c.args.points + e in
    as_text
    (ap run_answer (decoded-run c.requires.file_sizes c.«open».ensures (same_numbers _ c.numbers.ensures refl long.0) (same_numbers _ c.numbers-2.ensures refl long.1)
    (same_numbers _ c.numbers-3.ensures (ap (λ (e : ℕ). starts (8 * e)) each.0) long.2) (same_numbers _ c.numbers-4.ensures (ap (λ (e : ℕ). starts (16 * e)) each.0) long.3)
    (part-zero 512 each)))
    c.solve.ensures
