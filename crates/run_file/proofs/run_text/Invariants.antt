-- After t steps the lines of the first t times are written.
use Rattle.std.specs.Prelude.{◌+◌, ◌*◌, ◌≤◌}
use Rattle.run_file.specs.Appended.{Appended}
use Rattle.run_file.specs.Lines.{times_text}
use Rattle.run_file.proofs.run_text.Given as goal

abbrev pub invariant-loop-t : goal.invariant-loop-t
invariant-loop-t l =
    (l.t ≤ l.points) × (l.text.length ≤ l.initial.text.length + 28 * l.t)
    × Appended l.initial.text.bytes l.text.bytes l.initial.text.length l.text.length (times_text l.points l.orbitals l.lesser l.t)
