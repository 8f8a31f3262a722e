-- What the run and the appends so far answered and left.
use Rattle.std.specs.Prelude.{◌≡◌, ◌-◌}
use Rattle.two_runs.specs.Promises.{run_with, run_step, step_in}
use Rattle.two_runs.specs.Appending.{over, appends}
use Rattle.two_runs.proofs.run_then_append.Given as goal

abbrev pub invariant-loop-points : goal.invariant-loop-points
invariant-loop-points l =
    let r = run_with l.fn.given l.fn.retarded l.fn.lesser l.fn.kernel l.fn.lesser_advanced in
    step_in l.booked l.retarded l.lesser l.kernel l.lesser_advanced ≡ appends r l.start (run_step (over r l.start)) (l.points - l.start)
