-- From 0 on, and 10 clears all four slices throughout.
use Rattle.lists.specs.Prelude.{sym, ap, ◌∙◌, eq-eqb, ne_eqb}
use Rattle.transient_run.specs.Calls.{Run, booked, transient_run}
use Rattle.transient_run.specs.Inputs.{given}
use Rattle.transient_run.proofs.Running.{Is, is-at, run-accepted, run_refused, run-ten}
use Rattle.transient_run.proofs.run.Goals as goal
use Rattle.transient_run.proofs.run.Goals.{in-Err+then-refusal-eq10, in-Err+else-refusal-eq10, in_default}

pub returns : goal.returns
returns c =
    let r : Run = (given c.args.inputs c.args.session c.args.desk c.args.retarded.now c.args.lesser.now c.args.kernel.now c.args.lesser_advanced.now) in
    let s = c.solve-answer in
    let m = c.match-answer in
    let o : Is (transient_run r) m.answer m.retarded m.lesser m.kernel m.lesser_advanced = elim m.branch [
      | in-Err+then-refusal-eq10 w ↦ is-at {o = transient_run r} (w.answer-is ∙ sym w.in-Err.is) w.retarded-is w.lesser-is w.kernel-is w.lesser_advanced-is
          (run-ten r s.ensures.made w.in-Err.is (eq-eqb _ 10 w.if-refusal-eq10.true)
          (w.clear.ensures, s.auto.retarded) (w.clear-then-refusal-eq10.ensures, s.auto.lesser)
          (w.clear-then-refusal-eq10-2.ensures, s.auto.kernel) (w.clear-then-refusal-eq10-3.ensures, s.auto.lesser_advanced))
      | in-Err+else-refusal-eq10 w ↦ is-at {o = transient_run r} (w.answer-is ∙ sym w.in-Err.is) w.retarded-is w.lesser-is w.kernel-is w.lesser_advanced-is
          (run_refused r s.ensures.made w.in-Err.is (ne_eqb _ 10 w.if-refusal-eq10.false))
      | in_default w ↦ is-at {o = transient_run r} w.answer-is w.retarded-is w.lesser-is w.kernel-is w.lesser_advanced-is (run-accepted r s.ensures.made w.in_default.is)
    ] in
    (c.booked.ensures.0 ∙ o.0, c.booked.ensures.1 ∙ ap (booked c.args.session c.args.desk) o.0, o.1, o.2, o.3, o.4)
