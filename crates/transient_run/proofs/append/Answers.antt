-- The points, cut at 256, and one more.
use Rattle.lists.specs.Prelude.{ap, ◌∙◌}
use Rattle.transient_run.specs.Calls.{booked}
use Rattle.transient_run.specs.Inputs.{given}
use Rattle.transient_run.specs.Past.{append-cut}
use Rattle.transient_run.proofs.Running.{is-also}
use Rattle.transient_run.proofs.append.Goals as goal

pub returns : goal.returns
returns c =
    let o = is-also (append-cut (given c.args.inputs c.args.session c.args.desk c.args.retarded.now c.args.lesser.now c.args.kernel.now c.args.lesser_advanced.now) c.min-old.result c.min-old.ensures) c.solve-answer.ensures.made in
    (c.booked.ensures.0 ∙ o.0, c.booked.ensures.1 ∙ ap (booked c.args.session c.args.desk) o.0, o.1, o.2, o.3, o.4)
