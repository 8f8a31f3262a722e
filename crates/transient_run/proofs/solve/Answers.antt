-- Refused, accepted, or 10 with the new places of all four slices cleared.
use Rattle.std.proofs.Common.{rules, ◌≡◌, ℕ, not}
use Rattle.lists.specs.Prelude.{sym, ap, ◌∙◌}
use Rattle.std.specs.Prelude.{Result}
use Rattle.std.specs.Result.{result_unwrap_or}
use Rattle.refusal.specs.declared.Refusal.{Refusal}
use Rattle.transient_run.specs.Products.{formed}
use Rattle.transient_run.specs.Inputs.{given}
use Rattle.transient_run.proofs.Solving.{refused_end, work-asks, points-most, count-room, finite_end, overflow_end}
use Rattle.transient_run.proofs.solve.Goals as goal

pub returns-in_err-checks-clause-made : goal.returns-in_err-checks-clause-made
returns-in_err-checks-clause-made c =
    refused_end c.args.old (given c.args.inputs c.args.session c.args.desk c.args.retarded.now c.args.lesser.now c.args.kernel.now c.args.lesser_advanced.now) c.requires
    (c.checks.ensures c.args.retarded.now c.args.lesser.now c.args.kernel.now c.args.lesser_advanced.now c.all_fit-fits.ensures) (search rules) c.in_err-checks.was

pub work-requires : goal.work-requires
work-requires c =
    work-asks c.args.old (given c.args.inputs c.args.session c.args.desk c.args.retarded.now c.args.lesser.now c.args.kernel.now c.args.lesser_advanced.now) c.requires
    (c.checks.ensures c.args.retarded.now c.args.lesser.now c.args.kernel.now c.args.lesser_advanced.now c.all_fit-fits.ensures) c.in_ok-checks.was

pub returns-then-is_err-clause-made : goal.returns-then-is_err-clause-made
returns-then-is_err-clause-made c =
    let kept = c.work.auto in
    overflow_end c.args.old (given c.args.inputs c.args.session c.args.desk c.args.retarded.now c.args.lesser.now c.args.kernel.now c.args.lesser_advanced.now) c.requires
    (c.checks.ensures c.args.retarded.now c.args.lesser.now c.args.kernel.now c.args.lesser_advanced.now c.all_fit-fits.ensures) c.in_ok-checks.was (c.work.ensures c.args.session c.args.desk)
    (c.is_err.ensures.negation ∙ ap not c.if-is_err.true) (search rules) kept.retarded kept.lesser kept.kernel kept.lesser_advanced
    c.clear_new.ensures c.clear_new-then-is_err.ensures c.clear_new-then-is_err-2.ensures c.clear_new-then-is_err-3.ensures

pub formed-requires : goal.formed-requires
formed-requires c = (
  c.start_products-start.ensures.1,
  c.requires,
  points-most c.args.old (given c.args.inputs c.args.session c.args.desk c.args.retarded.now c.args.lesser.now c.args.kernel.now c.args.lesser_advanced.now) c.requires
      (c.checks.ensures c.args.retarded.now c.args.lesser.now c.args.kernel.now c.args.lesser_advanced.now c.all_fit-fits.ensures) c.in_ok-checks.was,
)

pub returns : goal.returns
returns c =
    let v = (c.checks.ensures c.args.retarded.now c.args.lesser.now c.args.kernel.now c.args.lesser_advanced.now c.all_fit-fits.ensures) in
    let x = c.args.inputs in
    let count = c.formed.ensures ∙ ap (λ (k : ℕ). formed k c.args.old x.shape.points) (c.start_products-start.ensures.0 x.initial.rows x.initial.columns x.g0.now) in
    record {
      made = finite_end c.args.old (given c.args.inputs c.args.session c.args.desk c.args.retarded.now c.args.lesser.now c.args.kernel.now c.args.lesser_advanced.now) c.requires v c.in_ok-checks.was
          (c.work.ensures c.args.session c.args.desk) (c.is_err.ensures.negation ∙ ap not c.if-is_err.false) count;
      room = λ n e. count-room c.args.old (given c.args.inputs c.args.session c.args.desk c.args.retarded.now c.args.lesser.now c.args.kernel.now c.args.lesser_advanced.now) c.requires v c.in_ok-checks.was (sym (ap (λ (a : Result ℕ Refusal). result_unwrap_or a 0) e) ∙ count);
    }
