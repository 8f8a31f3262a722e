-- At the first that is not finite the work ends.
use Rattle.std.specs.Prelude.{is_ok}
use Rattle.std.proofs.lemmas.Result.{err_from_is_err_and}
use Rattle.lists.specs.Prelude.{ap}
use Rattle.transient_run.specs.Inputs.{given}
use Rattle.transient_run.proofs.Working.{retarded_lost, lesser_advanced_lost, all-said}
use Rattle.transient_run.proofs.work.Goals as goal

pub returns-in_err-solve_new : goal.returns-in_err-solve_new
returns-in_err-solve_new c session desk =
    let p = err_from_is_err_and c.from_residual.result c.from_residual.ensures.1 in
    retarded_lost c.args.old (given c.args.inputs session desk c.args.retarded.now c.args.lesser.now c.args.kernel.now c.args.lesser_advanced.now) c.requires _ _ _ c.solve_new.ensures
    c.in_err-solve_new.was (ap is_ok p.1)

pub returns-in_err-new_sums : goal.returns-in_err-new_sums
returns-in_err-new_sums c session desk =
    let p = err_from_is_err_and c.from_residual-in_err-new_sums.result c.from_residual-in_err-new_sums.ensures.1 in
    lesser_advanced_lost c.args.old (given c.args.inputs session desk c.args.retarded.now c.args.lesser.now c.args.kernel.now c.args.lesser_advanced.now) c.requires _ _ _ c.solve_new.ensures
    c.in_ok-solve_new.was c.solve_new.auto.retarded _ _ c.new_sums.ensures c.in_err-new_sums.was (ap is_ok p.1)

pub returns : goal.returns
returns c session desk =
    all-said c.args.old (given c.args.inputs session desk c.args.retarded.now c.args.lesser.now c.args.kernel.now c.args.lesser_advanced.now) c.requires _ _ _ c.solve_new.ensures
    c.in_ok-solve_new.was c.solve_new.auto.retarded _ _ c.new_sums.ensures c.in_ok-new_sums.was c.new_sums.auto.out _ _ c.new_lesser.ensures
