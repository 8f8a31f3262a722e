-- At the first component that is not finite the work ends.
use Rattle.std.specs.Prelude.{is_ok}
use Rattle.std.proofs.Common.{rules, ◌≡◌}
use Rattle.std.proofs.lemmas.Result.{err_from_is_err_and}
use Rattle.lists.specs.Prelude.{refl, sym, ap, ◌∙◌}
use Rattle.langreth.specs.Calls.{Components, components_of}
use Rattle.langreth.specs.Operand.{held}
use Rattle.langreth.proofs.Made.{lesser-sized, greater-sized, lesser_lost, greater_lost, retarded_lost, advanced-said}
use Rattle.langreth.proofs.components.work.Goals as goal

pub correlation-requires : goal.correlation-requires
correlation-requires c =
    lesser-sized _ _ c.args.times.now (held c.args.left) (held c.args.right) (components_of c.args.retarded.now c.args.advanced.now c.args.lesser.now c.args.greater.now) c.requires refl refl

pub correlation-requires-2 : goal.correlation-requires-2
correlation-requires-2 c =
    greater-sized _ _ c.args.times.now (held c.args.left) (held c.args.right) (components_of c.args.retarded.now c.args.advanced.now c.args.lesser.now c.args.greater.now) c.requires
    c.correlation.auto.scratch refl

pub returns-in_err-correlation : goal.returns-in_err-correlation
returns-in_err-correlation c =
    let p = err_from_is_err_and c.from_residual.result c.from_residual.ensures.1 in
    lesser_lost _ _ c.args.times.now (held c.args.left) (held c.args.right) (components_of c.args.retarded.now c.args.advanced.now c.args.lesser.now c.args.greater.now) c.requires
    _ _ c.correlation.ensures c.in_err-correlation.was (ap is_ok p.1)

pub returns-in_err-correlation-2 : goal.returns-in_err-correlation-2
returns-in_err-correlation-2 c =
    let p = err_from_is_err_and c.from_residual-in_err-correlation-2.result c.from_residual-in_err-correlation-2.ensures.1 in
    greater_lost _ _ c.args.times.now (held c.args.left) (held c.args.right) (components_of c.args.retarded.now c.args.advanced.now c.args.lesser.now c.args.greater.now) c.requires
    _ _ c.correlation.ensures _ _ c.correlation-2.ensures c.in_err-correlation-2.was (ap is_ok p.1)

pub returns-in_err-weighted_sums : goal.returns-in_err-weighted_sums
returns-in_err-weighted_sums c =
    let p = err_from_is_err_and c.from_residual-in_err-weighted_sums.result c.from_residual-in_err-weighted_sums.ensures.1 in
    retarded_lost _ _ c.args.times.now (held c.args.left) (held c.args.right) (components_of c.args.retarded.now c.args.advanced.now c.args.lesser.now c.args.greater.now) c.requires
    _ _ c.correlation.ensures _ _ c.correlation-2.ensures c.weighted_sums.ensures c.in_err-weighted_sums.was (ap is_ok p.1)

pub returns : goal.returns
returns c =
    advanced-said _ _ c.args.times.now (held c.args.left) (held c.args.right) (components_of c.args.retarded.now c.args.advanced.now c.args.lesser.now c.args.greater.now) c.requires
    _ _ c.correlation.ensures _ _ c.correlation-2.ensures c.weighted_sums.ensures c.in_ok-correlation.was c.in_ok-correlation-2.was c.in_ok-weighted_sums.was
    _ c.correlation-2.auto.scratch c.weighted_sums-2.ensures
