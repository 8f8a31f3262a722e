-- At the first sum that is not finite the work ends.
use Rattle.std.specs.Prelude.{is_ok}
use Rattle.std.proofs.Common.{rules, ◌≡◌}
use Rattle.std.proofs.lemmas.Result.{err_from_is_err_and}
use Rattle.lists.specs.Prelude.{refl, sym, ap, ◌∙◌}
use Rattle.langreth.proofs.Made.{one-length, first_lost, second_lost, both-said}
use Rattle.langreth.proofs.components.correlation.Goals as goal

pub returns-in_err-weighted_sums : goal.returns-in_err-weighted_sums
returns-in_err-weighted_sums c =
    let p = err_from_is_err_and c.from_residual.result c.from_residual.ensures.1 in
    first_lost _ _ _ _ _ _ _ _ _ c.requires c.weighted_sums.ensures c.in_err-weighted_sums.was (ap is_ok p.1)

pub returns-in_err-weighted_sums-2 : goal.returns-in_err-weighted_sums-2
returns-in_err-weighted_sums-2 c =
    let p = err_from_is_err_and c.from_residual-in_err-weighted_sums-2.result c.from_residual-in_err-weighted_sums-2.ensures.1 in
    second_lost _ _ _ _ _ _ _ _ _ c.requires c.weighted_sums.ensures c.weighted_sums-2.ensures c.in_err-weighted_sums-2.was (ap is_ok p.1)

pub add_functions-requires : goal.add_functions-requires
add_functions-requires c = one-length _ _ c.args.times.now _ _ _ _ _ _ c.requires _ _ c.weighted_sums.auto.out c.weighted_sums-2.auto.out

pub returns-then-add_functions : goal.returns-then-add_functions
returns-then-add_functions c =
    both-said _ _ _ _ _ _ _ _ _ c.requires c.weighted_sums.ensures c.weighted_sums-2.ensures c.in_ok-weighted_sums.was c.in_ok-weighted_sums-2.was
    (sym c.if-add_functions.true ∙ c.add_functions.ensures.0, c.add_functions.ensures.1)

pub returns-else-add_functions : goal.returns-else-add_functions
returns-else-add_functions c =
    both-said _ _ _ _ _ _ _ _ _ c.requires c.weighted_sums.ensures c.weighted_sums-2.ensures c.in_ok-weighted_sums.was c.in_ok-weighted_sums-2.was
    (sym c.if-add_functions.false ∙ c.add_functions.ensures.0, c.add_functions.ensures.1)
