-- Unfit, both made, or not finite with the new places of both slices cleared.
use Rattle.std.proofs.Common.{not}
use Rattle.lists.specs.Prelude.{ap, ◌∙◌}
use Rattle.two_time.specs.Summed.{unfit_of}
use Rattle.dyson.proofs.Solving.{unfit, no-kernel, forward-asks, both-made, no-green}
use Rattle.dyson.proofs.solve_new.Goals as goal

pub returns-in_err-check_sizes : goal.returns-in_err-check_sizes
returns-in_err-check_sizes c =
    let u = unfit _ _ _ _ _ _ _ _ _ c.all_fit-fits.ensures c.check_sizes.ensures c.in_err-check_sizes.was in
    (unfit_of _ c.from_residual.ensures ∙ u.0, u.1, u.2)

pub returns-then-is_err : goal.returns-then-is_err
returns-then-is_err c =
    no-kernel _ _ _ _ _ _ _ _ _ c.all_fit-fits.ensures c.check_sizes.ensures c.in_ok-check_sizes.was c.new_sums.ensures
    (c.is_err.ensures.negation ∙ ap not c.if-is_err.true) c.clear_new.ensures

pub forward-requires : goal.forward-requires
forward-requires c = forward-asks _ _ _ _ _ _ _ _ _ c.all_fit-fits.ensures c.check_sizes.ensures c.in_ok-check_sizes.was c.new_sums.ensures c.new_sums.auto.out

pub returns-then-is_err-2 : goal.returns-then-is_err-2
returns-then-is_err-2 c =
    no-green _ _ _ _ _ _ _ _ _ c.all_fit-fits.ensures c.check_sizes.ensures c.in_ok-check_sizes.was c.new_sums.ensures c.new_sums.auto.out
    (c.is_err.ensures.negation ∙ ap not c.if-is_err.false) c.forward.ensures (c.is_err-2.ensures.negation ∙ ap not c.if-is_err-2.true)
    c.forward.auto.retarded c.clear_new-then-is_err-2.ensures c.clear_new-then-is_err-2-2.ensures

pub returns : goal.returns
returns c =
    both-made _ _ _ _ _ _ _ _ _ c.all_fit-fits.ensures c.check_sizes.ensures c.in_ok-check_sizes.was c.new_sums.ensures c.new_sums.auto.out
    (c.is_err.ensures.negation ∙ ap not c.if-is_err.false) c.forward.ensures (c.is_err-2.ensures.negation ∙ ap not c.if-is_err-2.false)
