-- Each question's refusal leaves the slice; where all pass, the sums decide.
use Rattle.std.proofs.Common.{rules, ◌≡◌}
use Rattle.std.proofs.lemmas.Result.{err_from_is_err_and}
use Rattle.lists.specs.Prelude.{sym, ◌∙◌}
use Rattle.convolution.proofs.Outcome.{by-sizes, by-grid, by-left, by-right, made-finite, made_lost}
use Rattle.convolution.proofs.convolve.Goals as goal

pub returns-in_err-check_sizes : goal.returns-in_err-check_sizes
returns-in_err-check_sizes c =
    by-sizes _ _ _ _ _ _ _ c.has_length-left_fits.ensures c.has_length-right_fits.ensures c.has_length-out_fits.ensures c.check_sizes.ensures (search rules) c.in_err-check_sizes.was

pub returns-in_err-check_grid : goal.returns-in_err-check_grid
returns-in_err-check_grid c =
    by-grid _ _ _ _ _ _ _ c.has_length-left_fits.ensures c.has_length-right_fits.ensures c.has_length-out_fits.ensures c.check_sizes.ensures (search rules) c.in_ok-check_sizes.was
    (sym c.check_grid.ensures ∙ c.in_err-check_grid.was)

pub returns-in_err-check_operand : goal.returns-in_err-check_operand
returns-in_err-check_operand c =
    by-left _ _ _ _ _ _ _ c.has_length-left_fits.ensures c.has_length-right_fits.ensures c.has_length-out_fits.ensures c.check_sizes.ensures (search rules) c.in_ok-check_sizes.was
    (sym c.check_grid.ensures ∙ c.in_ok-check_grid.was) (sym c.check_operand.ensures ∙ c.in_err-check_operand.was)

pub returns-in_err-check_operand-2 : goal.returns-in_err-check_operand-2
returns-in_err-check_operand-2 c =
    by-right _ _ _ _ _ _ _ c.has_length-left_fits.ensures c.has_length-right_fits.ensures c.has_length-out_fits.ensures c.check_sizes.ensures (search rules) c.in_ok-check_sizes.was
    (sym c.check_grid.ensures ∙ c.in_ok-check_grid.was) (sym c.check_operand.ensures ∙ c.in_ok-check_operand.was) (sym c.check_operand-2.ensures ∙ c.in_err-check_operand-2.was)

pub returns-in_err-weighted_sums : goal.returns-in_err-weighted_sums
returns-in_err-weighted_sums c =
    let p = err_from_is_err_and c.from_residual-in_err-weighted_sums.result c.from_residual-in_err-weighted_sums.ensures.1 in
    made_lost _ _ _ _ _ _ _ c.has_length-left_fits.ensures c.has_length-right_fits.ensures c.has_length-out_fits.ensures c.check_sizes.ensures c.in_ok-check_sizes.was
    (sym c.check_grid.ensures ∙ c.in_ok-check_grid.was) (sym c.check_operand.ensures ∙ c.in_ok-check_operand.was) (sym c.check_operand-2.ensures ∙ c.in_ok-check_operand-2.was)
    c.weighted_sums.ensures c.in_err-weighted_sums.was (rw (p.1, p.2))

pub returns : goal.returns
returns c =
    made-finite _ _ _ _ _ _ _ c.has_length-left_fits.ensures c.has_length-right_fits.ensures c.has_length-out_fits.ensures c.check_sizes.ensures c.in_ok-check_sizes.was
    (sym c.check_grid.ensures ∙ c.in_ok-check_grid.was) (sym c.check_operand.ensures ∙ c.in_ok-check_operand.was) (sym c.check_operand-2.ensures ∙ c.in_ok-check_operand-2.was)
    c.weighted_sums.ensures c.in_ok-weighted_sums.was
