-- Each question in its order.
use Rattle.std.proofs.Common.{rules, ◌≡◌}
use Rattle.lists.specs.Prelude.{sym, ◌∙◌}
use Rattle.refusal.specs.Verdict.{Verdict}
use Rattle.langreth.specs.Operand.{held}
use Rattle.langreth.proofs.Asked.{by-sizes, by-grid, by-left, by-right}
use Rattle.langreth.proofs.checks.check_inputs.Goals as goal

pub returns-in_err-check_sizes : goal.returns-in_err-check_sizes
returns-in_err-check_sizes c slices fits =
    by-sizes _ _ c.args.times.now (held c.args.left) (held c.args.right) slices c.fits-left_fits.ensures c.fits-right_fits.ensures fits c.check_sizes.ensures
    (search rules) c.in_err-check_sizes.was

pub returns-in_err-check_grid : goal.returns-in_err-check_grid
returns-in_err-check_grid c slices fits =
    by-grid _ _ c.args.times.now (held c.args.left) (held c.args.right) slices c.fits-left_fits.ensures c.fits-right_fits.ensures fits c.check_sizes.ensures
    c.in_ok-check_sizes.was (search rules) (sym c.check_grid.ensures ∙ c.in_err-check_grid.was)

pub returns-in_err-entries : goal.returns-in_err-entries
returns-in_err-entries c slices fits =
    by-left _ _ c.args.times.now (held c.args.left) (held c.args.right) slices c.fits-left_fits.ensures c.fits-right_fits.ensures fits c.check_sizes.ensures
    c.in_ok-check_sizes.was (sym c.check_grid.ensures ∙ c.in_ok-check_grid.was) (search rules) (sym c.entries.ensures ∙ c.in_err-entries.was)

pub returns : goal.returns
returns c slices fits =
    by-right _ _ c.args.times.now (held c.args.left) (held c.args.right) slices c.fits-left_fits.ensures c.fits-right_fits.ensures fits c.check_sizes.ensures
    c.in_ok-check_sizes.was (sym c.check_grid.ensures ∙ c.in_ok-check_grid.was) (sym c.entries.ensures ∙ c.in_ok-entries.was) c.entries-2.ensures
