-- Each question's refusal leaves both slices; where all pass, the work decides.
use Rattle.std.proofs.Common.{rules, ◌≡◌}
use Rattle.std.proofs.lemmas.Result.{err_from_is_err_and}
use Rattle.lists.specs.Prelude.{sym, ◌∙◌}
use Rattle.dyson.proofs.Outcome.{by-sizes, by-grid, by-free, by-self_energy, by-support, made-finite, made_lost}
use Rattle.dyson.proofs.retarded_dyson_with_tolerance.Goals as goal

pub returns-in_err-check_sizes : goal.returns-in_err-check_sizes
returns-in_err-check_sizes c = by-sizes _ _ _ _ _ _ _ _ c.all_fit-fits.ensures c.check_sizes.ensures (search rules) c.in_err-check_sizes.was

pub returns-in_err-check_grid : goal.returns-in_err-check_grid
returns-in_err-check_grid c =
    by-grid _ _ _ _ _ _ _ _ c.all_fit-fits.ensures c.check_sizes.ensures c.in_ok-check_sizes.was (search rules)
    (sym c.check_grid.ensures ∙ c.in_err-check_grid.was)

pub returns-in_err-check_operand : goal.returns-in_err-check_operand
returns-in_err-check_operand c =
    by-free _ _ _ _ _ _ _ _ c.all_fit-fits.ensures c.check_sizes.ensures c.in_ok-check_sizes.was
    (sym c.check_grid.ensures ∙ c.in_ok-check_grid.was) (search rules) (sym c.check_operand.ensures ∙ c.in_err-check_operand.was)

pub returns-in_err-check_operand-2 : goal.returns-in_err-check_operand-2
returns-in_err-check_operand-2 c =
    by-self_energy _ _ _ _ _ _ _ _ c.all_fit-fits.ensures c.check_sizes.ensures c.in_ok-check_sizes.was
    (sym c.check_grid.ensures ∙ c.in_ok-check_grid.was) (search rules) (sym c.check_operand.ensures ∙ c.in_ok-check_operand.was) (sym c.check_operand-2.ensures ∙ c.in_err-check_operand-2.was)

pub returns-in_err-check_retarded_inputs : goal.returns-in_err-check_retarded_inputs
returns-in_err-check_retarded_inputs c =
    by-support _ _ _ _ _ _ _ _ c.all_fit-fits.ensures c.check_sizes.ensures c.in_ok-check_sizes.was
    (sym c.check_grid.ensures ∙ c.in_ok-check_grid.was) (sym c.check_operand.ensures ∙ c.in_ok-check_operand.was) (sym c.check_operand-2.ensures ∙ c.in_ok-check_operand-2.was)
    (search rules) (sym c.check_retarded_inputs.ensures ∙ c.in_err-check_retarded_inputs.was)

pub returns-in_err-solve_retarded : goal.returns-in_err-solve_retarded
returns-in_err-solve_retarded c =
    let p = err_from_is_err_and c.from_residual-in_err-solve_retarded.result c.from_residual-in_err-solve_retarded.ensures.1 in
    made_lost _ _ _ _ _ _ _ _ c.all_fit-fits.ensures c.check_sizes.ensures c.in_ok-check_sizes.was
    (sym c.check_grid.ensures ∙ c.in_ok-check_grid.was) (sym c.check_operand.ensures ∙ c.in_ok-check_operand.was) (sym c.check_operand-2.ensures ∙ c.in_ok-check_operand-2.was)
    (sym c.check_retarded_inputs.ensures ∙ c.in_ok-check_retarded_inputs.was) c.solve_retarded.ensures c.in_err-solve_retarded.was (rw (p.1, p.2))

pub returns : goal.returns
returns c =
    made-finite _ _ _ _ _ _ _ _ c.all_fit-fits.ensures c.check_sizes.ensures c.in_ok-check_sizes.was
    (sym c.check_grid.ensures ∙ c.in_ok-check_grid.was) (sym c.check_operand.ensures ∙ c.in_ok-check_operand.was) (sym c.check_operand-2.ensures ∙ c.in_ok-check_operand-2.was)
    (sym c.check_retarded_inputs.ensures ∙ c.in_ok-check_retarded_inputs.was) c.solve_retarded.ensures c.in_ok-solve_retarded.was
