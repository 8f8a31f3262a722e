-- The slice after a refusal, and after an accepted call.
use Rattle.std.proofs.Common.{rules}
use Rattle.lists.specs.Prelude.{sym, ◌∙◌}
use Rattle.grid.specs.Outcome.{accepted, unchanged}
use Rattle.grid.proofs.full_weights.Goals as goal

pub returns-in_err-check_grid_call : goal.returns-in_err-check_grid_call
returns-in_err-check_grid_call c = let u = unchanged _ _ _ _ (sym c.check_grid_call.ensures ∙ c.in_err-check_grid_call.was) in (search rules, u.1)

pub returns : goal.returns
returns c = let a = accepted _ _ _ (sym c.check_grid_call.ensures ∙ c.in_ok-check_grid_call.was) in (a.0, c.fill.ensures ∙ a.1)
