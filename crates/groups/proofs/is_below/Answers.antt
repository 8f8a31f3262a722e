use Rattle.lists.specs.Prelude.{sym, ◌∙◌, arith}
use Rattle.groups.specs.Groups.{grouped}
use Rattle.groups.proofs.is_below.Goals as goal

pub overflow_add-result : goal.overflow_add-result
overflow_add-result c = let g = grouped _ _ _ _ _ (sym c.is_group.ensures ∙ c.if-is_group.true) in omega (arith, g.fit, g.points-most)

pub overflow_add-result-then-is_group : goal.overflow_add-result-then-is_group
overflow_add-result-then-is_group c = let g = grouped _ _ _ _ _ (sym c.is_group.ensures ∙ c.if-is_group.true) in omega (arith, g.row, g.points-most)
