-- The search's end is the first position that is not finite.
use Rattle.lists.specs.Prelude.{◌∙◌}
use Rattle.refusal.specs.Search.{prefix-asked}
use Rattle.refusal.proofs.checks.entries_from.Goals as goal

pub returns : goal.returns
returns c = c.asked.ensures ∙ rw c.by.ensures (prefix-asked _ _ _ _ c.finite_prefix-passed.ensures.1)
