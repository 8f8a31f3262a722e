-- The step after the search's end is the first that does not rise.
use Rattle.lists.specs.Prelude.{◌∙◌}
use Rattle.refusal.specs.Checks.{rising_times}
use Rattle.refusal.specs.Search.{prefix-asked}
use Rattle.refusal.proofs.checks.rising_times.Goals as goal

pub returns : goal.returns
unfolding rising_times
returns c = c.asked.ensures ∙ rw (c.by.ensures, ← c.saturating_sub-steps.ensures) (prefix-asked _ _ _ _ c.rising_prefix-risen.ensures)
