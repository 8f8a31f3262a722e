-- The numbers from 0 on.
use Rattle.lists.specs.Prelude.{ap, ◌∙◌, add-zero}
use Rattle.refusal.specs.Verdict.{ask_all}
use Rattle.refusal.specs.Checks.{finite_at, finite_entries}
use Rattle.refusal.proofs.checks.finite_entries.Goals as goal

pub returns : goal.returns
unfolding finite_entries
returns c = let x = c.args in c.entries_from.ensures ∙ ap (ask_all x.count) (λ j i. finite_at x.operand x.xs.now (add-zero i j))
