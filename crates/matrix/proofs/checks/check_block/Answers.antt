-- Past checks 1 to 3 the count is not cut, and check 7 is asked. Assumes nothing.
use Rattle.lists.specs.Prelude.{sym, ◌∙◌}
use Rattle.refusal.specs.Agreement.{then-after}
use Rattle.matrix.specs.Calls.{block_checks}
use Rattle.matrix.proofs.Shapes.{shape-passed, uncut}
use Rattle.matrix.proofs.checks.check_block.Goals as goal

pub returns : goal.returns
unfolding block_checks
returns c =
    let p = sym c.shape.ensures ∙ c.in_ok-shape.was in
    c.finite_entries.ensures ∙ rw (c.count.ensures ∙ uncut (shape-passed _ _ _ p).0) (sym (then-after _ _ p))
