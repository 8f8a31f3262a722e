-- One number more.
use Rattle.lists.specs.Prelude.{sym, ap₂, ◌∙◌, refl}
use Rattle.lists.specs.Steps.{fold_more, fold-none}
use Rattle.complex.specs.Arithmetic.{larger}
use Rattle.complex.specs.Sum.{largest_from}
use Rattle.support.proofs.largest_from.Goals as goal

pub loop-k-init : goal.loop-k-init
unfolding largest_from
loop-k-init c = sym (fold-none _ _)

pub loop-k-preserved : goal.loop-k-preserved
unfolding largest_from
loop-k-preserved c = rw fold_more (c.larger_norm_in_loop-most.ensures ∙ ap₂ larger c.loop-k.invariant refl)
