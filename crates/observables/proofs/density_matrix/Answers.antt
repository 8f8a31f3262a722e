-- Where the questions pass, each entry is there to be read.
use Rattle.lists.specs.Prelude.{sym, ◌∙◌}
use Rattle.observables.specs.Passed.{passed}
use Rattle.observables.proofs.density_matrix.Goals as goal

pub block-requires : goal.block-requires
block-requires c = passed _ _ _ _ _ (sym c.check_lesser.ensures ∙ c.in_ok-check_lesser.was) (sym c.time_below.ensures ∙ c.in_ok-time_below.was)
