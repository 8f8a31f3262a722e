-- All are finite where the search reaches the end.
use Rattle.lists.specs.Prelude.{ap, ◌∙◌, Bool, add-zero, get_or, nan}
use Rattle.lists.specs.Indexed.{all_below}
use Rattle.complex.specs.Arithmetic.{finite}
use Rattle.refusal.specs.Verdict.{ask, by}
use Rattle.refusal.specs.Checks.{finite_times}
use Rattle.refusal.specs.Search.{prefix-all}
use Rattle.refusal.proofs.checks.finite_times.Goals as goal

pub returns : goal.returns
unfolding finite_times
returns c =
    let x = c.args in
    c.numbered.ensures
    ∙ ap (λ (yes : Bool). ask yes (by 4)) (prefix-all _ _ _ c.finite_prefix.ensures.1 ∙ ap (all_below x.points) (λ j i. finite (get_or x.times.now (add-zero i j) nan)))
