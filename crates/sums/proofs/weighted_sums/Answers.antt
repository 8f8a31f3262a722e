use Rattle.lists.specs.Prelude.{ap, ◌∙◌}
use Rattle.two_time.specs.Outcome.{SumsOutcome, new_sums-all}
use Rattle.sums.proofs.weighted_sums.Goals as goal

pub returns : goal.returns
returns c =
    let x = c.args in
    let all = new_sums-all x.sums x.points x.orbitals x.times.now x.left.now x.right.now x.out.now in
    (c.new_sums.ensures.0 ∙ ap (λ (o : SumsOutcome). o.answer) all, c.new_sums.ensures.1 ∙ ap (λ (o : SumsOutcome). o.out) all)
