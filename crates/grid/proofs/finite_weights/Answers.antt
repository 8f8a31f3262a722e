-- The weights of all points are asked.
use Rattle.std.proofs.Common.{rules}
use Rattle.std.proofs.lemmas.Iterator.{YieldsList-from_range}
use Rattle.std.proofs.lemmas.Iterator.Search.{all_from_yields_List}
use Rattle.lists.specs.Prelude.{◌∙◌, arith}
use Rattle.lists.specs.Steps.{all-listed}
use borrow.Author.Tests.{tests}
use Rattle.complex.specs.Arithmetic.{finite}
use Rattle.refusal.specs.Checks.{finite_weights}
use Rattle.grid.specs.Weights.{full_weight}
use Rattle.grid.proofs.finite_weights.Goals as goal

pub returns : goal.returns
unfolding finite_weights
returns c =
    let x = c.args in
    let all = all_from_yields_List (λ i. finite (full_weight x.points x.times.now i)) _ _ c.all-all.result c.all-all.ensures.ran (YieldsList-from_range 0 x.points x.points (search rules) (omega arith)) (λ i b q k. search (rules, tests)) in
    c.numbered.ensures ∙ rw (all, all-listed)
