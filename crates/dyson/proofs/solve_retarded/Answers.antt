-- The new places from 0 on are all.
use Rattle.lists.specs.Prelude.{ap, ◌∙◌}
use Rattle.dyson.specs.Calls.{SumsSolved}
use Rattle.dyson.specs.NewSolved.{solved-all}
use Rattle.dyson.proofs.solve_retarded.Goals as goal

pub returns : goal.returns
returns c =
    let x = c.args in
    let all = solved-all x.points x.orbitals x.times.now x.free.now x.self_energy.now x.retarded.now x.kernel.now in
    let e = c.solve_new.ensures in
    (e.0 ∙ ap (λ (o : SumsSolved). o.answer) all, e.1 ∙ ap (λ (o : SumsSolved). o.retarded) all, e.2 ∙ ap (λ (o : SumsSolved). o.kernel) all)
