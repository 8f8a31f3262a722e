-- `groups::forward_totals` meets its contract: the lanes begin with the free function's blocks, and Dyson's sum is the causal one up to the term before t. Assumes nothing.
use Rattle.std.specs.Prelude.{◌+◌}
use Rattle.lists.specs.Prelude.{sym, ap, ◌∙◌, le_refl, arith}
use Rattle.complex.specs.declared.Complex.{Complex}
use Rattle.two_time.specs.declared.sums.Sums.TheVariants.{Causal}
use Rattle.terms.specs.Kinds.{right_by}
use Rattle.groups.specs.PartialSums.{terms_of, partial_at}
use Rattle.groups.specs.PlaceSums.{forward_sum_lem, forward-reach, forward-least}
use Rattle.groups.proofs.forward_totals.Statement.{statement}
use Rattle.groups.proofs.forward_totals.Tie as tie

abbrev start : tie.After-pack → tie.Start
start w = w.before.before.before.before.before.before.before

returns : tie.Need-returns
unfolding right_by
returns c =
    let g = c.before.before in let w = g.before.before.before.before in let x = (start w).args in
    let n = x.orbitals in (
      g.sum_group.ensures.0,
      λ a p b ha hp hb.
          g.sum_group.ensures.1 a p b ha hp hb
          ∙ ap (λ (z : Complex). partial_at n (terms_of Causal x.points x.points n x.times.now x.kernel.now x.retarded.now x.t (x.u + p) z) x.t a b) (w.pack.ensures.1 a p b ha hp hb)
          ∙ forward_sum_lem x.points n x.times.now x.free.now x.kernel.now x.retarded.now x.t (x.u + p) a b (omega (arith, hp, (start w).requires.0.5)),
    )

pub forward_totals_spec : {M : Type 1} → statement M
forward_totals_spec =
    tie.close (tie.spec
    (λ c κs. let s = c.before.before.before.before.before.before in let p = s.requires.0 in ((p.0, omega (arith, p.0, p.5), p.1, p.3, p.6), (s.requires.1.0.0, s.requires.1.1)))  -- pack-requires
    (λ c κs.
    let w = c.before.before.before in let s = start w in let x = s.args in let p = s.requires.0 in
    ((p.0, le_refl _, p.1, p.2, p.3, p.4, omega (arith, p.0, p.5), p.6), ((omega (arith, p.4, p.5), omega (arith, p.0), λ k h l. forward-reach x.t k l), ((λ q h. forward-least x.points _ _ _ x.t x.u q), (s.requires.1.0.1, s.requires.1.0.2, s.requires.1.0.3, w.pack.ensures.0)))))  -- sum_group-requires
    (λ c. let g = c.before.before in g.sum_group.ensures.0 ∙ sym (start g.before.before.before.before).requires.1.1)  -- shape_of-totals
    returns)
