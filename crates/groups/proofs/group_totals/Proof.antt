-- `groups::group_totals` meets its contract: the loop from the first s to the last serves every lane. Assumes nothing.
use Rattle.std.specs.Prelude.{◌≡◌, ◌+◌, ◌*◌}
use Rattle.lists.specs.Prelude.{sym, ◌∙◌, le_refl, length, rules}
use Rattle.two_time.specs.Layout.{read_as}
use Rattle.terms.specs.Spans.{Spanned, spanned}
use Rattle.lanes.specs.Lanes.{lane_at}
use Rattle.groups.specs.PartialSums.{terms_of, steps_all}
use Rattle.groups.proofs.group_totals.Statement.{statement}
use Rattle.groups.proofs.group_totals.Tie as tie

abbrev start : tie.After-span_of-span → tie.Start
start w = w.before.before.before.before.before

span : (w : tie.After-span_of-span) → let x = (start w).args in Spanned x.sums x.points x.t x.u x.places w.span_of-span.result
span w = let x = (start w).args in let p = (start w).requires.0 in spanned x.sums x.points x.t x.u x.places w.span_of-span.result p.0 p.1 p.5 w.span_of-span.ensures

long : (w : tie.After-span_of-span) → length ((start w).args.totals.now) ≡ 512
long w = (start w).requires.1.1

returns : tie.Need-returns
returns c =
    let r = c.before.before in let w = r.before.before in let s = start w in let x = s.args in
    let n = x.orbitals in (
      r.sum_group.ensures.0,
      λ a p b ha hp hb.
          r.sum_group.ensures.1 a p b ha hp hb
          ∙ steps_all n (terms_of x.sums x.points x.points n x.times.now x.left.now x.right.now x.t (x.u + p) (lane_at x.totals.now a (p * n + b))) a b w.span_of-span.result.last
          ((span w).enough x.times.now (read_as x.points n x.left.now) (read_as x.points n x.right.now) p hp),
    )

pub group_totals_spec : {M : Type 1} → statement M
group_totals_spec =
    tie.close (tie.spec
    (λ c κs. search rules)  -- span_of-span-requires
    (λ c κs. let w = c.before in let p = (start w).requires in let z = span w in ((p.0.0, le_refl _, p.0.1, p.0.2, p.0.3, p.0.4, p.0.5, p.0.6), ((z.ordered, z.most, z.reach), (z.least _ _ _, (p.1.0.0, p.1.0.1, p.1.0.2, long w)))))  -- sum_group-requires
    (λ c. let r = c.before.before in r.sum_group.ensures.0 ∙ sym (long r.before.before))  -- shape_of-totals
    returns)
