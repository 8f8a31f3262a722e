-- `columns::place_sum` meets its contract: the sum of the walk, or nothing to add. Assumes nothing.
use Rattle.std.specs.Prelude.{◌≡◌, ◌+◌, ◌*◌, ◌≤◌}
use Rattle.lists.specs.Prelude.{sym, ap, ap₂, ◌∙◌, arith, rules}
use Rattle.complex.specs.Sum.{sum_from}
use Rattle.two_time.specs.Places.{product-most}
use Rattle.terms.specs.declared.Factor.{Factor}
use Rattle.terms.specs.Kinds.{factor_of}
use Rattle.columns.specs.declared.Walk.{Walk}
use Rattle.columns.specs.Walks.{walk_of, walk_term, walk_sums, walk_none}
use Rattle.columns.specs.Singles.{walk_inside}
use Rattle.columns.proofs.place_sum.Statement.{statement}
use Rattle.columns.proofs.place_sum.Tie as tie

abbrev start : tie.After-walk_of-walk → tie.Start
start w = w.before.before.before.before.before

-- the walk that is gone
is-walk : (w : tie.After-walk_of-walk) → let x = (start w).args in w.walk_of-walk.result ≡ walk_of (factor_of x.sums) x.stride x.t x.u
is-walk w = let x = (start w).args in w.walk_of-walk.ensures ∙ ap (λ (f : Factor). walk_of f x.stride x.t x.u) w.before.factor_of-factor.ensures

row-most : (s : tie.Start) → s.args.t * s.args.stride ≤ 65536
row-most s = product-most s.args.t s.args.stride (let h : s.args.t ≤ 256 = omega (arith, s.requires.row, s.requires.points-most) in h) s.requires.points-most

returns : tie.Need-returns-then-walk-eq0
returns c =
    let w = c.before.before in let s = start w in let x = s.args in
    walk_none x.sums x.stride x.times.now x.left.now x.right.now x.t x.u x.total s.requires.kind (sym (ap (λ (k : Walk). k.end) (is-walk w)) ∙ c.if-walk-eq0.true)

walk-sum-requires : tie.Need-walk_sum-requires
walk-sum-requires c κs =
    let w = c.before.before in let s = start w in let x = s.args in
    rw (is-walk w) (walk_inside x.sums x.stride x.left.now x.right.now x.t x.u s.requires)

returns-2 : tie.Need-returns
returns-2 c =
    let w = c.before.before.before in let s = start w in let x = s.args in
    let e = is-walk w in
    c.walk_sum.ensures
    ∙ ap₂ (λ (f : Factor) (k : Walk). sum_from x.total (walk_term f x.times.now x.left.now (2 * (x.t * x.stride)) x.right.now k) 0 (k.end + 1)) w.before.factor_of-factor.ensures e
    ∙ walk_sums x.sums x.stride x.times.now x.left.now x.right.now x.t x.u x.total s.requires.kind (omega (arith, c.before.if-walk-eq0.false, ap (λ (k : Walk). k.end) e))

pub place_sum_spec : {M : Type 1} → statement M
place_sum_spec =
    tie.close (tie.spec
    (λ c κs. search rules)  -- factor_of-factor-requires
    (λ c κs. let p = c.before.before.before.before.requires in (p.column, p.points-most))  -- walk_of-walk-requires
    returns
    (λ c. let h = row-most (start c.before.before) in omega arith) (λ c. let h = row-most (start c.before.before) in omega arith)  -- overflow_mul-t, overflow_mul-t-2
    walk-sum-requires
    returns-2)
