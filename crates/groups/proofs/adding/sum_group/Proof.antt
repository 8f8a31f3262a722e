-- `groups::adding::sum_group` meets its contract: before step s each lane's total is its partial sum after the terms before s. Assumes nothing.
use Rattle.std.specs.Prelude.{◌≡◌, ◌+◌, ◌-◌, ◌*◌, ◌≤◌, ◌<◌}
use Rattle.lists.specs.Prelude.{refl, sym, ap, ◌∙◌, ℕ, le_antisymm, arith, length, rules}
use Rattle.complex.specs.declared.Complex.{Complex}
use Rattle.complex.specs.Arithmetic.{czero}
use Rattle.two_time.specs.WeightedSum.{Terms}
use Rattle.lanes.specs.Lanes.{lane_at}
use Rattle.groups.specs.PartialSums.{terms_of, added, added-start, partial_at, steps-none, steps-more}
use Rattle.groups.proofs.adding.sum_group.Statement.{statement}
use Rattle.groups.proofs.adding.sum_group.Tie as tie

abbrev invariant-loop : tie.invariant-loop-s
invariant-loop sums times left right stride points n t u places first last totals₀ rows₀ s₀ totals rows s =
    (first ≤ s) × (s ≤ last) × (length rows ≡ 512) × (length totals ≡ 512)
    × ((a p b : ℕ) → a < n → p < places → b < n → lane_at totals a (p * n + b)
    ≡ partial_at n (terms_of sums points stride n times left right t (u + p) (lane_at totals₀ a (p * n + b))) s a b)

abbrev decreases-loop : tie.decreases-loop-s
decreases-loop sums times left right stride points n t u places first last totals₀ rows₀ s₀ totals rows s = last - s

abbrev start : tie.At-loop-s invariant-loop decreases-loop → tie.Start invariant-loop decreases-loop
start l = l.before.before.before.before.before

loop-holds : tie.Need-loop-s-init invariant-loop decreases-loop
loop-holds c =
    let s = c.before.before.before.before in let x = s.args in
    let pre = s.requires in (
      omega arith,
      pre.1.0.0,
      refl,
      pre.1.1.1.3,
      λ a p b ha hp hb. sym (steps-none x.orbitals (terms_of x.sums x.points x.stride x.orbitals x.times.now x.left.now x.right.now x.t (x.u + p) (lane_at x.totals.now a (p * x.orbitals + b))) a b x.first (pre.1.1.0 p hp)),
    )

add-term-requires : tie.Need-add_term-requires invariant-loop decreases-loop
add-term-requires c κs =
    let t = c.before.before in let l = t.before in let pre = (start l).requires in let i = l.loop-s.invariant in
    ((pre.0.0, omega (arith, t.loop-s-test.true, pre.1.0.1), pre.0.1, pre.0.2, pre.0.3, pre.0.4, pre.0.5, pre.0.6, pre.0.7), (pre.1.0.2 l.loop-s.s i.0 t.loop-s-test.true, ((pre.1.1.1.0, pre.1.1.1.1, pre.1.1.1.2), (i.2, i.3))))

loop-again : tie.Need-loop-s-preserved invariant-loop decreases-loop
loop-again c =
    let g = c.before.before.before in let t = g.before.before.before in let l = t.before in let x = (start l).args in let i = l.loop-s.invariant in
    let s = l.loop-s.s in let n = x.orbitals in
    let at : ℕ → Complex → Terms = λ p z. terms_of x.sums x.points x.stride n x.times.now x.left.now x.right.now x.t (x.u + p) z in (
      omega (arith, i.0),
      omega (arith, t.loop-s-test.true),
      g.add_term.ensures.0,
      g.add_term.ensures.1,
      λ a p b ha hp hb.
          let z = lane_at x.totals.now a (p * n + b) in
          g.add_term.ensures.2 a p b ha hp hb
          ∙ added-start x.sums x.points x.stride n x.times.now x.left.now x.right.now x.t (x.u + p) czero z s a b (lane_at l.loop-s.totals a (p * n + b))
          ∙ ap (added n (at p z) s a b) (i.4 a p b ha hp hb)
          ∙ sym (steps-more n (at p z) a b s),
    )

pub sum_group_spec : {M : Type 1} → statement M
sum_group_spec =
    tie.close (tie.spec invariant-loop decreases-loop
    loop-holds
    (λ c. search rules)  -- slice_bounds-add_term-end
    add-term-requires
    (λ c. search rules) (λ c. search rules)  -- overflow_step-s, loop-s-smaller
    loop-again
    (λ c. c.before.loop-s.invariant.3 ∙ sym (start c.before).requires.1.1.1.3)  -- shape_of-totals
    (λ c.
    let l = c.before in let x = (start l).args in let i = l.loop-s.invariant in
    (i.3, λ a p b ha hp hb. i.4 a p b ha hp hb ∙ ap (λ (s : ℕ). partial_at x.orbitals (terms_of x.sums x.points x.stride x.orbitals x.times.now x.left.now x.right.now x.t (x.u + p) (lane_at x.totals.now a (p * x.orbitals + b))) s a b) (le_antisymm i.1 c.loop-s-test.false))))  -- returns
