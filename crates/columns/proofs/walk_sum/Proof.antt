-- `columns::walk_sum` meets its contract: before step s the sum has the first s terms. Assumes nothing.
use Rattle.std.specs.Prelude.{◌≡◌, ◌+◌, ◌-◌, ◌*◌, ◌≤◌, ◌<◌}
use Rattle.lists.specs.Prelude.{sym, ap, ap₂, ◌∙◌, le_antisymm, arith, length, rules}
use Rattle.complex.specs.Arithmetic.{czero, real, cadd, cmul}
use Rattle.complex.specs.Sum.{sum_from}
use Rattle.complex.specs.Agreement.{sum_more, sum-none}
use Rattle.grid.specs.Weights.{interval_weight}
use Rattle.terms.specs.Kinds.{right_number}
use Rattle.columns.specs.Walks.{walk_term}
use Rattle.columns.proofs.walk_sum.Statement.{statement}
use Rattle.columns.proofs.walk_sum.Tie as tie

abbrev invariant-loop : tie.invariant-loop-s
invariant-loop factor times left i right walk sum₀ end s₀ s-end sum s = (s ≤ walk.end + 1) × (sum ≡ sum_from sum₀ (walk_term factor times left i right walk) 0 s)

abbrev decreases-loop : tie.decreases-loop-s
decreases-loop factor times left i right walk sum₀ end s₀ s-end sum s = walk.end + 1 - s

abbrev start : tie.At-loop-s invariant-loop decreases-loop → tie.Start invariant-loop decreases-loop
start l = l.before.before.before.before

-- the numbers of this step are there
there : (t : tie.In-loop-s invariant-loop decreases-loop) → let l = t.before in let x = (start l).args in let s = l.loop-s.s in
    (x.i + 2 * s + 1 < length x.left.now) × (x.walk.first + s * x.walk.step + 1 < length x.right.now)
there t = let l = t.before in (start l).requires.1 l.loop-s.s (omega (arith, t.loop-s-test.true))

abbrev at : tie.After-interval_weight-weight invariant-loop decreases-loop → tie.In-loop-s invariant-loop decreases-loop
at w = w.before.before.before.before.before.before.before.before.before.before.before.before

abbrev step : tie.After-plus-sum invariant-loop decreases-loop → tie.In-loop-s invariant-loop decreases-loop
step c = at c.before.before.before

-- its weight
weighed : (w : tie.After-interval_weight-weight invariant-loop decreases-loop) → let l = (at w).before in let x = (start l).args in
    w.interval_weight-weight.result ≡ interval_weight x.times.now l.loop-s.s 0 x.walk.end
weighed w = w.interval_weight-weight.ensures

loop-again : tie.Need-loop-s-preserved invariant-loop decreases-loop
unfolding walk_term
loop-again c =
    let times2 = c.before in let w = times2.before in let weight = w.before in let plus = weight.before in let times = plus.before in
    let number = times.before in let new2 = number.before in let new = new2.before.before.before.before.before in
    let t = step c in let l = t.before in let x = (start l).args in (
      omega (arith, t.loop-s-test.true),
      c.plus-sum.ensures
          ∙ ap₂ cadd l.loop-s.invariant.1 (times2.times-in-loop-s.ensures ∙ ap₂ cmul (plus.plus-p.ensures ∙ ap (cadd czero) (times.times.ensures
          ∙ ap₂ cmul new.new-x.ensures (number.number-y.ensures ∙ ap (right_number x.factor) new2.new.ensures))) (w.real.ensures ∙ ap real (weighed weight)))
          ∙ sym (sum_more _ _ l.loop-s.s),
    )

pub walk_sum_spec : {M : Type 1} → statement M
walk_sum_spec =
    tie.close (tie.spec invariant-loop decreases-loop
    (λ c. search rules)  -- overflow_add-s-end
    (λ c. (omega arith, sym (sum-none _ _ 0)))  -- loop-s-init
    (λ c. let h = there c in omega arith) (λ c. let h = there c in omega arith)  -- overflow_mul-k, overflow_add-k
    (λ c. let h = there c in omega arith)  -- offset_bounds-left-k
    (λ c. let h = there c.before in omega arith) (λ c. let h = there c.before in omega arith)  -- bounds-left-k, overflow_add-k-in-loop-s
    (λ c. let h = there c.before in omega arith) (λ c. let h = there c.before.before in omega arith)  -- offset_bounds-left-k-in-loop-s, bounds-left-k-in-loop-s
    (λ c κs. search rules)  -- new-x-requires
    (λ c. let h = there c.before.before.before.before in omega arith) (λ c. let h = there c.before.before.before.before.before in omega arith)  -- overflow_mul-j, overflow_add-j
    (λ c. let h = there c.before.before.before.before.before in omega arith)  -- offset_bounds-right-j
    (λ c. let h = there c.before.before.before.before.before.before in omega arith) (λ c. let h = there c.before.before.before.before.before.before in omega arith)  -- bounds-right-j, overflow_add-j-in-loop-s
    (λ c. let h = there c.before.before.before.before.before.before in omega arith) (λ c. let h = there c.before.before.before.before.before.before.before in omega arith)  -- offset_bounds-right-j-in-loop-s, bounds-right-j-in-loop-s
    (λ c κs. search rules) (λ c κs. search rules) (λ c κs. search rules)  -- new-requires, number-y-requires, times-requires
    (λ c κs. search rules) (λ c κs. search rules) (λ c κs. search rules)  -- plus-p-requires, interval_weight-weight-requires, real-requires
    (λ c κs. search rules) (λ c κs. search rules)  -- times-requires-in-loop-s, plus-sum-requires
    (λ c. let t = step c in omega (arith, t.loop-s-test.true, (start t.before).requires.0)) (λ c. let t = step c in omega (arith, t.loop-s-test.true))  -- overflow_step-s, loop-s-smaller
    loop-again
    (λ c. c.before.loop-s.invariant.1 ∙ ap (sum_from _ _ 0) (le_antisymm c.before.loop-s.invariant.0 c.loop-s-test.false)))  -- returns
