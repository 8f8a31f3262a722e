-- `groups::adding::add_lanes` meets its contract: before step c the lanes from lo to before c are made. Assumes nothing.
use Rattle.std.specs.Prelude.{◌≡◌, ◌+◌, ◌-◌, ◌*◌, ◌≤◌, ◌<◌}
use Rattle.lists.specs.Prelude.{refl, sym, ap, ap₂, ◌∙◌, ℕ, arith, length, length-set, Float, List, rules}
use Rattle.terms.specs.declared.Factor.{Factor}
use Rattle.complex.specs.declared.Complex.{Complex}
use Rattle.complex.specs.Arithmetic.{czero, real, cadd, cmul}
use Rattle.complex.specs.Numbers.{entry_at}
use Rattle.rows.specs.Numbers.{number_at, Mapped, mapped_next, mapped_end}
use Rattle.terms.specs.Kinds.{right_number}
use Rattle.groups.specs.Right.{right_beside}
use Rattle.groups.specs.InPlace.{in_place}
use Rattle.rows.specs.Ranges.{only_from, from-none, from_on}
use Rattle.groups.proofs.adding.add_lanes.Statement.{statement}
use Rattle.groups.proofs.adding.add_lanes.Tie as tie

-- what is made of lane c
abbrev made : Factor → Complex → Float → List Float → ℕ → ℕ → ℕ → Complex → Complex
made factor x weight right stride j c z = cadd z (cmul (in_place factor x right stride j c) (real weight))

abbrev invariant-loop : tie.invariant-loop-c
invariant-loop factor x weight right stride j lo hi totals₀ c₀ totals c = (lo ≤ c) × (c ≤ hi) × Mapped (only_from lo (made factor x weight right stride j)) c totals₀ totals

abbrev decreases-loop : tie.decreases-loop-c
decreases-loop factor x weight right stride j lo hi totals₀ c₀ totals c = hi - c

abbrev start : tie.At-loop-c invariant-loop decreases-loop → tie.Start invariant-loop decreases-loop
start l = l.before.before.before

-- the place of this step
inside : (c : tie.After-right_beside-beside invariant-loop decreases-loop) → let l = c.before.before in let x = (start l).args in
    x.j + l.loop-c.c * c.right_beside-beside.result + 1 < length x.right.now
inside c = let l = c.before.before in rw c.right_beside-beside.ensures ((start l).requires.1 l.loop-c.c c.before.loop-c-test.true)

-- its lane
lane : (t : tie.In-loop-c invariant-loop decreases-loop) → (t.before.loop-c.c < 16) × (length t.before.loop-c.totals ≡ 32)
lane t = let l = t.before in let s = start l in (omega (arith, t.loop-c-test.true, s.requires.0.1), l.loop-c.invariant.2.long ∙ s.requires.0.2)

abbrev step : tie.After-plus-p invariant-loop decreases-loop → tie.In-loop-c invariant-loop decreases-loop
step p = p.before.before.before.before

abbrev summed : tie.After-plus-sum invariant-loop decreases-loop → tie.After-plus-p invariant-loop decreases-loop
summed c = c.before.before.before.before.before.before

loop-again : tie.Need-loop-c-preserved invariant-loop decreases-loop
loop-again c =
    let times2 = c.before in let w = times2.before in let new = w.before in let plus = summed c in let times = plus.before in
    let y = times.before in let d = y.before in let t = d.before in let l = t.before in let s = start l in let x = s.args in
    let k = l.loop-c.c in
    let f = made x.factor x.x x.weight x.right.now x.stride x.j in
    let read : y.right_number-y.result ≡ right_number x.factor (entry_at x.right.now (x.j + k * right_beside x.factor x.stride)) =
    y.right_number-y.ensures ∙ ap (λ (m : ℕ). right_number x.factor (entry_at x.right.now (x.j + k * m))) d.right_beside-beside.ensures in
    let p : plus.plus-p.result ≡ cadd czero (cmul x.x (right_number x.factor (entry_at x.right.now (x.j + k * right_beside x.factor x.stride)))) =
    plus.plus-p.ensures ∙ ap (cadd czero) (times.times.ensures ∙ ap (cmul x.x) read) in
    let made : c.plus-sum.result ≡ f k (number_at l.loop-c.totals k) =
    c.plus-sum.ensures ∙ ap₂ cadd new.new-z.ensures (times2.times-in-loop-c.ensures ∙ ap₂ cmul p w.real.ensures) in (
      omega (arith, l.loop-c.invariant.0),
      omega (arith, t.loop-c-test.true),
      mapped_next (only_from x.lo f) k x.totals.now l.loop-c.totals _ c.plus-sum.result l.loop-c.invariant.2 s.requires.0.2 (lane t).0
          (made ∙ sym (from_on x.lo f k (number_at l.loop-c.totals k) l.loop-c.invariant.0))
          refl,
    )

pub add_lanes_spec : {M : Type 1} → statement M
add_lanes_spec =
    tie.close (tie.spec invariant-loop decreases-loop
    (λ c. (omega arith, omega arith, from-none _ _ _))  -- loop-c-init
    (λ c κs. search rules)  -- right_beside-beside-requires
    (λ c. let h = inside c in omega arith) (λ c. let h = inside c in omega arith)  -- overflow_mul-c, overflow_add-j
    (λ c κs. inside c)  -- right_number-y-requires
    (λ c κs. search rules) (λ c κs. search rules)  -- times-requires, plus-p-requires
    (λ c. let h = lane (step c) in omega arith)  -- offset_bounds-totals-c
    (λ c. let h = lane (step c.before) in omega arith) (λ c. let h = lane (step c.before) in omega arith)  -- bounds-totals-c, overflow_add-c
    (λ c. let h = lane (step c.before) in omega arith)  -- offset_bounds-totals-c-in-loop-c
    (λ c. let h = lane (step c.before.before) in omega arith)  -- bounds-totals-c-in-loop-c
    (λ c κs. search rules) (λ c κs. search rules) (λ c κs. search rules)  -- new-z-requires, real-requires, times-requires-in-loop-c
    (λ c κs. search rules)  -- plus-sum-requires
    (λ c. let h = lane (step (summed c)) in omega arith) (λ c. let h = lane (step (summed c)) in omega arith)  -- offset_bounds-totals-c-in-loop-c-2, bounds-totals-c-in-loop-c-2
    (λ c. let h = lane (step (summed c)) in omega arith) (λ c. let h = lane (step (summed c)) in omega arith)  -- overflow_add-totals, offset_bounds-totals-c-in-loop-c-3
    (λ c. let h = lane (step (summed c)) in simp length-set (omega arith))  -- bounds-totals-c-in-loop-c-3
    (λ c. let h = lane (step (summed c)) in omega arith)  -- overflow_step-c
    (λ c. search rules)  -- loop-c-smaller
    loop-again
    (λ c. c.before.loop-c.invariant.2.long)  -- shape_of-totals
    (λ c. mapped_end _ c.before.loop-c.c _ _ _ c.before.loop-c.invariant.1 c.loop-c-test.false c.before.loop-c.invariant.2))  -- returns
