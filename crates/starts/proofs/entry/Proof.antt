-- `starts::entry` meets its contract: before step k the sum has its first k products. Assumes nothing.
use Rattle.std.specs.Prelude.{◌≡◌, ◌+◌, ◌-◌, ◌*◌, ◌≤◌, ◌<◌}
use Rattle.lists.specs.Prelude.{sym, ap, ap₂, ◌∙◌, List, ℕ, le_antisymm, arith, length, Float, rules}
use Rattle.complex.specs.declared.Complex.{Complex}
use Rattle.complex.specs.Arithmetic.{cadd, cmul}
use Rattle.complex.specs.Numbers.{entry_at}
use Rattle.complex.specs.Agreement.{sum_more, sum-none}
use Rattle.terms.specs.declared.Factor.{Factor}
use Rattle.terms.specs.Kinds.{right_number}
use Rattle.starts.specs.Products.{dot}
use Rattle.starts.proofs.entry.Statement.{statement}
use Rattle.starts.proofs.entry.Tie as tie

-- the right number of row k
abbrev number : Factor → List Float → ℕ → ℕ → ℕ → Complex
number factor right j below k = right_number factor (entry_at right (j + k * below))

abbrev invariant-loop : tie.invariant-loop-k
invariant-loop factor left i right j below n sum₀ k₀ sum k = (k ≤ n) × (sum ≡ dot k left i (number factor right j below))

abbrev decreases-loop : tie.decreases-loop-k
decreases-loop factor left i right j below n sum₀ k₀ sum k = n - k

abbrev start : tie.At-loop-k invariant-loop decreases-loop → tie.Start invariant-loop decreases-loop
start l = l.before.before.before

-- where this step's numbers stand
inside : (t : tie.In-loop-k invariant-loop decreases-loop) → let l = t.before in let x = (start l).args in
    (x.i + 2 * l.loop-k.k + 1 < length x.left.now) × (x.j + l.loop-k.k * x.below + 1 < length x.right.now)
inside t = let l = t.before in let h = (start l).requires in (omega (arith, t.loop-k-test.true, h.1), h.2 l.loop-k.k t.loop-k-test.true)

loop-again : tie.Need-loop-k-preserved invariant-loop decreases-loop
loop-again c =
    let p = c.before in let y = p.before in let z = y.before in let x = z.before.before.before in let t = x.before.before.before in let l = t.before in
    let a = (start l).args in let i = l.loop-k.invariant in let k = l.loop-k.k in (
      omega (arith, t.loop-k-test.true),
      c.plus-sum.ensures
          ∙ ap₂ cadd i.1 (p.times.ensures ∙ ap₂ cmul x.new-x.ensures (y.number-y.ensures ∙ ap (right_number a.factor) z.new.ensures))
          ∙ sym (sum_more _ (λ m. cmul (entry_at a.left.now (a.i + 2 * m)) (number a.factor a.right.now a.j a.below m)) k),
    )

pub entry_spec : {M : Type 1} → statement M
entry_spec =
    tie.close (tie.spec invariant-loop decreases-loop
    (λ c. (omega arith, sym (sum-none _ _ 0)))  -- loop-k-init
    (λ c. let h = inside c in omega arith) (λ c. let h = inside c in omega arith)  -- overflow_mul-p, overflow_add-p
    (λ c. let h = inside c in omega arith) (λ c. let h = inside c in omega arith)  -- overflow_mul-q, overflow_add-q
    (λ c. let h = inside c in omega arith) (λ c. let h = inside c.before in omega arith)  -- offset_bounds-left-p, bounds-left-p
    (λ c. let h = inside c.before in omega arith) (λ c. let h = inside c.before in omega arith)  -- overflow_add-p-in-loop-k, offset_bounds-left-p-in-loop-k
    (λ c. let h = inside c.before.before in omega arith) (λ c κs. search rules)  -- bounds-left-p-in-loop-k, new-x-requires
    (λ c. let h = inside c.before.before.before in omega arith) (λ c. let h = inside c.before.before.before.before in omega arith)  -- offset_bounds-right-q, bounds-right-q
    (λ c. let h = inside c.before.before.before.before in omega arith) (λ c. let h = inside c.before.before.before.before in omega arith)  -- overflow_add-q-in-loop-k, offset_bounds-right-q-in-loop-k
    (λ c. let h = inside c.before.before.before.before.before in omega arith) (λ c κs. search rules)  -- bounds-right-q-in-loop-k, new-requires
    (λ c κs. search rules) (λ c κs. search rules) (λ c κs. search rules)  -- number-y-requires, times-requires, plus-sum-requires
    (λ c. search rules) (λ c. search rules)  -- overflow_step-k, loop-k-smaller
    loop-again
    (λ c. let l = c.before in let a = (start l).args in let i = l.loop-k.invariant in
    i.1 ∙ ap (λ (k : ℕ). dot k a.left.now a.i (number a.factor a.right.now a.j a.below)) (le_antisymm i.0 c.loop-k-test.false)))  -- returns
