-- `starts::lanes_row` meets its contract: before step p the lanes of the places before p are written. Assumes nothing.
use Rattle.std.specs.Prelude.{◌≡◌, ◌+◌, ◌-◌, ◌*◌, ◌≤◌, ◌<◌}
use Rattle.lists.specs.Prelude.{sym, subst, ◌∙◌, ⊎_elim, ℕ, eq-or-lt_of_le, arith, digits_lt, length, rules}
use Rattle.two_time.specs.Parts.{part-within}
use Rattle.rows.specs.Numbers.{number_at}
use Rattle.starts.specs.Products.{dot, right_at}
use Rattle.starts.proofs.lanes_row.Statement.{statement}
use Rattle.starts.proofs.lanes_row.Tie as tie

abbrev invariant-loop : tie.invariant-loop-p
invariant-loop columns left i right n places row₀ p₀ row p =
    (p ≤ places) × (length row ≡ 32) × ((q b : ℕ) → q < p → b < n → number_at row (q * n + b) ≡ dot n left i (right_at columns right q b))

abbrev decreases-loop : tie.decreases-loop-p
decreases-loop columns left i right n places row₀ p₀ row p = places - p

abbrev start : tie.At-loop-p invariant-loop decreases-loop → tie.Start invariant-loop decreases-loop
start l = l.before.before.before.before

-- where this step's right factor stands, and its first number
inside : (t : tie.In-loop-p invariant-loop decreases-loop) → let l = t.before in let x = (start l).args in
    (b k : ℕ) → b < x.orbitals → k < x.orbitals → x.columns.first + l.loop-p.p * x.columns.next + b * x.columns.beside + k * x.columns.below + 1 < length x.right.now
inside t b k = let l = t.before in (start l).requires.0.2 l.loop-p.p b k t.loop-p-test.true

first : (t : tie.In-loop-p invariant-loop decreases-loop) → let l = t.before in let x = (start l).args in x.columns.first + l.loop-p.p * x.columns.next + 1 < length x.right.now
first t = let some = (start t.before).requires.1.0 in let h = inside t 0 0 some some in omega arith

-- its lanes
fits : (t : tie.In-loop-p invariant-loop decreases-loop) → let x = (start t.before).args in t.before.loop-p.p * x.orbitals + x.orbitals ≤ 16
fits t = let s = start t.before in omega (arith, part-within s.args.orbitals t.loop-p-test.true, s.requires.1.1)

loop-again : tie.Need-loop-p-preserved invariant-loop decreases-loop
loop-again c =
    let w = c.before.before in let t = w.before.before.before.before in let l = t.before in let s = start l in let x = s.args in
    let i = l.loop-p.invariant in let p = l.loop-p.p in let m = w.block_row.ensures in (
      omega (arith, t.loop-p-test.true),
      m.long,
      λ q b h k.
          ⊎_elim
          (λ e. subst (λ (r : ℕ). number_at w.block_row.new.row (r * x.orbitals + b) ≡ dot x.orbitals x.left.now x.i (right_at x.columns x.right.now r b)) (sym e) (m.made b k))
          (λ less. m.kept (q * x.orbitals + b) (digits_lt less k) ∙ i.2 q b less k)
          (eq-or-lt_of_le (let v : q ≤ p = omega arith in v)),
    )

pub lanes_row_spec : {M : Type 1} → statement M
lanes_row_spec =
    tie.close (tie.spec invariant-loop decreases-loop
    (λ c. (omega arith, c.before.before.before.requires.1.2, λ q b h. absurd (omega arith)))  -- loop-p-init
    (λ c. let h = first c.before in omega arith) (λ c. let h = first c.before.before in omega arith)  -- overflow_mul-j, overflow_add-j
    (λ c. let f = fits c.before.before in omega arith)  -- overflow_mul-p
    (λ c κs. let t = c.before.before.before in let h = (start t.before).requires.0 in ((h.0, h.1, inside t), (fits t, t.before.loop-p.invariant.1)))  -- block_row-requires
    (λ c. search rules) (λ c. search rules)  -- overflow_step-p, loop-p-smaller
    loop-again
    (λ c. c.before.loop-p.invariant.1 ∙ sym (start c.before).requires.1.2)  -- shape_of-row
    (λ c. let i = c.before.loop-p.invariant in (i.1, λ p b h k. i.2 p b (omega (arith, h, c.loop-p-test.false)) k)))  -- returns
