-- `starts::block_row` meets its contract: before step b the first b numbers are written. Assumes nothing.
use Rattle.std.specs.Prelude.{◌≡◌, ◌+◌, ◌-◌, ◌*◌, ◌≤◌, ◌<◌}
use Rattle.lists.specs.Prelude.{refl, sym, ◌∙◌, List, ℕ, arith, length, length-set, Float, rules}
use Rattle.complex.specs.declared.Complex.{Complex}
use Rattle.complex.specs.Numbers.{entry_at}
use Rattle.terms.specs.Kinds.{right_number}
use Rattle.groups.specs.Packed.{Packed, packed_none, packed_next, packed_end}
use Rattle.starts.specs.declared.Right.{Right}
use Rattle.starts.specs.Products.{dot}
use Rattle.starts.proofs.block_row.Statement.{statement}
use Rattle.starts.proofs.block_row.Tie as tie

-- column b of the row
abbrev made : Right → List Float → ℕ → List Float → ℕ → ℕ → ℕ → Complex
made columns left i right j n b = dot n left i (λ k. right_number columns.factor (entry_at right (j + b * columns.beside + k * columns.below)))

abbrev invariant-loop : tie.invariant-loop-b
invariant-loop columns left i right j n from row₀ factor b₀ row b = (b ≤ n) × Packed from b (made columns left i right j n) row₀ row

abbrev decreases-loop : tie.decreases-loop-b
decreases-loop columns left i right j n from row₀ factor b₀ row b = n - b

abbrev start : tie.At-loop-b invariant-loop decreases-loop → tie.Start invariant-loop decreases-loop
start l = l.before.before.before.before

-- where this step's column stands
inside : (s : tie.After-struct_known-1 invariant-loop decreases-loop) → let l = s.before.before in let x = (start l).args in
    (k : ℕ) → k < x.orbitals → x.j + l.loop-b.b * x.columns.beside + k * x.columns.below + 1 < length x.right.now
inside s k h = let l = s.before.before in (start l).requires.0.2 l.loop-b.b k s.before.loop-b-test.true h

-- its first number
first : (s : tie.After-struct_known-1 invariant-loop decreases-loop) → let l = s.before.before in let x = (start l).args in x.j + l.loop-b.b * x.columns.beside + 1 < length x.right.now
first s = let h = inside s 0 (omega (arith, s.before.loop-b-test.true)) in omega arith

-- its lane
lane : (c : tie.After-entry-z invariant-loop decreases-loop) → let l = c.before.before.before in ((start l).args.from + l.loop-b.b < 16) × (length l.loop-b.row ≡ 32)
lane c = let t = c.before.before in (omega (arith, t.loop-b-test.true, (start t.before).requires.1.0), t.before.loop-b.invariant.1.long)

loop-again : tie.Need-loop-b-preserved invariant-loop decreases-loop
loop-again c =
    let t = c.before.before in let l = t.before in let x = (start l).args in
    let b = l.loop-b.b in (
      omega (arith, t.loop-b-test.true),
      packed_next x.from (made x.columns x.left.now x.i x.right.now x.j x.orbitals) b x.row.now l.loop-b.row _ c.entry-z.result l.loop-b.invariant.1 (lane c).0 c.entry-z.ensures refl,
    )

pub block_row_spec : {M : Type 1} → statement M
block_row_spec =
    tie.close (tie.spec invariant-loop decreases-loop
    (λ c. (omega arith, packed_none _ _ _ c.before.before.before.requires.1.1))  -- loop-b-init
    (λ c. let h = first c in omega arith) (λ c. let h = first c in omega arith)  -- overflow_mul-q, overflow_add-q
    (λ c κs. let h = (start c.before.before).requires.0 in (h.0, h.1, inside c))  -- entry-z-requires
    (λ c. let h = lane c in omega arith) (λ c. let h = lane c in omega arith) (λ c. let h = lane c in omega arith)  -- overflow_add-c, offset_bounds-row-c, bounds-row-c
    (λ c. let h = lane c in omega arith) (λ c. let h = lane c in omega arith)  -- overflow_add-row, offset_bounds-row-c-in-loop-b
    (λ c. let h = lane c in simp length-set (omega arith))  -- bounds-row-c-in-loop-b
    (λ c. search rules) (λ c. search rules)  -- overflow_step-b, loop-b-smaller
    loop-again
    (λ c. c.before.loop-b.invariant.1.long ∙ sym (start c.before).requires.1.1)  -- shape_of-row
    (λ c. let i = c.before.loop-b.invariant in packed_end _ _ _ _ _ _ i.0 c.loop-b-test.false i.1))  -- returns
