-- `groups::packing::pack_block_row` meets its contract: before step b the first b numbers are written. Assumes nothing.
use Rattle.std.specs.Prelude.{◌≡◌, ◌+◌, ◌-◌, ◌*◌, ◌≤◌, ◌<◌}
use Rattle.lists.specs.Prelude.{refl, sym, ap, ◌∙◌, ℕ, arith, length, length-set, rules}
use Rattle.complex.specs.Numbers.{entry_at}
use Rattle.terms.specs.Kinds.{right_number}
use Rattle.groups.specs.Right.{right_beside}
use Rattle.groups.specs.Packed.{Packed, packed_none, packed_next, packed_end}
use Rattle.groups.proofs.packing.pack_block_row.Statement.{statement}
use Rattle.groups.proofs.packing.pack_block_row.Tie as tie

abbrev invariant-loop : tie.invariant-loop-b
invariant-loop factor right n j from row₀ b₀ row b = (b ≤ n) × Packed from b (λ d. right_number factor (entry_at right (j + d * right_beside factor n))) row₀ row

abbrev decreases-loop : tie.decreases-loop-b
decreases-loop factor right n j from row₀ b₀ row b = n - b

abbrev start : tie.At-loop-b invariant-loop decreases-loop → tie.Start invariant-loop decreases-loop
start l = l.before.before.before

-- the place of this step
inside : (c : tie.After-right_beside-beside invariant-loop decreases-loop) → let l = c.before.before in let x = (start l).args in
    x.j + l.loop-b.b * c.right_beside-beside.result + 1 < length x.right.now
inside c =
    let l = c.before.before in
    rw c.right_beside-beside.ensures ((start l).requires.1 l.loop-b.b c.before.loop-b-test.true)

-- its lane
lane : (c : tie.After-right_number-y invariant-loop decreases-loop) → let l = c.before.before.before in ((start l).args.from + l.loop-b.b < 16) × (length l.loop-b.row ≡ 32)
lane c = let t = c.before.before in (omega (arith, t.loop-b-test.true, (start t.before).requires.0.0), t.before.loop-b.invariant.1.long)

loop-again : tie.Need-loop-b-preserved invariant-loop decreases-loop
loop-again c =
    let d = c.before in let t = d.before in let l = t.before in let x = (start l).args in
    let b = l.loop-b.b in (
      omega (arith, t.loop-b-test.true),
      packed_next x.from (λ m. right_number x.factor (entry_at x.right.now (x.j + m * right_beside x.factor x.orbitals))) b x.row.now l.loop-b.row _ c.right_number-y.result l.loop-b.invariant.1 (lane c).0
          (c.right_number-y.ensures ∙ ap (λ (m : ℕ). right_number x.factor (entry_at x.right.now (x.j + b * m))) d.right_beside-beside.ensures)
          refl,
    )

pub pack_block_row_spec : {M : Type 1} → statement M
pack_block_row_spec =
    tie.close (tie.spec invariant-loop decreases-loop
    (λ c. (omega arith, packed_none _ _ _ c.before.before.requires.0.1))  -- loop-b-init
    (λ c κs. let n = (start c.before).requires in omega arith)  -- right_beside-beside-requires
    (λ c. let h = inside c in omega arith) (λ c. let h = inside c in omega arith)  -- overflow_mul-b, overflow_add-j
    (λ c κs. inside c)  -- right_number-y-requires
    (λ c. let h = lane c in omega arith) (λ c. let h = lane c in omega arith) (λ c. let h = lane c in omega arith)  -- overflow_add-c, offset_bounds-row-c, bounds-row-c
    (λ c. let h = lane c in omega arith) (λ c. let h = lane c in omega arith)  -- overflow_add-row, offset_bounds-row-c-in-loop-b
    (λ c. let h = lane c in simp length-set (omega arith))  -- bounds-row-c-in-loop-b
    (λ c. search rules) (λ c. search rules)  -- overflow_step-b, loop-b-smaller
    loop-again
    (λ c. c.before.loop-b.invariant.1.long ∙ sym (start c.before).requires.0.1)  -- shape_of-row
    (λ c. let i = c.before.loop-b.invariant in packed_end _ _ _ _ _ _ i.0 c.loop-b-test.false i.1))  -- returns
