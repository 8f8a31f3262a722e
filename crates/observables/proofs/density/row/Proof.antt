-- `observables::density::row` meets its contract: after b steps the first b entries of the row are written. Assumes nothing.
use Rattle.std.specs.Prelude.{◌≡◌, ◌+◌, ◌-◌, ◌*◌, ◌≤◌, ◌<◌}
use Rattle.lists.specs.Prelude.{refl, sym, ap, ◌∙◌, ℕ, le_antisymm, arith, length, length-set, rules}
use Rattle.lists.specs.Indexed.{join}
use Rattle.lists.specs.Filling.{over, over_none, over-all}
use Rattle.complex.specs.Filling.{cells, cells-next, length-cells}
use Rattle.two_time.specs.Layout.{read_as}
use Rattle.observables.specs.Density.{density, density_of}
use Rattle.observables.proofs.density.row.Statement.{statement}
use Rattle.observables.proofs.density.row.Tie as tie

abbrev invariant-loop : tie.invariant-loop-b
invariant-loop lesser capacity orbitals time a out₀ b₀ out b =
    (b ≤ orbitals) × (length out ≡ length out₀) × (out ≡ over out₀ (cells b (density_of capacity orbitals lesser time a)))

abbrev decreases-loop : tie.decreases-loop-b
decreases-loop lesser capacity orbitals time a out₀ b₀ out b = orbitals - b

abbrev start : tie.At-loop-b invariant-loop decreases-loop → tie.Start invariant-loop decreases-loop
start c = c.before.before.before

-- the entry of this step lies within the row, which is short
within : (c : tie.In-loop-b invariant-loop decreases-loop) → (2 * c.before.loop-b.b + 1 < length c.before.loop-b.out) × (length c.before.loop-b.out ≤ 32)
within c = let p = (start c.before).requires in (omega (arith, p.1.1, p.0.orbitals-most), omega (arith, p.1.1, p.0.orbitals-most))

loop-again : tie.Need-loop-b-preserved invariant-loop decreases-loop
loop-again c =
    let i = c.before.before.loop-b.invariant in
    let h = within c.before in
    (omega arith, simp length-set i.1, cells-next _ _ _ _ _ _ i.2 c.entry-z.ensures refl (omega arith))

returns : tie.Need-returns invariant-loop decreases-loop
returns c =
    let l = c.before in
    let x = (start l).args in
    let f = density (read_as x.capacity x.orbitals x.lesser.now) x.time x.a in
    l.loop-b.invariant.2 ∙ ap (λ (k : ℕ). over x.out.now (cells k f)) (le_antisymm l.loop-b.invariant.0 c.loop-b-test.false)
    ∙ over-all x.out.now (cells x.orbitals f) (length-cells x.orbitals f ∙ sym (start l).requires.1.1)

pub row_spec : {M : Type 1} → statement M
unfolding join
row_spec =
    tie.close
    (tie.spec
    invariant-loop
    decreases-loop
    (λ c. (omega arith, refl, sym (over_none _)))  -- loop-b-init
    (λ c κs. let p = (start c.before).requires in (p.0, (p.1.0, c.loop-b-test.true)))  -- entry-z-requires
    (λ c. let h = within c.before in omega arith)  -- overflow_mul-out
    (λ c. let h = within c.before in omega arith)  -- offset_bounds-out-b
    (λ c. let h = within c.before in omega arith)  -- bounds-out-b
    (λ c. let h = within c.before in omega arith)  -- overflow_mul-out-in-loop-b
    (λ c. let h = within c.before in omega arith)  -- overflow_add-out
    (λ c. let h = within c.before in omega arith)  -- offset_bounds-out-b-in-loop-b
    (λ c. let h = within c.before in simp length-set (omega arith))  -- bounds-out-b-in-loop-b
    (λ c. search rules) (λ c. search rules)  -- overflow_step-b, loop-b-smaller
    loop-again
    (λ c. c.before.loop-b.invariant.1)  -- shape_of-out
    returns)
