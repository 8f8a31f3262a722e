-- `observables::density::block` meets its contract: after a steps the first a rows are written. Assumes nothing.
use Rattle.std.specs.Prelude.{◌<◌, ◌≡◌, ◌+◌, ◌-◌, ◌*◌, ◌≤◌}
use Rattle.lists.specs.Prelude.{sym, ap, ◌∙◌, List, ℕ, le_antisymm, le_trans, arith, Float, length, replicate, length-replicate, length-take}
use Rattle.lists.specs.Prelude.{length-drop, rules, same_len_mid}
use Rattle.lists.specs.Indexed.{join}
use Rattle.lists.specs.Steps.{join_more}
use Rattle.lists.specs.Reading.{length-join}
use Rattle.lists.specs.Filling.{over, over_none, over-part}
use Rattle.complex.specs.Arithmetic.{plus_zero}
use Rattle.complex.specs.Filling.{cells, length-cells}
use Rattle.block.specs.Block.{lay_out}
use Rattle.matrix.proofs.Filled.{block_made}
use Rattle.two_time.specs.Layout.{read_as}
use Rattle.two_time.specs.Places.{product-most}
use Rattle.two_time.specs.Parts.{part-within}
use Rattle.observables.specs.Density.{density, density_of}
use Rattle.observables.proofs.density.block.Statement.{statement}
use Rattle.observables.proofs.density.block.Tie as tie

abbrev invariant-loop : tie.invariant-loop-a
invariant-loop lesser capacity orbitals time values₀ width a₀ values a =
    (a ≤ orbitals) × (length values ≡ 512) × (values ≡ over values₀ (join a (λ i. cells orbitals (density_of capacity orbitals lesser time i))))

abbrev decreases-loop : tie.decreases-loop-a
decreases-loop lesser capacity orbitals time values₀ width a₀ values a = orbitals - a

abbrev start : tie.At-loop-a invariant-loop decreases-loop → tie.Start invariant-loop decreases-loop
start c = c.before.before

-- this step's row lies within the block
within : (l : tie.At-loop-a invariant-loop decreases-loop) → l.loop-a.a < (start l).args.orbitals → let w = 2 * (start l).args.orbitals in l.loop-a.a * w + w ≤ 512
within l under =
    let n = (start l).args.orbitals in
    le_trans (part-within (2 * n) under) (product-most n (2 * n) {m = 16} {n = 32} (start l).requires.orbitals-most (omega arith))

loop-again : tie.Need-loop-a-preserved invariant-loop decreases-loop
loop-again c =
    let r = c.before in
    let t = r.before.before in
    let l = t.before in
    let x = (start l).args in
    let n = x.orbitals in
    let first = l.loop-a.a * (2 * n) in
    let width = first + 2 * n - first in
    let row : ℕ → List Float = λ i. cells n (density (read_as x.capacity n x.lesser.now) x.time i) in
    let h = within t.before t.loop-a-test.true in (
      omega arith,
      same_len_mid {X = Float} first width l.loop-a.values r.row.new.out c.values-in-loop-a-1.given ∙ l.loop-a.invariant.1,
      rw (l.loop-a.invariant.2, r.row.ensures, join_more)
          (over-part (replicate 512 plus_zero) (join l.loop-a.a row) (row l.loop-a.a) first width (length-join l.loop-a.a (2 * n) row (λ i b. length-cells n _)) (length-cells n _ ∙ omega arith)),
    )

returns : tie.Need-returns invariant-loop decreases-loop
unfolding lay_out
returns c =
    let l = c.before in
    let x = (start l).args in
    let n = x.orbitals in
    let rho = density (read_as x.capacity n x.lesser.now) x.time in
    block_made n n rho _ (l.loop-a.invariant.2 ∙ ap (λ (k : ℕ). over (replicate 512 plus_zero) (join k (λ i. cells n (rho i)))) (le_antisymm l.loop-a.invariant.0 c.loop-a-test.false))

pub block_spec : {M : Type 1} → statement M
unfolding join
block_spec =
    tie.close
    (tie.spec
    invariant-loop
    decreases-loop
    (λ c. omega (arith, c.before.requires.orbitals-most))  -- overflow_mul-width
    (λ c. (omega arith, length-replicate 512 plus_zero, sym (over_none _)))  -- loop-a-init
    (λ c. let h = within c.before c.loop-a-test.true in omega arith)  -- overflow_mul-start
    (λ c. let h = within c.before c.loop-a-test.true in omega arith)  -- overflow_add-end
    (λ c. let h = within c.before c.loop-a-test.true in omega arith)  -- offset_bounds-values-start
    (λ c. let h = within c.before c.loop-a-test.true in omega arith)  -- slice_bounds-row-count
    (λ c. let h = within c.before c.loop-a-test.true in omega arith)  -- slice_bounds-values-start
    (λ c. let h = within c.before c.loop-a-test.true in omega arith)  -- slice_bounds-values-end
    (λ c κs. let t = c.before in let h = within t.before t.loop-a-test.true in let i = t.before.loop-a.invariant in ((start t.before).requires, (t.loop-a-test.true, simp (length-take, length-drop) (omega arith))))  -- row-requires
    (λ c. search rules) (λ c. search rules)  -- overflow_step-a, loop-a-smaller
    loop-again
    returns)
