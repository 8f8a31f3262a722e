-- `observables::product::is_finite` meets its contract: after a steps the first a rows are tested. Assumes nothing.
use Rattle.std.specs.Prelude.{◌≡◌, ◌&&◌, ◌-◌, ◌≤◌}
use Rattle.lists.specs.Prelude.{sym, ap₂, ◌∙◌, le_antisymm, arith, rules}
use Rattle.lists.specs.Indexed.{all_in}
use Rattle.lists.specs.Steps.{all_more, all_none}
use Rattle.complex.specs.Arithmetic.{cfinite}
use Rattle.block.specs.Operations.{all_finite}
use Rattle.observables.specs.Density.{product_of}
use Rattle.observables.proofs.product.is_finite.Statement.{statement}
use Rattle.observables.proofs.product.is_finite.Tie as tie

abbrev invariant-loop : tie.invariant-loop-a
invariant-loop values lesser capacity orbitals time all₀ a₀ all a =
    (a ≤ orbitals) × (all ≡ all_in a orbitals (λ i j. cfinite (product_of capacity orbitals values lesser time i j)))

abbrev decreases-loop : tie.decreases-loop-a
decreases-loop values lesser capacity orbitals time all₀ a₀ all a = orbitals - a

pub is_finite_spec : {M : Type 1} → statement M
unfolding all_finite
is_finite_spec =
    tie.close
    (tie.spec
    invariant-loop
    decreases-loop
    (λ c. (omega arith, sym (all_none _)))  -- loop-a-init
    (λ c κs. let h = c.before.before.before.before.requires in (h.0, (c.loop-a-test.true, h.1)))  -- row_is_finite-row-requires
    (λ c. search rules) (λ c. search rules)  -- overflow_step-a, loop-a-smaller
    (λ c. (omega arith, rw all_more (ap₂ ◌&&◌ c.before.before.loop-a.invariant.1 c.row_is_finite-row.ensures)))  -- loop-a-preserved
    (λ c. c.before.loop-a.invariant.1 ∙ rw (le_antisymm c.before.loop-a.invariant.0 c.loop-a-test.false)))  -- returns
