-- `observables::product::row_is_finite` meets its contract: after b steps the first b entries of the row are tested. Assumes nothing.
use Rattle.std.specs.Prelude.{◌≡◌, ◌&&◌, ◌-◌, ◌≤◌}
use Rattle.lists.specs.Prelude.{sym, ap, ap₂, ◌∙◌, le_antisymm, arith, rules}
use Rattle.lists.specs.Indexed.{all_below}
use Rattle.lists.specs.Steps.{all_more, all_none}
use Rattle.complex.specs.Arithmetic.{cfinite}
use Rattle.observables.specs.Density.{product_of}
use Rattle.observables.proofs.product.row_is_finite.Statement.{statement}
use Rattle.observables.proofs.product.row_is_finite.Tie as tie

abbrev invariant-loop : tie.invariant-loop-b
invariant-loop values lesser capacity orbitals time a all₀ b₀ all b =
    (b ≤ orbitals) × (all ≡ all_below b (λ j. cfinite (product_of capacity orbitals values lesser time a j)))

abbrev decreases-loop : tie.decreases-loop-b
decreases-loop values lesser capacity orbitals time a all₀ b₀ all b = orbitals - b

pub row_is_finite_spec : {M : Type 1} → statement M
row_is_finite_spec =
    tie.close
    (tie.spec
    invariant-loop
    decreases-loop
    (λ c. (omega arith, sym (all_none _)))  -- loop-b-init
    (λ c κs. let h = c.before.before.before.before.requires in (h.0, (h.1.0, c.loop-b-test.true, h.1.1)))  -- entry-z-requires
    (λ c κs. search rules) (λ c. search rules) (λ c. search rules)  -- is_finite-all-requires, overflow_step-b, loop-b-smaller
    (λ c. (omega arith, rw all_more (ap₂ ◌&&◌ c.before.before.before.loop-b.invariant.1 (c.is_finite-all.ensures ∙ ap cfinite c.before.entry-z.ensures))))  -- loop-b-preserved
    (λ c. c.before.loop-b.invariant.1 ∙ rw (le_antisymm c.before.loop-b.invariant.0 c.loop-b-test.false)))  -- returns
