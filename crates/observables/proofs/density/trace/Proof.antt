-- `observables::density::trace` meets its contract: after a steps the sum has the first a entries of the diagonal. Assumes nothing.
use Rattle.std.specs.Prelude.{◌≡◌, ◌-◌, ◌≤◌}
use Rattle.lists.specs.Prelude.{sym, ◌∙◌, le_antisymm, arith, rules}
use Rattle.complex.specs.Arithmetic.{czero}
use Rattle.complex.specs.Sum.{sum_from}
use Rattle.complex.specs.Agreement.{sum_more, sum-none}
use Rattle.block.specs.Operations.{trace}
use Rattle.observables.specs.Density.{density_of}
use Rattle.observables.proofs.density.trace.Statement.{statement}
use Rattle.observables.proofs.density.trace.Tie as tie

abbrev invariant-loop : tie.invariant-loop-a
invariant-loop lesser capacity orbitals time sum₀ a₀ sum a = (a ≤ orbitals) × (sum ≡ sum_from czero (λ k. density_of capacity orbitals lesser time k k) 0 a)

abbrev decreases-loop : tie.decreases-loop-a
decreases-loop lesser capacity orbitals time sum₀ a₀ sum a = orbitals - a

pub trace_spec : {M : Type 1} → statement M
unfolding trace
trace_spec =
    tie.close
    (tie.spec
    invariant-loop
    decreases-loop
    (λ c. (omega arith, sym (sum-none czero _ 0)))  -- loop-a-init
    (λ c κs. (c.before.before.before.requires, (c.loop-a-test.true, c.loop-a-test.true)))  -- entry-requires
    (λ c κs. search rules) (λ c. search rules) (λ c. search rules)  -- plus-sum-requires, overflow_step-a, loop-a-smaller
    (λ c. (omega arith, rw (c.plus-sum.ensures, c.before.entry.ensures, c.before.before.before.loop-a.invariant.1, sum_more)))  -- loop-a-preserved
    (λ c. c.before.loop-a.invariant.1 ∙ rw (le_antisymm c.before.loop-a.invariant.0 c.loop-a-test.false)))  -- returns
