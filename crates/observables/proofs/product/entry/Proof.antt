-- `observables::product::entry` meets its contract: after k steps the sum has the first k terms of the product's entry. Assumes nothing.
use Rattle.std.specs.Prelude.{◌≡◌, ◌-◌, ◌≤◌}
use Rattle.lists.specs.Prelude.{sym, ◌∙◌, List, ℕ, le_antisymm, arith, Float, rules}
use Rattle.complex.specs.declared.Complex.{Complex}
use Rattle.complex.specs.Arithmetic.{czero, cmul}
use Rattle.complex.specs.Sum.{sum_from}
use Rattle.complex.specs.Agreement.{sum_more, sum-none}
use Rattle.block.specs.Block.{entries_in}
use Rattle.block.specs.Operations.{product}
use Rattle.observables.specs.Density.{density_of}
use Rattle.observables.proofs.product.entry.Statement.{statement}
use Rattle.observables.proofs.product.entry.Tie as tie

-- term k
abbrev term : List Float → List Float → ℕ → ℕ → ℕ → ℕ → ℕ → ℕ → Complex
term values lesser capacity orbitals time a b k = cmul (entries_in orbitals values a k) (density_of capacity orbitals lesser time k b)

abbrev invariant-loop : tie.invariant-loop-k
invariant-loop values lesser capacity orbitals time a b sum₀ k₀ sum k = (k ≤ orbitals) × (sum ≡ sum_from czero (term values lesser capacity orbitals time a b) 0 k)

abbrev decreases-loop : tie.decreases-loop-k
decreases-loop values lesser capacity orbitals time a b sum₀ k₀ sum k = orbitals - k

pub entry_spec : {M : Type 1} → statement M
unfolding product
entry_spec =
    tie.close
    (tie.spec
    invariant-loop
    decreases-loop
    (λ c. (omega arith, sym (sum-none czero _ 0)))  -- loop-k-init
    (λ c κs. let h = c.before.before.before.before.requires in (omega arith, omega arith, h.0.orbitals-most, h.1.2))  -- observable_entry-x-requires
    (λ c κs. let h = c.before.before.before.before.before.requires in (h.0, (omega arith, omega arith)))  -- entry-rho-requires
    (λ c κs. search rules) (λ c κs. search rules) (λ c. search rules) (λ c. search rules)  -- times-requires, plus-sum-requires, overflow_step-k, loop-k-smaller
    (λ c. (omega arith, let t = c.before in rw (c.plus-sum.ensures, t.times.ensures, t.before.entry-rho.ensures, t.before.before.observable_entry-x.ensures, t.before.before.before.before.loop-k.invariant.1, sum_more)))  -- loop-k-preserved
    (λ c. c.before.loop-k.invariant.1 ∙ rw (le_antisymm c.before.loop-k.invariant.0 c.loop-k-test.false)))  -- returns
