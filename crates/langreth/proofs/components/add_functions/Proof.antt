-- `langreth::components::add_functions` meets its contract: after i steps the first i sums are tested and written. Assumes nothing.
use Rattle.std.specs.Prelude.{◌≡◌, ◌≤◌, ◌-◌}
use Rattle.lists.specs.Prelude.{refl, arith, length, length-set, rules}
use Rattle.langreth.specs.Added.{Summed, summed-none, summed-next, summed-end}
use Rattle.langreth.proofs.components.add_functions.Statement.{statement}
use Rattle.langreth.proofs.components.add_functions.Tie as tie

abbrev invariant-loop : tie.invariant-loop-i
invariant-loop sum₀ other all₀ i₀ i-end sum all i = (i ≤ length sum₀) × (length sum ≡ length sum₀) × Summed sum₀ other i all sum

abbrev decreases-loop : tie.decreases-loop-i
decreases-loop sum₀ other all₀ i₀ i-end sum all i = length sum₀ - i

loop-again : tie.Need-loop-i-preserved invariant-loop decreases-loop
loop-again c =
    let l = c.before.before.before.before in
    let s = l.before.before.before in
    let i = l.loop-i.invariant in (
      omega arith,
      simp length-set i.1,
      summed-next s.args.sum.now s.args.other.now s.requires l.loop-i.i l.loop-i.all c.is_finite-all.result l.loop-i.sum _ i.2 (omega arith) refl c.is_finite-all.ensures,
    )

returns : tie.Need-returns invariant-loop decreases-loop
returns c =
    let l = c.before in
    let s = l.before.before.before in
    summed-end s.args.sum.now s.args.other.now s.requires l.loop-i.i l.loop-i.all l.loop-i.sum l.loop-i.invariant.2 c.loop-i-test.false

pub add_functions_spec : {M : Type 1} → statement M
add_functions_spec =
    tie.close
    (tie.spec
    invariant-loop
    decreases-loop
    (λ c. (search rules, search rules, summed-none _ _))  -- loop-i-init
    (λ c. search rules)  -- offset_bounds-sum-i
    (λ c. search rules)  -- bounds-sum-i
    (λ c. search rules)  -- offset_bounds-other-i
    (λ c. search rules)  -- bounds-other-i
    (λ c κs. search rules)  -- is_finite-all-requires
    (λ c. search rules)  -- offset_bounds-sum-i-in-loop-i
    (λ c. search rules)  -- bounds-sum-i-in-loop-i
    (λ c. search rules)  -- overflow_step-i
    (λ c. search rules)  -- loop-i-smaller
    loop-again
    (λ c. search rules)  -- shape_of-sum
    returns)
