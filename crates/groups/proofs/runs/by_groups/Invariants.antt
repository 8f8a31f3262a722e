use Rattle.std.specs.Prelude.{◌≡◌, ◌+◌, ◌-◌, ◌≤◌}
use Rattle.lists.specs.Prelude.{ℕ, Bool, List, Float, length}
use Rattle.lanes.specs.Filled.{Filled}
use Rattle.groups.specs.Runs.{Writes}
use Rattle.groups.proofs.runs.by_groups.Given as goal

-- after the groups before p the first p blocks are finite and written
abbrev pub invariant-loop-p : goal.invariant-loop-p
invariant-loop-p g l =
    record {
      reached : l.p ≤ l.count;
      long : length l.out ≡ length l.fn.out;
      filled : (finite : ℕ → Bool) (made : ℕ → List Float) → Writes l.orbitals l.from (l.from + l.count) finite made (λ u places x r y. goal.G-post g l.group u places x r y)
          → Filled l.count (λ p. finite (l.from + p)) (λ p. made (l.from + p)) l.p l.fn.out l.out;
    }

abbrev pub decreases-loop-p : goal.decreases-loop-p
decreases-loop-p g l = l.count - l.p
