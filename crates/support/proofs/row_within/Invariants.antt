-- The places passed are not refused, and those up to the diagonal are not asked.
use Rattle.std.proofs.Common.{◌≡◌, ◌<◌, ◌≤◌, ℕ}
use Rattle.refusal.specs.Verdict.{pass}
use Rattle.two_time.specs.Layout.{read_as}
use Rattle.support.specs.Support.{retarded_place}
use Rattle.support.proofs.row_within.Given as goal

abbrev pub invariant-loop-u : goal.invariant-loop-u
invariant-loop-u l =
    (l.t < l.u) × (l.u ≤ l.shape.points)
    × ((k : ℕ) → k < l.u → retarded_place l.shape.points l.shape.orbitals l.operand l.tolerance (read_as l.shape.capacity l.shape.orbitals l.xs) l.t k ≡ pass)
