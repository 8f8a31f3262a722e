-- The rows passed are not refused.
use Rattle.std.proofs.Common.{◌≡◌, ◌<◌, ℕ}
use Rattle.refusal.specs.Verdict.{pass, ask_all}
use Rattle.two_time.specs.Layout.{read_as}
use Rattle.support.specs.Support.{retarded_place}
use Rattle.support.proofs.retarded.Given as goal

abbrev pub invariant-loop-t : goal.invariant-loop-t
invariant-loop-t l = (k : ℕ) → k < l.t → ask_all l.shape.points (retarded_place l.shape.points l.shape.orbitals l.operand l.tolerance (read_as l.shape.capacity l.shape.orbitals l.xs) k) ≡ pass
