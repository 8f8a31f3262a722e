-- The rows passed are finite.
use Rattle.std.proofs.Common.{◌≡◌, ◌+◌, ◌*◌, ◌<◌, ℕ}
use Rattle.refusal.specs.Verdict.{pass, ask_all}
use Rattle.refusal.specs.Checks.{finite_at}
use Rattle.two_time.proofs.capacity.finite_points.Given as goal

abbrev pub invariant-loop-t : goal.invariant-loop-t
invariant-loop-t l = (k : ℕ) → k < l.t → ask_all (l.points * l.block) (λ i. finite_at l.operand l.xs (i + k * l.width)) ≡ pass
