-- The steps passed rise.
use Rattle.std.proofs.Common.{◌≡◌, ◌+◌, ◌<◌, ℕ, true, get_or}
use Rattle.lists.specs.Prelude.{nan, lt}
use Rattle.refusal.proofs.checks.rising_prefix.Given as goal

abbrev pub invariant-loop-i : goal.invariant-loop-i
invariant-loop-i l = (k : ℕ) → k < l.i → lt (get_or l.times k nan) (get_or l.times (k + 1) nan) ≡ true
