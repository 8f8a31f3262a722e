-- A slice begins within the numbers. Assumes nothing.
use Rattle.std.proofs.Common.{length, ◌≤◌}
use Rattle.replay.proofs.lent.stored.Given as goal

abbrev pub invariant-loop-slot : goal.invariant-loop-slot
invariant-loop-slot g l = l.begin ≤ length l.numbers
