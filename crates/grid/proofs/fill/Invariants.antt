-- The weights passed are written over, and the others are as they were.
use Rattle.std.proofs.Common.{◌≡◌, length}
use Rattle.lists.specs.Filling.{over}
use Rattle.lists.specs.Singles.{singles}
use Rattle.grid.specs.Weights.{full_weight}
use Rattle.grid.proofs.fill.Given as goal

abbrev pub invariant-loop-i : goal.invariant-loop-i
invariant-loop-i l = (length l.weights ≡ length l.fn.weights) × (l.weights ≡ over l.fn.weights (singles l.i (full_weight l.points l.times)))
