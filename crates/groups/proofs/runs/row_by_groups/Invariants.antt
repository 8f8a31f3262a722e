use Rattle.std.specs.Prelude.{◌-◌}
use Rattle.groups.proofs.runs.row_by_groups.Given as goal
use Rattle.groups.specs.Runs.{Reached}

-- the groups before p are passed, and what is left of the run is that from p on
abbrev pub invariant-loop-p : goal.invariant-loop-p
invariant-loop-p g l = Reached (g.R.Row.answer l.row) (g.R.Row.left l.row) l.orbitals l.from l.count l.fn.out l.p l.out

abbrev pub decreases-loop-p : goal.decreases-loop-p
decreases-loop-p g l = l.count - l.p
