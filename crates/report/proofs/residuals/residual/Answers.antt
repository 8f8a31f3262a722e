-- What has been seen so far is a largest from zero on. Assumes nothing.
use Rattle.lists.specs.Prelude.{sym, subst}
use Rattle.largest.specs.Larger.{FromZero, raised_in}
use Rattle.report.proofs.residuals.residual.Goals as goal

pub time_norm-largest-requires-clause-t_lt_points : goal.time_norm-largest-requires-clause-t_lt_points
time_norm-largest-requires-clause-t_lt_points c = (c.loop-t-test.true, subst FromZero (sym c.loop-t.invariant) (raised_in _ _ _))
