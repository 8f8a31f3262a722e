-- What has been seen so far is a largest from `largest` on. Assumes nothing.
use Rattle.lists.specs.Prelude.{sym, subst}
use Rattle.largest.specs.Larger.{FromZero, raised-from}
use Rattle.report.proofs.residuals.time_norm.Goals as goal

pub place_norm-most-requires-clause-t_lt_points : goal.place_norm-most-requires-clause-t_lt_points
place_norm-most-requires-clause-t_lt_points c = (c.requires.t_lt_points.0, c.loop-u-test.true, subst FromZero (sym c.loop-u.invariant) (raised-from _ _ _ c.requires.t_lt_points.1))
