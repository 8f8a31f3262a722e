-- The definitions of the report, of the components that are lent for it.
use Rattle.lists.specs.Prelude.{ℕ, Float}
use Rattle.refusal.specs.Verdict.{Verdict}
use Rattle.two_time.specs.Layout.{TwoTime}
use Rattle.report.specs.declared.ConsistencyReport.{ConsistencyReport}
use Rattle.report.specs.declared.components.Components.{Components}
use Rattle.report.specs.declared.identities.Identity.{Identity}
use Rattle.report.specs.Residuals.{deviation_of, residual_at, residual_of, report_of}
use Rattle.report.specs.Calls.{report_checks}
use Rattle.report.specs.Passed.{Passed}

module _ (x : Components) where
  -- the checks of the report
  abbrev pub checks_by : Verdict
  checks_by = report_checks x.points x.orbitals x.retarded.now x.advanced.now x.lesser.now x.greater.now

  -- what they say of the components
  abbrev pub passed_by : Type 0
  passed_by = Passed x.points x.orbitals x.retarded.now x.advanced.now x.lesser.now x.greater.now

  -- what an identity leaves at a place
  abbrev pub left_by : Identity → TwoTime
  left_by = deviation_of x.points x.orbitals x.retarded.now x.advanced.now x.lesser.now x.greater.now

  -- the norm of it, where the identity counts the place
  abbrev pub residual_by : Identity → ℕ → ℕ → Float
  residual_by = residual_at x.points x.orbitals x.retarded.now x.advanced.now x.lesser.now x.greater.now

  -- the residual of an identity
  abbrev pub largest_by : Identity → Float
  largest_by = residual_of x.points x.orbitals x.retarded.now x.advanced.now x.lesser.now x.greater.now

  -- the seven
  abbrev pub report_by : ConsistencyReport
  report_by = report_of x.points x.orbitals x.retarded.now x.advanced.now x.lesser.now x.greater.now
