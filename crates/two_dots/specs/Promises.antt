-- What a run with a bond flow answers, and L12 of two such calls.
use Rattle.std.specs.Prelude.{◌≡◌}
use Rattle.lists.specs.Prelude.{true, List, Float}
use Rattle.transient_run.specs.Calls.{Run}
use Rattle.observables.specs.declared.Observed.{Observed}
use Rattle.observables.specs.Calls.{bond_flow_into}
use Rattle.two_runs.specs.Promises.{Step, run_step, step_in}
use Rattle.two_dots.specs.declared.Bond.{Bond}
use Rattle.two_dots.specs.declared.Flow.{Flow}
use Rattle.two_dots.specs.Statement.{Split, Dots, TwoDots}

-- a run, and what a bond flow answers of what it left
pub record Flowed : Type 0 where
  pub ran : Step
  pub flow : Observed

abbrev pub flow_of : Run → Bond → Step → Flowed
flow_of r q s = record { ran = s; flow = bond_flow_into r.capacity r.points r.orbitals s.outcome.lesser q.time q.a q.b q.hopping q.charge }

abbrev pub run_flow : Run → Bond → Flowed
run_flow r q = flow_of r q (run_step r)

-- the same in what a call gave back, and its slices G^R, G^<, K and X
abbrev pub flow_in : Flow → List Float → List Float → List Float → List Float → Flowed
flow_in f retarded lesser kernel lesser_advanced = record { ran = step_in f.run retarded lesser kernel lesser_advanced; flow = f.flow }

-- L12 of two calls, given r and r', that answered x and x': of what they left, and of the flow of a bond within the first group
pub record Separate (r r' : Run) (q : Bond) (x x' : Flowed) : Type 0 where
  pub left : TwoDots r r' x.ran.outcome x'.ran.outcome
  pub flow : (first : Split) → Dots first r r' x.ran.outcome x'.ran.outcome → first q.a ≡ true → first q.b ≡ true → x.flow ≡ x'.flow
