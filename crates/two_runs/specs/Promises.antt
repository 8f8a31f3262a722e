-- What a run with its observables answers, and demand 3 of two such calls.
use Rattle.std.specs.Prelude.{Option, Some, None, ◌≡◌, ◌≤◌}
use Rattle.lists.specs.Prelude.{true, List, ℕ, Float}
use Rattle.refusal.specs.Verdict.{Verdict}
use Rattle.matrix.specs.declared.DenseMatrix.{DenseMatrix}
use Rattle.dyson.specs.Calls.{Solved as DysonSolved}
use Rattle.transient_run.specs.declared.Session.{Session}
use Rattle.transient_run.specs.declared.Booked.{Booked}
use Rattle.transient_run.specs.Form.{Form}
use Rattle.transient_run.specs.Form.Form.{empty, occupied}
use Rattle.transient_run.specs.Calls.{Run, run_of, Outcome, is_accepted, booked, transient_run}
use Rattle.observables.specs.declared.Observed.{Observed}
use Rattle.observables.specs.Calls.{particle_number, one_body_expectation, bond_flow_into}
use Rattle.causality.specs.Dyson.{call_of}
use Rattle.causality.specs.Statement.{SameBlock, Comparable, Demanded}
use Rattle.two_runs.specs.declared.Question.{Question}
use Rattle.two_runs.specs.declared.Answers.{Answers}
use Rattle.two_runs.specs.declared.Given.{Given}
use Rattle.two_runs.specs.declared.DysonGiven.{DysonGiven}

-- the form of a run: from the block g0, where the device is occupied
abbrev pub form_from : Option DenseMatrix → Form
form_from None = empty
form_from (Some g0) = occupied g0

-- the run that is given x, whose outputs and scratch hold these slices: G^R, G^<, K and X
abbrev pub run_with : Given → List Float → List Float → List Float → List Float → Run
run_with x retarded lesser kernel lesser_advanced =
    run_of (form_from x.g0) x.session x.desk x.shape x.tolerance x.times.now x.free.now x.self_energy.now x.lesser_self_energy.now retarded lesser kernel lesser_advanced

-- and the Dyson call that is given x, as a run: G and K
abbrev pub call_with : DysonGiven → List Float → List Float → Run
call_with x retarded kernel = call_of x.points x.orbitals x.tolerance x.times.now x.free.now x.self_energy.now retarded kernel

-- what a call answers and leaves, and the session after it
pub record Step : Type 0 where
  pub outcome : Outcome
  pub session : Session

-- the call in a session, at a desk, and the run at its own
abbrev pub step_of : Session → ℕ → Outcome → Step
step_of session desk o = record { outcome = o; session = booked session desk o.answer }

abbrev pub run_step : Run → Step
run_step r = step_of r.session r.desk (transient_run r)

-- what a call gave back, and its slices G^R, G^<, K and X
abbrev pub step_in : Booked → List Float → List Float → List Float → List Float → Step
step_in b retarded lesser kernel lesser_advanced =
    record { outcome = record { answer = b.answer; retarded = retarded; lesser = lesser; kernel = kernel; lesser_advanced = lesser_advanced }; session = b.session }

-- a run, and what the observables answer of what it left
pub record Answered : Type 0 where
  pub ran : Step
  pub number : Observed
  pub expectation : Observed
  pub flow : Observed

-- the answers of a run, given as r, that left o: an observable "is asked of a run when it is lent the lesser function as that run left it, with that
-- run's N and n", and its capacity
abbrev pub answers_of : Run → Question → DenseMatrix → Step → Answered
answers_of r q x s =
    let o = s.outcome in
    record {
      ran = s;
      number = particle_number r.capacity r.points r.orbitals o.lesser q.time q.tolerance;
      expectation = one_body_expectation r.capacity r.points r.orbitals o.lesser q.time x q.tolerance;
      flow = bond_flow_into r.capacity r.points r.orbitals o.lesser q.time q.a q.b q.hopping q.charge;
    }

abbrev pub run_answers : Run → Question → DenseMatrix → Answered
run_answers r q x = answers_of r q x (run_step r)

-- the same in what a call gave back
abbrev pub answers_in : Answers → List Float → List Float → List Float → List Float → Answered
answers_in a retarded lesser kernel lesser_advanced =
    record {
      ran = step_in a.run retarded lesser kernel lesser_advanced;
      number = a.number;
      expectation = a.expectation;
      flow = a.flow;
    }

-- the observables answer the same of two runs
pub record SameAnswers (x x' : DenseMatrix) (a a' : Answered) : Type 0 where
  pub number : a.number ≡ a'.number
  pub expectation : SameBlock x x' → a.expectation ≡ a'.expectation
  pub flow : a.flow ≡ a'.flow

-- demand 3 of two calls, given r and r', that answered a and a': of what they left, and of what the observables answered
pub record Blind (r r' : Run) (q : Question) (x x' : DenseMatrix) (a a' : Answered) : Type 0 where
  pub left : Demanded r r' a.ran.outcome a'.ran.outcome
  pub answers : (k : ℕ) → Comparable k r r' (is_accepted a.ran.outcome.answer ≡ true) (is_accepted a'.ran.outcome.answer ≡ true) → q.time ≤ k → SameAnswers x x' a a'

-- what a Dyson call answers and leaves in its slices G and K
abbrev pub solved_in : Verdict → List Float → List Float → DysonSolved
solved_in v retarded kernel = record { answer = v; retarded = retarded; kernel = kernel }
