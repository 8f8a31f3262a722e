-- Demand 3 of two calls follows from the equations of their contracts. Assumes nothing.
use Rattle.std.specs.Prelude.{◌≡◌}
use Rattle.lists.specs.Prelude.{ap, ◌∙◌, ℕ}
use Rattle.matrix.specs.declared.DenseMatrix.{DenseMatrix}
use Rattle.dyson.specs.Calls.{Solved}
use Rattle.transient_run.specs.declared.Session.{Session}
use Rattle.transient_run.specs.Calls.{Run, Outcome, booked}
use Rattle.causality.specs.Statement.{DysonDemanded}
use Rattle.causality.proofs.Theorem.{demand_3}
use Rattle.causality.specs.Dyson.{dyson_of}
use Rattle.causality.proofs.Dyson.{dyson_demand}
use Rattle.two_runs.specs.declared.Question.{Question}
use Rattle.two_runs.specs.Promises.{Step, step_of, run_step, Answered, answers_of, run_answers, Blind}

-- ---- a contract's equations, as one of records

pub one-step : (session : Session) (desk : ℕ) {s : Step} {p : Outcome}
    → let o = s.outcome in (o.answer ≡ p.answer) × (s.session ≡ booked session desk p.answer) × (o.retarded ≡ p.retarded) × (o.lesser ≡ p.lesser) × (o.kernel ≡ p.kernel) × (o.lesser_advanced ≡ p.lesser_advanced)
    → s ≡ step_of session desk p
one-step session desk h = λ i. record { outcome = record { answer = h.0 i; retarded = h.2 i; lesser = h.3 i; kernel = h.4 i; lesser_advanced = h.5 i }; session = h.1 i }

pub one-solved : {s t : Solved} → (s.answer ≡ t.answer) × (s.retarded ≡ t.retarded) × (s.kernel ≡ t.kernel) → s ≡ t
one-solved h = λ i. record { answer = h.0 i; retarded = h.1 i; kernel = h.2 i }

pub one-answered : (r : Run) (q : Question) (x : DenseMatrix) (a : Answered) → a.ran ≡ run_step r → a.number ≡ (answers_of r q x a.ran).number
    → a.expectation ≡ (answers_of r q x a.ran).expectation → a.flow ≡ (answers_of r q x a.ran).flow → a ≡ run_answers r q x
one-answered r q x a o n e f = (λ i. record { ran = a.ran; number = n i; expectation = e i; flow = f i }) ∙ ap (answers_of r q x) o

-- ---- demand 3

definition : (r r' : Run) (q : Question) (x x' : DenseMatrix) → Blind r r' q x x' (run_answers r q x) (run_answers r' q x')
definition r r' q x x' =
    let left = demand_3 r r' in
    record {
      left = left;
      answers = λ k c within.
          let same = left.blind k c in
          record {
            number = same.particles q.time q.tolerance within;
            expectation = same.expectations q.time x x' q.tolerance within;
            flow = same.flows q.time q.a q.b q.hopping q.charge within;
          };
    }

pub blind : {r r' : Run} {q : Question} {x x' : DenseMatrix} {a a' : Answered} → a ≡ run_answers r q x → a' ≡ run_answers r' q x'
    → (a ≡ run_answers r q x) × (a' ≡ run_answers r' q x') × Blind r r' q x x' a a'
blind {r} {r'} {q} {x} {x'} e e' = (e, e', rw (e, e') (definition r r' q x x'))

pub dyson-blind : {r r' : Run} {s s' : Solved} → r.points ≡ r.capacity → r'.points ≡ r'.capacity → s ≡ dyson_of r → s' ≡ dyson_of r'
    → (s ≡ dyson_of r) × (s' ≡ dyson_of r') × DysonDemanded r r' s s'
dyson-blind {r} {r'} c c' e e' = (e, e', rw (e, e') (dyson_demand r r' c c'))
