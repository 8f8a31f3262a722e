-- L12 of two calls follows from the equations of their contracts. Assumes nothing.
use Rattle.std.specs.Prelude.{◌≡◌}
use Rattle.lists.specs.Prelude.{ap, ◌∙◌}
use Rattle.transient_run.specs.Calls.{Run}
use Rattle.two_runs.specs.Promises.{run_step}
use Rattle.two_dots.specs.declared.Bond.{Bond}
use Rattle.two_dots.specs.Promises.{Flowed, flow_of, run_flow, Separate}
use Rattle.two_dots.proofs.Theorem.{two_dots}

pub one-flow : (r : Run) (q : Bond) (x : Flowed) → x.ran ≡ run_step r → x.flow ≡ (flow_of r q x.ran).flow → x ≡ run_flow r q
one-flow r q x o f = (λ i. record { ran = x.ran; flow = f i }) ∙ ap (flow_of r q) o

definition : (r r' : Run) (q : Bond) → Separate r r' q (run_flow r q) (run_flow r' q)
definition r r' q =
    let left = two_dots r r' in
    record { left = left; flow = λ first d fa fb. (left first d).flows q.time q.a q.b q.hopping q.charge fa fb }

pub separate : {r r' : Run} {q : Bond} {x x' : Flowed} → x ≡ run_flow r q → x' ≡ run_flow r' q → (x ≡ run_flow r q) × (x' ≡ run_flow r' q) × Separate r r' q x x'
separate {r} {r'} {q} e e' = (e, e', rw (e, e') (definition r r' q))
