-- A run with an append to which the law of appends does: P12. Assumes nothing.
use Rattle.std.specs.Prelude.{Ok, ◌≡◌, ◌+◌}
use Rattle.lists.specs.Prelude.{refl, sym, ◌∙◌, arith, replicate}
use Rattle.complex.specs.Arithmetic.{one}
use Rattle.two_time.specs.Example.{floats}
use Rattle.transient_run.specs.Calls.{append_point}
use Rattle.transient_run.specs.P12 as P12
use Rattle.transient_run.proofs.P12 as P12Made
use Rattle.causality.specs.History.{History, together}
use Rattle.causality.specs.History.History.{ran, appended}
use Rattle.causality.proofs.Appends.{in-opened, append_law}
use Rattle.causality.specs.Prefix.{run, inputs_pass}
use Rattle.causality.specs.Appended.{first, next, accepted, inputs}

-- they are the calls of P12's run
pub history : History run (append_point next) (11 + 30)
history =
    appended (ran first accepted.0) next
    (record { points = refl; capacity = refl; form = tt; inputs = inputs; retarded = refl; lesser = refl; kernel = refl; lesser_advanced = refl })
    accepted.1

-- count like it, and leave what it leaves
pub appended_p12 : together (11 + 30) (append_point next)
    ≡ record { answer = Ok 41; retarded = floats P12.retarded_bits; lesser = floats P12.lesser_bits; kernel = floats P12.kernel_bits; lesser_advanced = floats P12.lesser_advanced_bits }
appended_p12 = sym (in-opened (append_law history) 0 (omega arith)) ∙ P12Made.outcome one (replicate 18 one) refl inputs_pass
