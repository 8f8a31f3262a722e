-- P12's first two points in a capacity of 3, and its third appended: what the law of appends supposes can be met. The run's own inputs hold NaN past its
-- points, and its tolerance, session and desk are others. Assumes nothing.
use Rattle.std.specs.Prelude.{Ok, ◌≡◌, ◌∷◌, ◌+◌, ◌<◌}
use Rattle.lists.specs.Prelude.{refl, sym, ◌∙◌, List, [], ℕ, arith, get_or, replicate, Float, nan}
use Rattle.complex.specs.Arithmetic.{plus_zero, one}
use Rattle.two_time.specs.Example.{floats}
use Rattle.transient_run.specs.Form.Form.{empty}
use Rattle.transient_run.specs.Calls.{Run, run_of, transient_run, append_point}
use Rattle.transient_run.specs.Computation.{run_computation}
use Rattle.transient_run.specs.P12 as P12
use Rattle.transient_run.proofs.P12 as P12Made
use Rattle.causality.specs.Statement.{of, SameTo}
use Rattle.causality.specs.Sessions.{opened}
use Rattle.causality.specs.History.{History, together}
use Rattle.causality.specs.History.History.{ran, appended}
use Rattle.causality.specs.Prefix.{run, inputs_pass, two, to_one, square}

-- two rows of two points in a capacity of 3
abbrev in_room : Float → Float → Float → Float → Float → Float → Float → Float → List Float
in_room a b c d e f g h = a ∷ b ∷ c ∷ d ∷ nan ∷ nan ∷ e ∷ f ∷ g ∷ h ∷ nan ∷ nan ∷ replicate 6 nan

abbrev pub first : Run
first =
    let lower = in_room one plus_zero plus_zero plus_zero one plus_zero one plus_zero in
    let before = replicate 18 one in
    run_of empty opened 0 (record { points = 2; capacity = 3; orbitals = 1 }) two (plus_zero ∷ one ∷ nan ∷ []) lower lower (in_room plus_zero one plus_zero one plus_zero one plus_zero one) before before before before

abbrev pub next : Run
next =
    let o = transient_run first in
    run_of empty (record { products = replicate 8 7 }) 5 (record { points = 2; capacity = 3; orbitals = 1 }) one P12.times P12.lower P12.lower P12.imaginary o.retarded o.lesser o.kernel o.lesser_advanced

pub accepted : ((transient_run first).answer ≡ Ok 11) × ((append_point next).answer ≡ Ok 30)
unfolding run_computation
accepted = (refl, refl)

pub inputs : (k : ℕ) → k < 2 → SameTo k first next
inputs k hk =
    record {
      orbitals = refl;
      times = λ i hi. to_one (λ j. get_or first.times j nan ≡ get_or next.times j nan) refl refl i (omega arith);
      free = λ t u ht hu. square (of first first.free) (of next next.free) refl refl refl refl t u (omega arith) (omega arith);
      self_energy = λ t u ht hu. square (of first first.self_energy) (of next next.self_energy) refl refl refl refl t u (omega arith) (omega arith);
      lesser_self_energy = λ t u ht hu. square (of first first.lesser_self_energy) (of next next.lesser_self_energy) refl refl refl refl t u (omega arith) (omega arith);
      start = λ a b ha hb. refl;
    }
