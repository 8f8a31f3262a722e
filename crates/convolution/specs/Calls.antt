-- Document 01, convolutions: the outcome of each call.
use Rattle.std.specs.Prelude.{◌∷◌}
use Rattle.lists.specs.Prelude.{ℕ, List, [], Float}
use Rattle.refusal.specs.Verdict.{Verdict, ◌then◌, zeroed, afterwards}
use Rattle.refusal.specs.Checks.{finite_work}
use Rattle.two_time.specs.declared.sums.Sums.{Sums}
use Rattle.two_time.specs.declared.sums.Sums.TheVariants.{Full, Causal}
use Rattle.two_time.specs.Sums.{sums_numbers, sums_finite}
use Rattle.two_time.specs.Calls.{input_checks}

-- the answer, and the output afterwards
pub record Convolved : Type 0 where
  pub answer : Verdict
  pub out : List Float

-- checks 1 to 7, then 10
unfoldable pub convolved_by : Sums → ℕ → ℕ → List Float → List Float → List Float → List Float → Convolved
convolved_by sums points orbitals times left right out =
    let verdict = input_checks points orbitals times (left ∷ right ∷ []) (out ∷ []) then finite_work (sums_finite sums points orbitals times left right) in
    record { answer = verdict; out = afterwards zeroed verdict (sums_numbers sums points orbitals times left right) out }

-- `time_convolution` and `causal_volterra_convolution`
abbrev pub time_convolution : ℕ → ℕ → List Float → List Float → List Float → List Float → Convolved
time_convolution = convolved_by Full

abbrev pub causal_convolution : ℕ → ℕ → List Float → List Float → List Float → List Float → Convolved
causal_convolution = convolved_by Causal
