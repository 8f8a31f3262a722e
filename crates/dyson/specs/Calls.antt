-- Document 01, Dyson: the outcome of `solve_retarded`, `retarded_dyson_with_tolerance` and `retarded_dyson`.
use Rattle.std.specs.Prelude.{◌&&◌, ◌∷◌}
use Rattle.lists.specs.Prelude.{ℕ, Bool, true, List, [], leb, Float, binary64, of_bits}
use Rattle.refusal.specs.Verdict.{Verdict, ◌then◌, zeroed, afterwards}
use Rattle.refusal.specs.Checks.{finite_work}
use Rattle.two_time.specs.Layout.{read_as}
use Rattle.two_time.specs.New.{cleared_new}
use Rattle.two_time.specs.Sums.{sums_numbers, sums_finite, new_numbers, new_finite}
use Rattle.two_time.specs.declared.sums.Sums.TheVariants.{Causal}
use Rattle.two_time.specs.Summed.{Summed}
use Rattle.two_time.specs.Calls.{size_checks, input_checks}
use Rattle.two_time.specs.Outcome.{summed_answer, summed_out, new_out}
use Rattle.dyson.specs.Retarded.{retarded_numbers, retarded_finite, new_retarded, new_retarded_finite}
-- "Order: 8, 9 for free, 9 for self-energy"
unfoldable pub use Rattle.support.specs.Support.{support_checks}

-- G = free + free ∘ self-energy ∘ G on the times
pub record Equation : Type 0 where
  pub points : ℕ
  pub orbitals : ℕ
  pub times : List Float
  pub free : List Float
  pub self_energy : List Float

abbrev pub equation_of : ℕ → ℕ → List Float → List Float → List Float → Equation
equation_of points orbitals times free self_energy = record { points = points; orbitals = orbitals; times = times; free = free; self_energy = self_energy }

module _ (q : Equation) where
  -- "K is the causal convolution of both", and G is made of it
  abbrev pub kernel_of : List Float
  kernel_of = sums_numbers Causal q.points q.orbitals q.times q.free q.self_energy

  abbrev pub retarded_of : List Float
  retarded_of = retarded_numbers q.points q.orbitals q.times q.free kernel_of

  -- every block of the two is finite, or 10
  unfoldable pub solved_finite : Bool
  solved_finite = sums_finite Causal q.points q.orbitals q.times q.free q.self_energy && retarded_finite q.points q.orbitals q.times q.free kernel_of

  -- checks 1 to 7, where the operands free and self-energy may be followed by others, then 8, 9 for free, 9 for self-energy
  abbrev pub checks_before : Float → List (List Float) → List (List Float) → Verdict
  checks_before tolerance operands outputs =
      input_checks q.points q.orbitals q.times (q.free ∷ q.self_energy ∷ operands) outputs
      then support_checks q.points q.orbitals tolerance (read_as q.points q.orbitals q.free) (read_as q.points q.orbitals q.self_energy)

-- `solve_retarded`, K and G alone: the answer, the retarded function's slice and the kernel's scratch afterwards
pub record SumsSolved : Type 0 where
  pub answer : Summed
  pub retarded : List Float
  pub kernel : List Float

unfoldable pub solved_retarded : Equation → List Float → List Float → SumsSolved
solved_retarded q retarded kernel =
    let answer = summed_answer (size_checks q.points q.orbitals true (q.free ∷ q.self_energy ∷ retarded ∷ kernel ∷ [])) (solved_finite q) in
    record { answer = answer; retarded = summed_out answer (retarded_of q) retarded; kernel = summed_out answer (kernel_of q) kernel }

-- `solve_new`, the same at the new places of slices laid out for a capacity
module _ (capacity orbitals old points : ℕ) (times free self_energy retarded kernel : List Float) where
  -- K, then G from K as its scratch holds it
  abbrev pub new_kernel : List Float
  new_kernel = new_numbers Causal capacity orbitals old points times free self_energy kernel

  abbrev pub new_green : List Float
  new_green = new_retarded capacity orbitals old points times free new_kernel retarded

  unfoldable pub solved_new_finite : Bool
  solved_new_finite = new_finite Causal capacity orbitals old points times free self_energy && new_retarded_finite capacity orbitals old points times free new_kernel retarded

  unfoldable pub solved_new : SumsSolved
  solved_new =
      let answer = summed_answer (size_checks capacity orbitals (leb old points && leb points capacity) (free ∷ self_energy ∷ retarded ∷ kernel ∷ [])) solved_new_finite in
      record {
        answer = answer;
        retarded = new_out answer new_green (cleared_new capacity orbitals old points retarded) retarded;
        kernel = new_out answer new_kernel (cleared_new capacity orbitals old points kernel) kernel;
      }

-- a Dyson call: the answer, the retarded function's slice and the kernel's scratch afterwards
pub record Solved : Type 0 where
  pub answer : Verdict
  pub retarded : List Float
  pub kernel : List Float

-- `retarded_dyson_with_tolerance`: checks 1 to 9, then 10
unfoldable pub dyson_verdict : Equation → Float → List Float → List Float → Verdict
dyson_verdict q tolerance retarded kernel = checks_before q tolerance [] (retarded ∷ kernel ∷ []) then finite_work (solved_finite q)

unfoldable pub dyson_with_tolerance : ℕ → ℕ → Float → List Float → List Float → List Float → List Float → List Float → Solved
dyson_with_tolerance points orbitals tolerance times free self_energy retarded kernel =
    let q = equation_of points orbitals times free self_energy in
    let verdict = dyson_verdict q tolerance retarded kernel in
    record { answer = verdict; retarded = afterwards zeroed verdict (retarded_of q) retarded; kernel = afterwards zeroed verdict (kernel_of q) kernel }

-- `retarded_dyson`: "default 1e-12", the binary64 nearest to it
abbrev pub default_tolerance : Float
default_tolerance = of_bits binary64 0x3d71_9799_812d_ea11

unfoldable pub dyson : ℕ → ℕ → List Float → List Float → List Float → List Float → List Float → Solved
dyson points orbitals = dyson_with_tolerance points orbitals default_tolerance
