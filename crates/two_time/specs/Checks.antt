-- Checks 1 to 7 as the code asks them: they never refuse by 10, and what it says that they pass. Assumes nothing.
use Rattle.std.specs.Prelude.{◌≡◌, ◌∷◌, ◌++◌}
use Rattle.lists.specs.Prelude.{refl, sym, ap, ◌∙◌, Bool, List, [], ℕ, suc, eqb, length, replicate, Float}
use Rattle.complex.specs.Arithmetic.{plus_zero}
use Rattle.refusal.specs.Verdict.{pass, Verdict, ◌then◌}
use Rattle.refusal.specs.Checks.{large_enough, within_limits, fitting, finite_times, rising_times, finite_weights, finite_entries}
use Rattle.refusal.specs.Agreement.{then-pass, then-end}
use Rattle.refusal.specs.Unchanged.{Keeping, passed, ask_keeping, then-keeping, all_keeping}
use Rattle.grid.specs.Calls.{grid_checks}
use Rattle.two_time.specs.Calls.{size_checks, operand_checks, input_checks}
use Rattle.two_time.specs.SizeChecks.{SizesPassed, sizes-passed}

-- a slice that is cleared after the work, which has kept its length
pub cleared : {xs : List Float} {m n : ℕ} → xs ≡ replicate m plus_zero → m ≡ n → xs ≡ replicate n plus_zero
cleared e h = e ∙ ap (λ (k : ℕ). replicate k plus_zero) h

-- ---- the checks before the work never refuse by 10

module _ (points orbitals : ℕ) where
  pub sizes_keeping : (fits : Bool) (slices : List (List Float)) → Keeping (size_checks points orbitals fits slices)
  unfolding size_checks large_enough within_limits fitting
  sizes_keeping fits slices = then-keeping (ask_keeping _ _ refl) (then-keeping (ask_keeping _ _ refl) (ask_keeping _ _ refl))

  pub operands_keeping : (k : ℕ) (operands : List (List Float)) → Keeping (operand_checks k operands)
  unfolding operand_checks finite_entries
  operands_keeping k [] = passed
  operands_keeping k (xs ∷ rest) = then-keeping (all_keeping _ _ (λ i. ask_keeping _ _ refl)) (operands_keeping (suc k) rest)

  pub times_keeping : (times : List Float) → Keeping (grid_checks points times)
  unfolding grid_checks finite_times rising_times finite_weights
  times_keeping times = then-keeping (ask_keeping _ _ refl) (then-keeping (all_keeping _ _ (λ k. ask_keeping _ _ refl)) (ask_keeping _ _ refl))

  module _ (times : List Float) (operands lent : List (List Float)) where
    pub inputs_keeping : Keeping (input_checks points orbitals times operands lent)
    unfolding input_checks
    inputs_keeping = then-keeping (sizes_keeping _ _) (then-keeping (times_keeping times) (operands_keeping 0 operands))

    -- what it says that they pass of the sizes
    pub inputs-sizes : input_checks points orbitals times operands lent ≡ pass → SizesPassed points orbitals (eqb (length times) points) (operands ++ lent)
    unfolding input_checks
    inputs-sizes h = sizes-passed points orbitals _ _ (then-pass _ _ h).0

-- check 7 as the code asks it: of the last operand, and of one before others
pub operands-last : (k : ℕ) (xs : List Float) (v : Verdict) → v ≡ finite_entries k xs (length xs) → v ≡ operand_checks k (xs ∷ [])
unfolding operand_checks
operands-last k xs v e = e ∙ sym (then-end (finite_entries k xs (length xs)))

pub operands-more : (k : ℕ) (xs : List Float) (rest : List (List Float)) (v later all : Verdict)
    → v ≡ finite_entries k xs (length xs) → later ≡ operand_checks (suc k) rest → all ≡ (v then later) → all ≡ operand_checks k (xs ∷ rest)
unfolding operand_checks
operands-more k xs rest v later all e l h = h ∙ rw (e, l)

-- checks 1 to 7 as the code asks them
pub inputs-asked : (points orbitals : ℕ) (times : List Float) (operands lent : List (List Float)) (sizes grid entries all : Verdict)
    → sizes ≡ size_checks points orbitals (eqb (length times) points) (operands ++ lent) → grid ≡ grid_checks points times → entries ≡ operand_checks 0 operands
    → all ≡ (sizes then (grid then entries)) → all ≡ input_checks points orbitals times operands lent
unfolding input_checks
inputs-asked points orbitals times operands lent sizes grid entries all s g e h = h ∙ rw (s, g, e)
