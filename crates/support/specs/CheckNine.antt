-- Check 9 as the code asks it: in each row from the place after the diagonal on, and where the checks before it pass. Assumes nothing.
use Rattle.std.specs.Prelude.{◌≡◌, ◌≤◌, ◌<◌}
use Rattle.lists.specs.Prelude.{ap, ◌∙◌, true, List, ℕ, Float, lt-ltb, le-ltb}
use Rattle.complex.specs.Arithmetic.{div}
use Rattle.block.specs.Operations.{matrix_norm_max}
use Rattle.refusal.specs.Verdict.{pass, Verdict, ◌then◌}
use Rattle.refusal.specs.Checks.{valid_tolerance, retarded_at}
use Rattle.refusal.specs.Agreement.{then-assoc, then-pass}
use Rattle.two_time.specs.Layout.{TwoTime}
use Rattle.support.specs.Support.{scale_of, residual, retarded_place}
use Rattle.two_time.specs.Calls.{size_checks, operand_checks}
use Rattle.two_time.specs.SizeChecks.{SizesPassed, sizes-passed}

module _ (points orbitals operand : ℕ) (tolerance : Float) (x : TwoTime) (t u : ℕ) where
  -- a place up to the diagonal
  pub not-asked : u ≤ t → retarded_place points orbitals operand tolerance x t u ≡ pass
  not-asked h = rw (le-ltb t u h)

  -- a place past it, with the scale and the block's largest norm at hand
  pub place-asked : (scale largest : Float) (v : Verdict) → t < u → scale ≡ scale_of points orbitals x → largest ≡ matrix_norm_max orbitals orbitals (x t u)
      → v ≡ retarded_at operand t u tolerance (div largest scale) → retarded_place points orbitals operand tolerance x t u ≡ v
  unfolding residual
  place-asked scale largest v h s l e = rw (lt-ltb t u h, ← s, ← l, e)

-- the checks before 9, as the code joins them
module _ (points orbitals : ℕ) (operands : List (List Float)) (tolerance : Float) where
  abbrev pub before_nine : Verdict
  before_nine = size_checks points orbitals true operands then (operand_checks 0 operands then valid_tolerance tolerance)

  pub nine_last : (later : Verdict) → (before_nine then later) ≡ (size_checks points orbitals true operands then operand_checks 0 operands then valid_tolerance tolerance then later)
  nine_last later =
      let sizes = size_checks points orbitals true operands in
      let entries = operand_checks 0 operands in
      let last = valid_tolerance tolerance in
      then-assoc sizes (entries then last) later ∙ ap (λ (v : Verdict). sizes then v) (then-assoc entries last later)

  -- what check 9 needs of their pass
  pub nine_sizes : before_nine ≡ pass → SizesPassed points orbitals true operands
  nine_sizes h = sizes-passed points orbitals true operands (then-pass _ _ h).0
