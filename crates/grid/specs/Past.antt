-- A time past the end is a NaN, and so is a weight that reads it. Assumes nothing.
use Rattle.std.specs.Prelude.{◌≡◌, ◌+◌, ◌-◌, ◌≤◌, ◌<◌}
use Rattle.lists.specs.Prelude.{refl, false, List, ℕ, arith, eqb, length, get_or-eq_default, Float, nan, eqb-true}
use Rattle.std.specs.Float.Ieee as Ieee
use Rattle.lists.specs.Indexed.{all_below}
use Rattle.complex.specs.Arithmetic.{finite, div, plus_zero}
use Rattle.refusal.specs.Search.{all-no}
use Rattle.grid.specs.Inside.{either}
use Rattle.grid.specs.Weights.{half_step, full_weight}

-- what 0 / 0 is
pub nan-made : div plus_zero plus_zero ≡ nan
unfolding Ieee.div Ieee.of_bits
nan-made = refl

-- the bits that std writes for a NaN
pub nan-bits : Ieee.of_bits Ieee.binary64 0x7ff8_0000_0000_0000 ≡ nan
unfolding Ieee.of_bits
nan-bits = refl

module _ (times : List Float) where
  past-step : (i j : ℕ) → length times ≤ i → half_step times i j ≡ nan
  unfolding half_step Ieee.mul Ieee.sub Ieee.add Ieee.of_bits
  past-step i j h = rw (get_or-eq_default times nan h)

  pub past-weight : (points i : ℕ) → length times ≤ i → full_weight points times i ≡ nan
  unfolding full_weight
  past-weight points i h =
      either (eqb i 0) _ _ _ (λ e. past-step 1 0 (omega (arith, eqb-true i 0 e)))
      (λ _. either (eqb (i + 1) points) _ _ _ (λ _. past-step i (i - 1) h) (λ _. past-step (i + 1) (i - 1) (omega arith)))

  -- fewer times than points: the weight just past the times is a NaN
  pub few-times : (points : ℕ) → length times < points → all_below points (λ i. finite (full_weight points times i)) ≡ false
  unfolding finite
  few-times points h = all-no (λ i. finite (full_weight points times i)) points (length times) h (rw (past-weight points (length times) (omega arith)))
