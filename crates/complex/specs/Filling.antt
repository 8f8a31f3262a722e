-- A slice of numbers that a loop fills with complex numbers, one a step. Assumes nothing.
use Rattle.std.specs.Prelude.{◌≡◌, ◌+◌, ◌*◌, ◌<◌}
use Rattle.lists.specs.Prelude.{refl, ◌∙◌, List, ℕ, mul_comm, length, set, Float}
use Rattle.lists.specs.Indexed.{join}
use Rattle.lists.specs.Reading.{length-join}
use Rattle.lists.specs.Steps.{join_more}
use Rattle.lists.specs.Filling.{over, over-two}
use Rattle.complex.specs.declared.Complex.{Complex}
use Rattle.complex.specs.Numbers.{pair}

-- the numbers of f 0, f 1, .., f (n - 1)
abbrev pub cells : ℕ → (ℕ → Complex) → List Float
cells n f = join n (λ k. pair (f k))

pub length-cells : (n : ℕ) (f : ℕ → Complex) → length (cells n f) ≡ 2 * n
length-cells n f = length-join n 2 (λ k. pair (f k)) (λ k l. refl) ∙ mul_comm n 2

-- step p writes f p as the p-th complex number
pub cells-step : (d : List Float) (p : ℕ) (f : ℕ → Complex) → 2 * p + 1 < length d
    → set (set (over d (cells p f)) (2 * p) (f p).re) (2 * p + 1) (f p).im ≡ over d (cells (p + 1) f)
cells-step d p f h = rw (over-two d (cells p f) (2 * p) (f p).re (f p).im (length-cells p f) h, join_more)

-- the same for what a loop holds before and after the step
pub cells-next : (d out next : List Float) (p : ℕ) (f : ℕ → Complex) (z : Complex) → out ≡ over d (cells p f) → z ≡ f p
    → next ≡ set (set out (2 * p) z.re) (2 * p + 1) z.im → 2 * p + 1 < length d → next ≡ over d (cells (p + 1) f)
cells-next d out next p f z e q s h = s ∙ rw (e, q) (cells-step d p f h)
