-- Document 01, grid: the weights of the composite trapezoid rule.
use Rattle.std.specs.Prelude.{◌+◌, ◌-◌, ◌||◌}
use Rattle.lists.specs.Prelude.{ℕ, cond, List, leb, ltb, eqb, get_or, Float, nan, binary64, of_bits}
use Rattle.complex.specs.Arithmetic.{sub, mul, plus_zero}

-- half the time from point j to point i: 0.5·(times[i] − times[j])
unfoldable pub half_step : List Float → ℕ → ℕ → Float
half_step times i j = mul (of_bits binary64 0x3fe0_0000_0000_0000) (sub (get_or times i nan) (get_or times j nan))

-- "Full weights: 0.5·(t1 − t0) first, 0.5·(last − one before) last, 0.5·(next − previous) between."
unfoldable pub full_weight : ℕ → List Float → ℕ → Float
full_weight points times i =
    cond (eqb i 0) (half_step times 1 0)
    (cond (eqb (i + 1) points) (half_step times i (i - 1))
    (half_step times (i + 1) (i - 1)))

-- "`interval_weight(point, start, end)` is 0 if start ≥ end or the point lies outside, half the adjoining step at an end, and half of next
-- minus previous inside."
unfoldable pub interval_weight : List Float → ℕ → ℕ → ℕ → Float
interval_weight times point start end =
    cond (leb end start || (ltb point start || ltb end point)) plus_zero
    (cond (eqb point start) (half_step times (start + 1) start)
    (cond (eqb point end) (half_step times end (end - 1))
    (half_step times (point + 1) (point - 1))))
