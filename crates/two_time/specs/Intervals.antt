-- How many terms the sum over an interval has, as arithmetic tells it. Assumes nothing.
use Rattle.std.specs.Prelude.{◌≡◌, ◌+◌, ◌-◌, ◌≤◌}
use Rattle.lists.specs.Prelude.{ℕ, min, dec_lt, arith, lt-ltb, le-ltb}
use Rattle.two_time.specs.Sums.{interval_count}

pub interval_count_lem : (start end : ℕ) → interval_count start end ≡ end - start + min 1 (end - start)
unfolding interval_count
interval_count_lem start end =
    elim (dec_lt start end) [
      | yes l ↦ rw (lt-ltb start end l) (omega arith)
      | no l ↦ rw (le-ltb start end (let h : end ≤ start = omega arith in h)) (omega arith)
    ]
