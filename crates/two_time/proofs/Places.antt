-- A block lies in its function. Assumes nothing.
use Rattle.std.specs.Prelude.{◌≡◌, ◌+◌, ◌-◌, ◌*◌, ◌≤◌, ◌<◌}
use Rattle.lists.specs.Prelude.{ap, ℕ, add-mul, add-zero, suc-mul, arith}
use Rattle.two_time.specs.Layout.{place, length_of}
use Rattle.two_time.specs.Places.{Placed, entry-placed, within}

-- all entries of a block lie in its function
pub block_inside : {stride n t s : ℕ} → Placed stride n t s 0 0 → (i len : ℕ) → i ≡ place stride n t s 0 0 → length_of stride n ≤ len → i + 2 * (n * n) ≤ len
block_inside {stride} {n} {t} {s} h i len e l =
    let k : ℕ = n - 1 in
    let x = (t * stride + s) * n in
    let few : k < n = omega (arith, h.row) in
    let last = (within (entry-placed k k h few few)).inside in
    omega (arith, last, ap (λ (m : ℕ). m * n) (add-zero x), add-mul x k n, square n h.row)
  where
    square : (n : ℕ) → 0 < n → (n - 1) * n + n ≡ n * n
    square n h = rw (← suc-mul (n - 1) n) (ap (λ (m : ℕ). m * n) (omega arith))
