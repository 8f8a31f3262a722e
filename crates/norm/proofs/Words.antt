-- Words: a product and a sum by upper digits and a low word. Assumes nothing.
use Rattle.std.specs.Prelude.{◌≡◌, ◌+◌, ◌*◌, ◌/◌, ◌%◌, ◌^◌}
use Rattle.lists.specs.Prelude.{ap, ℕ, div-add-mod', arith}

-- x·p + y, where the low word of x is raised first
pub raised_sum : (x p y : ℕ) → let low = x % 2 ^ 64 * p + y in (x / 2 ^ 64 * p + low / 2 ^ 64) * 2 ^ 64 + low % 2 ^ 64 ≡ x * p + y
raised_sum x p y =
    let low = x % 2 ^ 64 * p + y in
    gather (x / 2 ^ 64) (x % 2 ^ 64) (low / 2 ^ 64) (low % 2 ^ 64) (div-add-mod' x (2 ^ 64)) (div-add-mod' low (2 ^ 64))
  where
    gather : (h l c r : ℕ) → h * 2 ^ 64 + l ≡ x → c * 2 ^ 64 + r ≡ l * p + y → (h * p + c) * 2 ^ 64 + r ≡ x * p + y
    gather h l c r e f = omega (arith, ap (λ (z : ℕ). z * p) e)
