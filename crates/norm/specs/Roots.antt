-- `root n` is the whole part of the square root: its square is at most n, and the next number's is above n. Assumes nothing.
use Rattle.std.specs.Prelude.{◌+◌, ◌*◌, ◌/◌, ◌^◌, ◌≤◌, ◌<◌}
use Rattle.lists.specs.Prelude.{ℕ, zero, suc, lt_of_lt_of_le, le_of_eq, mul-le-mul_left, pow-suc, div-lt_iff_lt-mul, arith, Bool, true}
use Rattle.lists.specs.Prelude.{false, not, cond, T, leb, leb→le, nleb→lt, lit<, pow_pos}
use Rattle.std.specs.Float.Ieee as Ieee
use Rattle.std.specs.Float.Ieee.Digits.{size-lt}
use Rattle.norm.specs.Norm.{root, root_of}
use Rattle.norm.specs.Squares.{power-of_four}

-- r is the whole part of the square root of n
abbrev IsRoot : ℕ → ℕ → Type 0
IsRoot n r = (r * r ≤ n) × (n < suc r * suc r)

-- one digit more: r is the root of n / 4
next_digit : (n r : ℕ) → IsRoot (n / 4) r → IsRoot n (cond (leb ((2 * r + 1) * (2 * r + 1)) n) (2 * r + 1) (2 * r))
next_digit n r h = go (leb ((2 * r + 1) * (2 * r + 1)) n) (leb→le ((2 * r + 1) * (2 * r + 1)) n) (nleb→lt ((2 * r + 1) * (2 * r + 1)) n)
  where
    go : (b : Bool) → (T b → (2 * r + 1) * (2 * r + 1) ≤ n) → (T (not b) → n < (2 * r + 1) * (2 * r + 1)) → IsRoot n (cond b (2 * r + 1) (2 * r))
    go true l g = (l tt, omega arith)
    go false l g = omega (arith, g tt)

root_of-is : (d n : ℕ) → n < 4 ^ d → IsRoot n (root_of d n)
unfolding root_of
root_of-is zero n h = omega arith
root_of-is (suc d) n h =
    next_digit n (root_of d (n / 4)) (root_of-is d (n / 4) ((div-lt_iff_lt-mul (lit< tt)).1 (lt_of_lt_of_le h (le_of_eq (pow-suc 4 d)))))

pub root_is : (n : ℕ) → IsRoot n (root n)
unfolding root
root_is n = let z = Ieee.size n in root_of-is z n (rw power-of_four (omega (arith, size-lt n, mul-le-mul_left (2 ^ z) (pow_pos z))))
