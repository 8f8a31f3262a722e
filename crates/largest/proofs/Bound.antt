-- The norm of finite parts is at most the rounded sum of two numbers whose exact sum, squared, is at least the sum of the parts' squares: its root
-- rounds as that sum does, and both roundings keep order. So where that sum is at most l the larger of l and the norm is l. Assumes nothing.
use Rattle.std.specs.Prelude.{◌≡◌, ◌+◌, ◌-◌, ◌*◌, ◌/◌, ◌%◌, ◌^◌, ◌≤◌}
use Rattle.lists.specs.Prelude.{refl, sym, ap, ◌∙◌, Bool, true, false, ℕ, compare, Ordering, le_refl, le_antisymm}
use Rattle.lists.specs.Prelude.{mul-div_cancel, mul_assoc, mul-le-mul_right, mul-pos, div-mul-le_self, div-add-mod', arith, ℤ, T, pow_pos, Float}
use Rattle.lists.specs.Prelude.{binary64, up, down, nearest, units, round, lt, le}
use lib.Ieee as Ieee
use lib.Ieee.Fits.{down_pos, round_is}
use lib.Ieee.Nearest.{closest, closest_same}
use lib.Ieee.Order.{round_mono}
use Rattle.complex.specs.Arithmetic.{larger}
use Rattle.norm.specs.Norm.{root, rounded_root, in_units}
use Rattle.norm.specs.Nearest.{rounded-is}
use Rattle.norm.specs.Roots.{root_is}
use Rattle.norm.specs.Order.{ordered}
use Rattle.norm.specs.Squares.{Compared, less, same, more, compared, compare_is, square-power, square-lt, between-squares}
use Rattle.largest.specs.Order.{never_both, not-above, number_at-least}
use Rattle.largest.specs.Larger.{first}

-- ---- a square's root rounds as the number does

root_of-square : (x : ℕ) → root (x * x) ≡ x
root_of-square x =
    let r = root_is (x * x) in
    le_antisymm (between-squares (root (x * x)) x (x * x) r.0 (omega arith)) (between-squares x (root (x * x)) (x * x) (le_refl (x * x)) r.1)

-- x against the middle of its step of p, both doubled and squared: twice the remainder against p
by_remainder : (x p : ℕ) → compare (4 * (x * x)) (((2 * (x / p) + 1) * p) ^ 2) ≡ compare (x % p * 2) p
by_remainder x p = rw (square-power middle) (compare_is (go (compared (x % p * 2) p)))
  where
    middle : ℕ
    middle = (2 * (x / p) + 1) * p

    parts : middle + x % p * 2 ≡ 2 * x + p
    parts = omega (arith, div-add-mod' x p)

    go : {o : Ordering} → Compared (x % p * 2) p o → Compared (4 * (x * x)) (middle * middle) o
    go (less h) = less (omega (arith, square-lt {a = 2 * x} {b = middle} (omega (arith, parts))))
    go (same h) = same (let e : 2 * x ≡ middle = omega (arith, parts) in omega (arith, ap (λ (y : ℕ). y * y) e))
    go (more h) = more (omega (arith, square-lt {a = middle} {b = 2 * x} (omega (arith, parts))))

module _ (x : ℕ) where
  abbrev step : ℕ → ℕ
  step r = Ieee.size r - 53

  square_rounds : rounded_root (x * x) ≡ round binary64 false x (2 ^ 1074)
  square_rounds =
      rounded-is (x * x)
      ∙ ap (λ (r : ℕ). units binary64 false (nearest (r / 2 ^ step r) (compare (4 * (x * x)) (((2 * (r / 2 ^ step r) + 1) * 2 ^ step r) ^ 2))) (step r)) (root_of-square x)
      ∙ ap (λ (o : Ordering). units binary64 false (nearest (x / 2 ^ step x) o) (step x)) (by_remainder x (2 ^ step x))
      ∙ sym (round_is binary64 false x (2 ^ 1074)
      ∙ ap (λ (r : ℕ). units binary64 false (closest (x * 2 ^ 1074) (2 ^ 1074 * 2 ^ step r)) (step r)) (mul-div_cancel x (pow_pos 1074))
      ∙ ap (λ (r : ℕ). units binary64 false r (step x)) (closest_same (x * 2 ^ 1074) (2 ^ 1074 * 2 ^ step x) x (2 ^ step x) (mul-pos (pow_pos 1074) (pow_pos (step x))) (pow_pos (step x)) (mul_assoc x (2 ^ 1074) (2 ^ step x))))

-- ---- what is not above l leaves it the larger

not-true : (b : Bool) → (b ≡ true → ⊥) → b ≡ false
not-true true h = absurd (h refl)
not-true false h = refl

pub at_most : (l x : Float) → T (le x l) → larger l x ≡ l
at_most l x t = first l x (number_at-least x l t) (not-true (lt l x) (λ g. never_both l x g t))

-- ---- finite parts

-- the sum of two sizes in units is at most their exact sum
units_of-sum : (m n : ℕ) (e d : ℤ) → (in_units m e + in_units n d) * (down e * down d) ≤ (m * up e * down d + n * up d * down e) * 2 ^ 1074
units_of-sum m n e d = sums (in_units m e) (in_units n d) (down e) (down d) (m * up e) (n * up d) (2 ^ 1074) (div-mul-le_self _ _) (div-mul-le_self _ _)
  where
    sums : (a b p q x y u : ℕ) → a * p ≤ x * u → b * q ≤ y * u → (a + b) * (p * q) ≤ (x * q + y * p) * u
    sums a b p q x y u h k = omega (arith, mul-le-mul_right q h, mul-le-mul_right p k)

-- the norm is at most a number of units whose square is at least that of the parts, rounded, and that at most the sum of the numbers it is made of
module _ (m n k : ℕ) (e d c : ℤ) (square : in_units m e ^ 2 + in_units n d ^ 2 ≤ (in_units m e + in_units k c) * (in_units m e + in_units k c)) where
  abbrev between : Float
  between = round binary64 false (in_units m e + in_units k c) (2 ^ 1074)

  abbrev sum : Float
  sum = round binary64 false (m * up e * down c + k * up c * down e) (down e * down c)

  norm-at-most : T (le (rounded_root (in_units m e ^ 2 + in_units n d ^ 2)) between)
  norm-at-most =
      rw (← (square_rounds (in_units m e + in_units k c)))
      (ordered (in_units m e ^ 2 + in_units n d ^ 2) ((in_units m e + in_units k c) * (in_units m e + in_units k c)) square)

  sum_at-least : T (le between sum)
  sum_at-least = round_mono binary64 (in_units m e + in_units k c) (2 ^ 1074) (m * up e * down c + k * up c * down e) (down e * down c) (pow_pos 1074) (mul-pos (down_pos e) (down_pos c)) (units_of-sum m k e c)

  pub norm-within : (l : Float) → T (le sum l) → larger l (rounded_root (in_units m e ^ 2 + in_units n d ^ 2)) ≡ l
  norm-within l h =
      first l _ (number_at-least sum l h)
      (not-true (lt l _) (λ g. not-above _ between l norm-at-most (not-above between sum l sum_at-least (λ k. never_both l sum k h)) g))
