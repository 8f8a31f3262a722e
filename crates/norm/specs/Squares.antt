-- Squares, powers of four, and what `compare` says, as the laws of the root and of its rounding need them. What multiplying out alone shows
-- is left to `omega`. Assumes nothing.
use Rattle.std.specs.Prelude.{◌≡◌, ◌+◌, ◌*◌, ◌/◌, ◌%◌, ◌^◌, ◌≤◌, ◌<◌}
use Rattle.lists.specs.Prelude.{refl, sym, ap, ◌∙◌, subst, ℕ, zero, suc, compare, Ordering, ordering_lt, ordering_eq}
use Rattle.lists.specs.Prelude.{ordering_gt, le_of_lt, lt_of_not-le, lt_of_le_of_lt, not-le_of_lt, mul-le-mul, mul-le-mul_left, mul-pos, one-mul, pow-suc, pow-zero}
use Rattle.lists.specs.Prelude.{arith, not, lt_of_le-ne, T, is_le, compare_is_eq, eqb, leb→le, nleb→lt, eqb→eq, eqb_refl, pow-add, pow_pos, shl_lt, split}

pub square-power : (x : ℕ) → x ^ 2 ≡ x * x
square-power x = pow-suc x 1 ∙ ap (λ (y : ℕ). y * x) (pow-suc x 0 ∙ rw pow-zero (one-mul x))

-- a product has the digits of both factors
pub mul-lt-pow : {a b : ℕ} (j k : ℕ) → a < 2 ^ j → b < 2 ^ k → a * b < 2 ^ (j + k)
mul-lt-pow {a} {b} j k h l = lt_of_le_of_lt (mul-le-mul_left a (le_of_lt l)) (shl_lt j k h)

-- the square of a number by two columns of 32 digits
pub columns : (s : ℕ) → let s1 = s / 2 ^ 32 in let s0 = s % 2 ^ 32 in s * s ≡ s1 * s1 * 2 ^ 64 + s1 * s0 * 2 * 2 ^ 32 + s0 * s0
columns s = ap (λ (x : ℕ). x * x) (sym (split s 32)) ∙ product (s / 2 ^ 32) (s % 2 ^ 32)
  where
    product : (s1 s0 : ℕ) → (s1 * 2 ^ 32 + s0) * (s1 * 2 ^ 32 + s0) ≡ s1 * s1 * 2 ^ 64 + s1 * s0 * 2 * 2 ^ 32 + s0 * s0
    product s1 s0 = omega arith

-- the order of squares is the order of the numbers
pub square_le : {a b : ℕ} → a ≤ b → a * a ≤ b * b
square_le h = mul-le-mul h h

pub square-lt : {a b : ℕ} → a < b → a * a < b * b
square-lt {a} {b} h = let k : suc a * suc a ≤ b * b = square_le h in omega arith

pub below-of-squares : (a b : ℕ) → a * a < b * b → a < b
below-of-squares a b h = lt_of_not-le (λ (g : b ≤ a). not-le_of_lt h (square_le g))

pub between-squares : (a b n : ℕ) → a * a ≤ n → n < suc b * suc b → a ≤ b
between-squares a b n h k = let l : a < suc b = below-of-squares a (suc b) (lt_of_le_of_lt h k) in omega arith

-- 4^k is the square of 2^k
pub power-of_four : (k : ℕ) → 4 ^ k ≡ 2 ^ k * 2 ^ k
power-of_four zero = refl
power-of_four (suc k) = rw (pow-suc 4 k, pow-suc 2 k, power-of_four k) (omega arith)

pub four_pos : (k : ℕ) → 0 < 4 ^ k
four_pos k = rw power-of_four (mul-pos (pow_pos k) (pow_pos k))

-- an even exponent
pub even_power : (k : ℕ) → 2 ^ (2 * k) ≡ 4 ^ k
even_power k = ap (λ (x : ℕ). 2 ^ x) (let e : 2 * k ≡ k + k = omega arith in e) ∙ pow-add 2 k k ∙ sym (power-of_four k)

-- ---- what `compare` says

pub data Compared (a b : ℕ) : Ordering → Type 0 where
  less : a < b → Compared a b ordering_lt
  same : a ≡ b → Compared a b ordering_eq
  more : b < a → Compared a b ordering_gt

pub compared : (a b : ℕ) → Compared a b (compare a b)
compared a b = go (compare a b) (leb→le a b) (nleb→lt a b) (eqb→eq a b) (λ (e : a ≡ b). subst (λ (x : ℕ). T (eqb a x)) e (eqb_refl a))
  where
    go : (o : Ordering) → (T (is_le o) → a ≤ b) → (T (not (is_le o)) → b < a) → (T (compare_is_eq o) → a ≡ b) → (a ≡ b → T (compare_is_eq o)) → Compared a b o
    go ordering_lt l g s e = less (lt_of_le-ne (l tt) e)
    go ordering_eq l g s e = same (s tt)
    go ordering_gt l g s e = more (g tt)

pub compare_is : {a b : ℕ} {o : Ordering} → Compared a b o → compare a b ≡ o
compare_is {a} {b} c = only (compared a b) c
  where
    only : {p o : Ordering} → Compared a b p → Compared a b o → p ≡ o
    only (less h) (less k) = refl
    only (less h) (same k) = absurd (omega arith)
    only (less h) (more k) = absurd (omega arith)
    only (same h) (less k) = absurd (omega arith)
    only (same h) (same k) = refl
    only (same h) (more k) = absurd (omega arith)
    only (more h) (less k) = absurd (omega arith)
    only (more h) (same k) = absurd (omega arith)
    only (more h) (more k) = refl
