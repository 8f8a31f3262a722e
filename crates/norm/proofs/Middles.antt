-- Middles: the sum of the squares in steps of 2^44; that a significand passes the check only where the root lies between the middles beside it; and
-- what that settles. Assumes nothing.
use Rattle.std.specs.Prelude.{◌≡◌, ◌+◌, ◌-◌, ◌*◌, ◌/◌, ◌^◌, ◌≤◌, ◌<◌}
use Rattle.lists.specs.Prelude.{refl, sym, ap, ◌∙◌, inl, inr, ℕ, zero, suc, zero-le, lt-suc_self, le_of_eq, lt_of_lt_of_le}
use Rattle.lists.specs.Prelude.{lt_of_le_of_lt, lt_irrefl, mul-pos, mul_comm, mul_assoc, mul-le-mul_left, mul-le-mul_right, mul-lt-mul_of_pos_right}
use Rattle.lists.specs.Prelude.{lt_of_mul-lt-mul_right, div-one, div-mul-le_self, lt-div-mul-add, div-div-eq-div-mul, le-div_iff_mul-le, div-lt_iff_lt-mul, arith}
use Rattle.lists.specs.Prelude.{pow-add, pow_pos, pow_mono}
use Rattle.norm.specs.Parts.{Encodes}
use Rattle.norm.specs.Squares.{power-of_four, four_pos}
use Rattle.norm.specs.Checked.{Between, Covers, Settles, squares, whole_squares}
use Rattle.norm.proofs.Rounding.{certain}

-- ---- the sum in steps of 2^44: what these leave out of each square is less than a step

pub covers : (a b g more : ℕ) → Covers (a / 2 ^ 44 / 4 ^ more + b / 2 ^ 44 / 4 ^ g / 4 ^ more) (a + b / 4 ^ g) more
covers a b g more =
    rw (div-div-eq-div-mul a (2 ^ 44) (4 ^ more), same)
    (steps a (b / 4 ^ g) (2 ^ 44 * 4 ^ more) (mul-pos (pow_pos 44) (four_pos more)))
  where
    steps : (x y e : ℕ) → 0 < e → ((x / e + y / e) * e ≤ x + y) × (x + y < (x / e + y / e + 2) * e)
    steps x y e z = omega (arith, div-mul-le_self x e, div-mul-le_self y e, lt-div-mul-add {a = x} z, lt-div-mul-add {a = y} z)

    same : b / 2 ^ 44 / 4 ^ g / 4 ^ more ≡ b / 4 ^ g / (2 ^ 44 * 4 ^ more)
    same =
        ap (λ (x : ℕ). x / 4 ^ more) (div-div-eq-div-mul b (2 ^ 44) (4 ^ g) ∙ ap (λ (x : ℕ). b / x) (mul_comm (2 ^ 44) (4 ^ g)) ∙ sym (div-div-eq-div-mul b (4 ^ g) (2 ^ 44)))
        ∙ div-div-eq-div-mul (b / 4 ^ g) (2 ^ 44) (4 ^ more)

-- ---- the words of the check

-- the i-th middle above the lowest, x, is below what t steps hold, and the next is above two steps more
within : (x i t : ℕ) → i ≤ 2 → x * x / 2 ^ 44 + i * (x / 2 ^ 42) + 4 ≤ t → t + 2 ≤ x * x / 2 ^ 44 + i * (x / 2 ^ 42) + x / 2 ^ 42
    → ((x + 2 * i) * (x + 2 * i) < t * 2 ^ 44) × ((t + 2) * 2 ^ 44 ≤ (x + 2 * (i + 1)) * (x + 2 * (i + 1)))
within x zero t l a b = omega arith
within x (suc zero) t l a b = omega arith
within x (suc (suc zero)) t l a b = omega arith
within x (suc (suc (suc i))) t l a b = absurd (omega arith)

-- middles whose squares lie on both sides of t steps and two more lie on both sides of what these cover
covered : (low high t sum more : ℕ) → low * low < t * 2 ^ 44 → (t + 2) * 2 ^ 44 ≤ high * high → Covers t sum more
    → (low * 2 ^ more * (low * 2 ^ more) < sum) × (sum < high * 2 ^ more * (high * 2 ^ more))
covered low high t sum more a b c =
    let P = 2 ^ more * 2 ^ more in
    let k : (t * (2 ^ 44 * P) ≤ sum) × (sum < (t + 2) * (2 ^ 44 * P)) = rw (power-of_four more) at c in
    (omega (arith, mul-lt-mul_of_pos_right {k = P} a (mul-pos (pow_pos more) (pow_pos more)), k.0), omega (arith, mul-le-mul_right P b, k.1))

-- so the root lies between the middles beside the i-th significand
pub passes : (m i t : ℕ) → 2 ≤ m → i ≤ 2 → let x = 2 * m - 3 in x * x / 2 ^ 44 + i * (x / 2 ^ 42) + 4 ≤ t → t + 2 ≤ x * x / 2 ^ 44 + i * (x / 2 ^ 42) + x / 2 ^ 42
    → (sum more : ℕ) → Covers t sum more → Between sum (m - 1 + i) (2 ^ more)
passes m i t l k a b sum more c =
    let x = 2 * m - 3 in
    let w = within x i t k a b in
    let low : 2 * (m - 1 + i) - 1 ≡ x + 2 * i = omega arith in
    let high : 2 * (m - 1 + i) + 1 ≡ x + 2 * (i + 1) = omega arith in
    rw (low, high) (covered (x + 2 * i) (x + 2 * (i + 1)) t sum more w.0 w.1 c)

-- ---- the words of the check at the unit, which is w or 2^d: the middles beside m / 2^d, and beside the next

module _ (m d w : ℕ) (unit : w ≡ 2 ^ d) (l : 2 ^ 52 ≤ m) (h : m < 2 ^ 53) (s : d ≤ 52) where
  abbrev whole : ℕ
  whole = m / 2 ^ d

  pub some-whole : 1 ≤ whole
  some-whole = (le-div_iff_mul-le (pow_pos d)).1 (omega (arith, pow_mono s))

  -- the next whole number of units is at most 2^53
  next-whole : suc whole * w ≤ 2 ^ 53
  next-whole =
      let e : 53 ≡ 53 - d + d = omega arith in
      let p : 2 ^ 53 ≡ 2 ^ (53 - d) * 2 ^ d = ap (λ (x : ℕ). 2 ^ x) e ∙ pow-add 2 (53 - d) d in
      rw (unit, p) (mul-le-mul_right (2 ^ d) ((div-lt_iff_lt-mul (pow_pos d)).1 (lt_of_lt_of_le h (le_of_eq p))))

  pub middle-fits : (i : ℕ) → i ≤ 1 → (2 * (whole + i) + 1) * w < 2 ^ 56
  middle-fits i k = omega (arith, next-whole, mul-le-mul_right w k, pow_mono s)

  -- the middle above m / 2^d is at most half a unit above m
  pub middle-small : (2 * whole + 1) * w < 2 ^ 54
  middle-small = omega (arith, next-whole, pow_pos d)

pub two-units : (q w : ℕ) → 1 ≤ q → 2 * w ≤ (2 * q + 1) * w
two-units q w h = mul-le-mul_right w (let k : 2 ≤ 2 * q + 1 = omega arith in k)

pub short-at-unit : (q d w : ℕ) → w ≡ 2 ^ d → (2 * q + 1) * w < 2 ^ 54 → q < 2 ^ 53
short-at-unit q d w e h =
    let p : 1 ≤ w = rw e (pow_pos d) in
    omega (arith, mul-le-mul_left (2 * q + 1) p)

-- the middle below is two units lower
two-lower : (q w : ℕ) → 1 ≤ q → (2 * q + 1) * w - 2 * w ≡ (2 * q - 1) * w
two-lower zero w h = absurd (lt_irrefl 0 h)
two-lower (suc p) w h = let e : 2 * suc p - 1 ≡ 2 * p + 1 = omega arith in rw e (omega arith)

-- middles at the unit whose squares' whole parts, below and above, lie on both sides of t
pub passes-at-unit : (q d w t below above : ℕ) → 1 ≤ q → w ≡ 2 ^ d → let high = (2 * q + 1) * w in let low = high - 2 * w in
    below ≡ low * low / 2 ^ 44 → above ≡ high * high / 2 ^ 44 → below < t → t < above → 2 ≤ above - t → (sum more : ℕ) → Covers t sum more → Between sum q (2 ^ (d + more))
passes-at-unit q d w t below above p u e f a b g sum more c =
    let low : (2 * q + 1) * w - 2 * w ≡ (2 * q - 1) * 2 ^ d = two-lower q w p ∙ ap (λ (z : ℕ). (2 * q - 1) * z) u in
    rw (pow-add 2 d more, ← (mul_assoc (2 * q - 1) (2 ^ d) (2 ^ more)), ← (mul_assoc (2 * q + 1) (2 ^ d) (2 ^ more)))
    (covered ((2 * q - 1) * 2 ^ d) ((2 * q + 1) * 2 ^ d) t sum more ((div-lt_iff_lt-mul (pow_pos 44)).0 (rw (← low) (lt_of_le_of_lt (le_of_eq (sym e)) a)))
    ((le-div_iff_mul-le (pow_pos 44)).0 (rw (← u) (omega arith))) c)

-- ---- what the check settles

-- a root between two middles x and y, in units that are 4^j times as small
finer : (x y s N h j : ℕ) → s * 4 ^ j ≤ N → N < suc s * 4 ^ j → (x * h * (x * h) < s) × (s < y * h * (y * h))
    → (x * (h * 2 ^ j) * (x * (h * 2 ^ j)) < N) × (N < y * (h * 2 ^ j) * (y * (h * 2 ^ j)))
finer x y s N h j l g b =
    let P = 2 ^ j * 2 ^ j in
    let p : 0 < P = mul-pos (pow_pos j) (pow_pos j) in
    let l' : s * P ≤ N = rw (power-of_four j) at l in
    let g' : N < suc s * P = rw (power-of_four j) at g in
    (omega (arith, mul-le-mul_right P b.0), omega (arith, mul-le-mul_right P b.1))

module _ (qa qb g : ℕ) where
  whole_part : (whole_squares qa qb g * 4 ^ g ≤ squares qa qb g) × (squares qa qb g < suc (whole_squares qa qb g) * 4 ^ g)
  whole_part = parts (2 * qa * (2 * qa)) (2 * qb * (2 * qb)) (4 ^ g) (four_pos g)
    where
      parts : (a b e : ℕ) → 0 < e → ((a + b / e) * e ≤ a * e + b) × (a * e + b < suc (a + b / e) * e)
      parts a b e z = omega (arith, div-mul-le_self b e, lt-div-mul-add {a = b} z)

  -- a significand that passes the check is the norm's
  pub settles : (shift more m r : ℕ) → Between (whole_squares qa qb g) m (2 ^ more) → 2 ^ 52 < m → m < 2 ^ 53 → Encodes r m (more + shift) → Settles qa qb g shift r
  settles shift more m r b l s e = record { most = e.0; value = λ n u k v. e.1 ∙ sym (certain n m (more + shift) (lt_of_le_of_lt zero-le l) (inr l) s (between n u k v)) }
    where
      between : (n u : ℕ) → g + u ≡ shift → squares qa qb g * 4 ^ u ≡ 4 * n → Between (4 * n) m (2 ^ (more + shift))
      between n u k v =
          let N = squares qa qb g in
          rw (← k, pow-add 2 more (g + u), pow-add 2 g u, ← (mul_assoc (2 ^ more) (2 ^ g) (2 ^ u)))
          (finer (2 * m - 1) (2 * m + 1) N (4 * n) (2 ^ more * 2 ^ g) u (le_of_eq v) (rw (← v) (mul-lt-mul_of_pos_right (lt-suc_self N) (four_pos u)))
          (finer (2 * m - 1) (2 * m + 1) (whole_squares qa qb g) N (2 ^ more) g whole_part.0 whole_part.1 b))

-- the same of parts that are not shifted, raised by `up` to the check and rounded at the unit
pub settles_at-unit : (a b up m r : ℕ) → Between (whole_squares (a * 2 ^ up) (b * 2 ^ up) 0) m (2 ^ up) → 0 < m → m < 2 ^ 53 → Encodes r m 0 → Settles a b 0 0 r
settles_at-unit a b up m r w p s e = record {
  most = e.0;
  value = λ n u k v. e.1 ∙ sym (certain n m 0 p (inl refl) s (lowered (2 * m - 1) (2 * m + 1) n (rw (raised n u k v) at w)));
}
  where
    P : ℕ
    P = 2 ^ up * 2 ^ up

    raised : (n u : ℕ) → 0 + u ≡ 0 → squares a b 0 * 4 ^ u ≡ 4 * n → whole_squares (a * 2 ^ up) (b * 2 ^ up) 0 ≡ 4 * n * P
    raised n zero k v = rw (div-one (2 * (b * 2 ^ up) * (2 * (b * 2 ^ up)))) (omega (arith, ap (λ (x : ℕ). x * P) v))
    raised n (suc u) k v = absurd (omega arith)

    lowered : (x y n : ℕ) → (x * 2 ^ up * (x * 2 ^ up) < 4 * n * P) × (4 * n * P < y * 2 ^ up * (y * 2 ^ up)) → (x * 1 * (x * 1) < 4 * n) × (4 * n < y * 1 * (y * 1))
    lowered x y n b = (lt_of_mul-lt-mul_right P (omega (arith, b.0)), lt_of_mul-lt-mul_right P (omega (arith, b.1)))
