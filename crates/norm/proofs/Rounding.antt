-- Rounding: what the norm is, from the doubled root x, what it leaves t, and the digits of x that are dropped; and from two middles between which
-- the root lies. x² + t is N, and 4·n is N·4^s: x counts halves of 2^s units. suc k digits are dropped, the highest of them worth half a step.
-- Assumes nothing.
use Rattle.std.specs.Prelude.{◌≡◌, ◌⊎◌, ◌+◌, ◌-◌, ◌*◌, ◌/◌, ◌%◌, ◌^◌, ◌≤◌, ◌<◌}
use Rattle.lists.specs.Prelude.{sym, ap, ◌∙◌, inl, inr, ⊎_map, false, ℕ, zero, suc, Ordering, dec_le, le_of_lt}
use Rattle.lists.specs.Prelude.{le_of_suc-le-suc, lt_of_not-le, lt_irrefl, le_trans, le-add_right, eq-zero-or-pos, mul-pos, mul-le-mul_right, mul-lt-mul_of_pos_right}
use Rattle.lists.specs.Prelude.{pow-suc, div-add-mod', mod-lt, div-lt_iff_lt-mul, le-div_iff_mul-le, add-one, arith, pow-add, pow_pos, binary64, nearest, units}
use Rattle.norm.specs.Norm.{rounded_root}
use Rattle.norm.specs.Parts.{Significand, Rounded}
use Rattle.norm.specs.Checked.{Between}
use Rattle.norm.specs.Words.{Dropped, RoundsBy}
use Rattle.norm.specs.Squares.{Compared, less, same, more, compared, square_le, square-lt, power-of_four}
use Rattle.norm.specs.Cell.{Within, ByMiddle, rounded-within}

-- with H for half a step of the root and T for 2^s
scaled : (n N M H T : ℕ) {o : Ordering} → 0 < T * T → N * (T * T) ≡ 4 * n → Compared N (M * H * (M * H)) o → Compared (4 * n) (M * (H * T) * (M * (H * T))) o
scaled n N M H T z e (less h) = less (omega (arith, mul-lt-mul_of_pos_right h z))
scaled n N M H T z e (same h) = same (omega (arith, ap (λ (x : ℕ). x * (T * T)) h))
scaled n N M H T z e (more h) = more (omega (arith, mul-lt-mul_of_pos_right h z))

module _ (n x t s k : ℕ) (value : (x * x + t) * 4 ^ s ≡ 4 * n) (little : t ≤ 2 * x) where
  abbrev q : ℕ
  q = x / 2 ^ suc k

  abbrev y : ℕ
  y = x % 2 ^ suc k

  abbrev middle : ℕ
  middle = (2 * q + 1) * 2 ^ k

  parts : x ≡ q * (2 ^ k * 2) + y
  parts = sym (div-add-mod' x (2 ^ suc k)) ∙ ap (λ (p : ℕ). q * p + y) (pow-suc 2 k)

  below_step : y < 2 ^ k * 2
  below_step = omega (arith, mod-lt x (pow_pos (suc k)))

  -- the root lies within the step
  within : Significand q (k + s) → Within n q (k + s)
  within d =
      let e : (x * x + t) * (2 ^ s * 2 ^ s) ≡ 4 * n = rw (power-of_four s) at value in
      let b = bounds q y (2 ^ k) (2 ^ s) e parts below_step (mul-pos (pow_pos s) (pow_pos s)) in
      record { digits = d; above = rw (pow-add 2 k s) b.0; below = rw (pow-add 2 k s) b.1 }
    where
      bounds : (q y H T : ℕ) → (x * x + t) * (T * T) ≡ 4 * n → x ≡ q * (H * 2) + y → y < H * 2 → 0 < T * T
          → (q * (H * T) * (q * (H * T)) ≤ n) × (n < suc q * (H * T) * (suc q * (H * T)))
      bounds q y H T e p l z =
          let a : q * (H * 2) * (q * (H * 2)) ≤ x * x + t = omega (arith, square_le {a = q * (H * 2)} {b = x} (omega arith)) in
          let b : suc (x * x + t) ≤ suc q * (H * 2) * (suc q * (H * 2)) = omega (arith, square_le {a = suc x} {b = suc q * (H * 2)} (omega arith)) in
          (omega (arith, mul-le-mul_right (T * T) a), omega (arith, mul-le-mul_right (T * T) b))

  -- the three ways, by what is dropped
  pub rounded_up : {r : ℕ} → RoundsBy q y (2 ^ k) t r → Significand q (k + s) → rounded_root n ≡ units binary64 false (q + r) (k + s)
  rounded_up {r} b d = go (compared y (2 ^ k))
    where
      done : {o : Ordering} → Compared (x * x + t) (middle * middle) o → q + r ≡ nearest q o → rounded_root n ≡ units binary64 false (q + r) (k + s)
      done {o} c e =
          let v : (x * x + t) * (2 ^ s * 2 ^ s) ≡ 4 * n = rw (power-of_four s) at value in
          let m : ByMiddle n q (k + s) o = rw (pow-add 2 k s) (scaled n (x * x + t) (2 * q + 1) (2 ^ k) (2 ^ s) (mul-pos (pow_pos s) (pow_pos s)) v c) in
          rounded-within (within d) m ∙ ap (λ (m : ℕ). units binary64 false m (k + s)) (sym e)

      go : {o : Ordering} → Compared y (2 ^ k) o → rounded_root n ≡ units binary64 false (q + r) (k + s)
      go (less h) = done (less (omega (arith, square_le {a = suc x} {b = middle} (omega (arith, parts))))) (omega (arith, b.below h))
      go (more h) = done (more (omega (arith, square-lt {a = middle} {b = x} (omega (arith, parts))))) (omega (arith, b.above h))
      go (same h) = by (eq-zero-or-pos t)
        where
          at : x * x ≡ middle * middle
          at = ap (λ (z : ℕ). z * z) (let e : x ≡ middle = omega (arith, parts) in e)

          by : (t ≡ 0) ⊎ (0 < t) → rounded_root n ≡ units binary64 false (q + r) (k + s)
          by (inl z) = done (same (omega (arith, at))) (omega (arith, b.tie h z))
          by (inr p) = done (more (omega (arith, at))) (omega (arith, b.past h p))

-- ---- from the middles

-- a root strictly between the middles beside m·2^k rounds to it: m is no power of two, or the step is the unit
pub certain : (n m k : ℕ) → 0 < m → (k ≡ 0) ⊎ (2 ^ 52 < m) → m < 2 ^ 53 → Between (4 * n) m (2 ^ k) → rounded_root n ≡ units binary64 false m k
certain n zero k z l h b = absurd (lt_irrefl 0 z)
certain n (suc p) k z l h b = go (dec_le ((suc p * 2 ^ k) * (suc p * 2 ^ k)) n)
  where
    -- the middle below, from the significand below
    under : (2 * p + 1) * 2 ^ k * ((2 * p + 1) * 2 ^ k) < 4 * n
    under = let e : 2 * suc p - 1 ≡ 2 * p + 1 = omega arith in rw e at b.0

    go : Dec ((suc p * 2 ^ k) * (suc p * 2 ^ k) ≤ n) → rounded_root n ≡ units binary64 false (suc p) k
    go (yes g) = rounded-within (record { digits = record { small = h; full = ⊎_map (λ e. e) le_of_lt l }; above = g; below = omega (arith, b.1) }) (less b.1)
    go (no g) =
        rounded-within (record { digits = record { small = omega arith; full = ⊎_map (λ e. e) le_of_suc-le-suc l }; above = omega (arith, under); below = lt_of_not-le g })
        (more under)

-- ---- from the root

-- What is known once the digits are rounded: the root x, what it leaves t, the shift s, the r digits dropped, j of them from the unit on, and what
-- rounding adds, m.
pub record Known (x t s r j m : ℕ) : Type 0 where
  pub little : t ≤ 2 * x
  pub dropped : Dropped x r
  pub from-unit : j + 1 ≡ r
  pub unit : (s ≡ 0) ⊎ (2 ^ 53 ≤ x)
  pub up : RoundsBy (x / 2 ^ r) (x % 2 ^ r) (2 ^ j) t m

-- the digits that are kept: at most 53
pub upper-small : (x r : ℕ) → Dropped x r → x / 2 ^ r < 2 ^ 53
upper-small x r d = (div-lt_iff_lt-mul (pow_pos r)).1 d.short

module _ {x t s r j m : ℕ} (given : Known x t s r j m) where
  step : r ≡ suc j
  step = sym given.from-unit ∙ add-one j

  significand : Significand (x / 2 ^ r) (j + s)
  significand = record { small = upper-small x r given.dropped; full = go given.dropped.long given.unit }
    where
      go : (r ≡ 1) ⊎ (2 ^ 52 * 2 ^ r ≤ x) → (s ≡ 0) ⊎ (2 ^ 53 ≤ x) → (j + s ≡ 0) ⊎ (2 ^ 52 ≤ x / 2 ^ r)
      go (inr h) u = inr ((le-div_iff_mul-le (pow_pos r)).1 h)
      go (inl a) (inl b) = inl (omega (arith, given.from-unit))
      go (inl a) (inr h) = inr ((le-div_iff_mul-le (pow_pos r)).1 (rw a h))

  pub rounded : Rounded (x / 2 ^ r + m) (j + s)
  rounded = record {
    most = omega (arith, upper-small x r given.dropped, given.up.most);
    full = ⊎_map (λ e. e) (λ h. le_trans h (le-add_right (x / 2 ^ r) m)) significand.full;
  }

  -- whatever the number is whose root this is
  pub result : (n : ℕ) → (x * x + t) * 4 ^ s ≡ 4 * n → rounded_root n ≡ units binary64 false (x / 2 ^ r + m) (j + s)
  result n v = rw step (rounded_up n x t s j v given.little (rw step at given.up) (rw step at significand))
