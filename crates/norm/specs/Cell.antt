-- What the rounded root is, from the two neighbouring multiples of 2^k between which the root lies. Assumes nothing.
use Rattle.std.specs.Prelude.{◌≡◌, ◌⊎◌, ◌+◌, ◌-◌, ◌*◌, ◌/◌, ◌^◌, ◌≤◌, ◌<◌}
use Rattle.lists.specs.Prelude.{ap, ◌∙◌, inl, inr, false, ℕ, suc, compare, Ordering, le_of_suc-le-suc, lt_of_le_of_lt}
use Rattle.lists.specs.Prelude.{lt_of_not-le, le_antisymm, mul-le-mul_right, le-div_iff_mul-le, div-lt_iff_lt-mul, arith, pow-add, pow_pos, pow_mono, Float, binary64}
use Rattle.lists.specs.Prelude.{nearest, units, size}
use Rattle.std.specs.Float.Ieee.Digits.{size-lt, size-le}
use Rattle.norm.specs.Norm.{root, rounded_root}
use Rattle.norm.specs.Parts.{Significand}
use Rattle.norm.specs.Squares.{Compared, less, compare_is, square-power, between-squares, below-of-squares}
use Rattle.norm.specs.Roots.{root_is}

-- a number from q·2^k up to the next multiple has 53 + k digits, or fewer at the unit, and q is its quotient by 2^k
module _ (m q k : ℕ) (s : Significand q k) (l : q * 2 ^ k ≤ m) (h : m < suc q * 2 ^ k) where
  pub dropped_digits : size m - 53 ≡ k
  dropped_digits = go s.full
    where
      most : size m ≤ 53 + k
      most = size-le m (53 + k) (rw pow-add (omega (arith, mul-le-mul_right (2 ^ k) s.small)))

      least : 2 ^ 52 ≤ q → 52 + k < size m
      least f = lt_of_not-le (λ (g : size m ≤ 52 + k). let n : ⊥ = omega (arith, size-lt m, pow_mono g, pow-add 2 52 k, mul-le-mul_right (2 ^ k) f) in n)

      go : (k ≡ 0) ⊎ (2 ^ 52 ≤ q) → size m - 53 ≡ k
      go (inl e) = omega (arith, most)
      go (inr f) = omega (arith, most, least f)

  pub whole-steps : m / 2 ^ k ≡ q
  whole-steps = le_antisymm (le_of_suc-le-suc ((div-lt_iff_lt-mul (pow_pos k)).1 h)) ((le-div_iff_mul-le (pow_pos k)).1 l)

-- the root lies at q·2^k or above, and below the next multiple
pub record Within (n q k : ℕ) : Type 0 where
  pub digits : Significand q k
  pub above : (q * 2 ^ k) * (q * 2 ^ k) ≤ n
  pub below : n < (suc q * 2 ^ k) * (suc q * 2 ^ k)

-- it is rounded by how it compares with the middle of the two, both doubled and squared
abbrev pub ByMiddle : ℕ → ℕ → ℕ → Ordering → Type 0
ByMiddle n q k o = Compared (4 * n) ((2 * q + 1) * 2 ^ k * ((2 * q + 1) * 2 ^ k)) o

pub rounded-within : {n q k : ℕ} {o : Ordering} → Within n q k → ByMiddle n q k o → rounded_root n ≡ units binary64 false (nearest q o) k
unfolding rounded_root
rounded-within {n} {q} {k} {o} w c =
    let r = root n in
    let e : compare (4 * n) (((2 * q + 1) * 2 ^ k) ^ 2) ≡ o = rw (square-power ((2 * q + 1) * 2 ^ k)) (compare_is c) in
    let l : q * 2 ^ k ≤ r = between-squares (q * 2 ^ k) r n w.above (root_is n).1 in
    let h : r < suc q * 2 ^ k = below-of-squares r (suc q * 2 ^ k) (lt_of_le_of_lt (root_is n).0 w.below) in
    let at : ℕ → ℕ → Float = λ (k q : ℕ). units binary64 false (nearest q (compare (4 * n) (((2 * q + 1) * 2 ^ k) ^ 2))) k in
    ap (λ (k : ℕ). at k (r / 2 ^ k)) (dropped_digits r q k w.digits l h) ∙ ap (λ (q : ℕ). at k q) (whole-steps r q k w.digits l h)
    ∙ ap (λ (o : Ordering). units binary64 false (nearest q o) k) e

-- q·2^k beside a b whose square is less than half a step: the norm is q·2^k itself
pub step-alone : (q k b : ℕ) → Significand q k → 4 * (b * b) < (4 * q + 1) * (2 ^ k * 2 ^ k) → rounded_root ((q * 2 ^ k) ^ 2 + b ^ 2) ≡ units binary64 false q k
step-alone q k b s h = rw (square-power (q * 2 ^ k), square-power b) (rounded-within (record { digits = s; above = omega arith; below = omega arith }) (less (omega arith)))
