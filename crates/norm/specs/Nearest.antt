-- The rounded root is the binary64 nearest to the root: none is nearer, and where two are as near it has the even significand.
-- Said with both sides squared: the root of n is not below the middle of w and c where 4·n is not below (w + c)². Assumes nothing.
use Rattle.std.specs.Prelude.{◌≡◌, ◌⊎◌, ◌+◌, ◌-◌, ◌*◌, ◌/◌, ◌%◌, ◌^◌, ◌≤◌, ◌<◌, ◌≢◌}
use Rattle.lists.specs.Prelude.{refl, ap, ap₂, ◌∙◌, subst, inl, inr, ⊎_map, false, ℕ, zero, suc, compare, Ordering}
use Rattle.lists.specs.Prelude.{ordering_eq, le_trans, le_of_eq, le_of_lt, lt_of_lt_of_le, lt_of_not-le, mul_assoc, mul-le-mul_right, mul-le-mul, eq-zero-or-pos}
use Rattle.lists.specs.Prelude.{pow-succ', le-div_iff_mul-le, div-mul-le_self, div-add-mod', mod-lt, dec_le, arith, pow-add, pow_pos, pow_mono, T, Float, nan, inf, fin}
use Rattle.lists.specs.Prelude.{binary64, nearest, units, size, fits}
use Rattle.std.specs.Float.Ieee.Digits.{Equals, size_reaches}
use Rattle.std.specs.Float.Ieee.Fits.{kept-lt}
use Rattle.norm.specs.Norm.{norm, root, rounded_root}
use Rattle.norm.specs.Squares.{Compared, less, same, more, compared, square_le, square-lt, square-power}
use Rattle.norm.specs.Roots.{root_is}
use Rattle.norm.specs.Parts.{unsigned, significand_of, shift_of, units_of, Significand}
use Rattle.norm.specs.Cell.{Within, ByMiddle}
use Rattle.norm.specs.Encoding.{in-units}
use Rattle.norm.specs.Sizes.{placed, finite-size}

-- ---- what the definition makes of the root

abbrev pub step_of : ℕ → ℕ
step_of n = size (root n) - 53

abbrev pub digits_of : ℕ → ℕ
digits_of n = root n / 2 ^ step_of n

abbrev pub order_of : ℕ → Ordering
order_of n = compare (4 * n) (((2 * digits_of n + 1) * 2 ^ step_of n) ^ 2)

abbrev pub significand_of_root : ℕ → ℕ
significand_of_root n = nearest (digits_of n) (order_of n)

-- the rounded root's size in units, before infinity takes the place of what is too large
abbrev pub rounded_size : ℕ → ℕ
rounded_size n = significand_of_root n * 2 ^ step_of n

pub rounded-is : (n : ℕ) → rounded_root n ≡ units binary64 false (significand_of_root n) (step_of n)
unfolding rounded_root
rounded-is n = refl

-- the norm, from the parts' sizes
pub norm-of-sizes : (x y : Float) (a b : ℕ) → Equals x a (2 ^ 1074) → Equals y b (2 ^ 1074) → norm x y ≡ rounded_root (a ^ 2 + b ^ 2)
unfolding norm
norm-of-sizes nan y a b h k = absurd h
norm-of-sizes (inf s) y a b h k = absurd h
norm-of-sizes (fin s m e) nan a b h k = absurd k
norm-of-sizes (fin s m e) (inf t) a b h k = absurd k
norm-of-sizes (fin s m e) (fin t n d) a b h k = ap₂ (λ (p q : ℕ). rounded_root (p ^ 2 + q ^ 2)) (in-units m e a h) (in-units n d b k)

-- the root lies within its step, and the order is that of its middle
pub own-step : (n : ℕ) → Within n (digits_of n) (step_of n)
own-step n = record {
  digits = record { small = kept-lt 53 r; full = ⊎_map (λ e. e) long (eq-zero-or-pos k) };
  above = le_trans (square_le (div-mul-le_self r (2 ^ k))) (root_is n).0;
  below = lt_of_lt_of_le (root_is n).1 (square_le high);
}
  where
    r : ℕ
    r = root n

    k : ℕ
    k = step_of n

    high : suc r ≤ suc (digits_of n) * 2 ^ k
    high = omega (arith, div-add-mod' r (2 ^ k), mod-lt r (pow_pos k))

    long : 0 < k → 2 ^ 52 ≤ digits_of n
    long h = (le-div_iff_mul-le (pow_pos k)).1 (rw (← pow-add 2 52 k) (size_reaches r (52 + k) (omega arith)))

own-order : (n : ℕ) → ByMiddle n (digits_of n) (step_of n) (order_of n)
own-order n = let m = (2 * digits_of n + 1) * 2 ^ step_of n in subst (λ (x : ℕ). Compared (4 * n) x (order_of n)) (square-power m) (compared (4 * n) (m ^ 2))

-- ---- a number of at most 53 digits, at any step: every binary64's size is one

pub record Representable (c : ℕ) : Type 0 where
  pub digits : ℕ
  pub step : ℕ
  pub short : digits < 2 ^ 53
  pub value : c ≡ digits * 2 ^ step

pub every_size : (z : Float) (c : ℕ) → T (fits binary64 z) → Equals z c (2 ^ 1074) → Representable c
unfolding units_of
every_size nan c f h = absurd h
every_size (inf s) c f h = absurd h
every_size (fin s m e) c f h =
    let a = unsigned (fin s m e) in
    subst Representable (in-units m e c h) (record { digits = significand_of a; step = shift_of a; short = (placed a).digits.small; value = (finite-size s m e f).1 })

-- none lies inside a step of the root
between-steps : (q k c : ℕ) → Significand q k → Representable c → (c ≤ q * 2 ^ k) ⊎ (suc q * 2 ^ k ≤ c)
between-steps q k c s r = go s.full (dec_le k j)
  where
    p : ℕ
    p = r.digits

    j : ℕ
    j = r.step

    side : (m : ℕ) → c ≡ m * 2 ^ k → Dec (m ≤ q) → (c ≤ q * 2 ^ k) ⊎ (suc q * 2 ^ k ≤ c)
    side m e (yes h) = inl (rw e (mul-le-mul_right (2 ^ k) h))
    side m e (no h) = inr (rw e (mul-le-mul_right (2 ^ k) (lt_of_not-le h)))

    go : (k ≡ 0) ⊎ (2 ^ 52 ≤ q) → Dec (k ≤ j) → (c ≤ q * 2 ^ k) ⊎ (suc q * 2 ^ k ≤ c)
    go f (yes h) =
        let e : j ≡ j - k + k = omega arith in
        side (p * 2 ^ (j - k)) (r.value ∙ ap (λ (x : ℕ). p * 2 ^ x) e ∙ rw (pow-add 2 (j - k) k) (omega arith)) (dec_le (p * 2 ^ (j - k)) q)
    go (inl e) (no h) = absurd (omega arith)
    go (inr f) (no h) =
        inl (rw r.value (le_trans (mul-le-mul_right (2 ^ j) (le_of_lt r.short))
        (le_trans (le_of_eq (mul_assoc (2 ^ 52) 2 (2 ^ j))) (mul-le-mul f (rw (← (pow-succ' 2 j)) (pow_mono (lt_of_not-le h)))))))

-- ---- no binary64 is nearer

-- w is at least as near to the root of n as c is
abbrev pub NoNearer : ℕ → ℕ → ℕ → Type 0
NoNearer n w c = (c < w → (w + c) * (w + c) ≤ 4 * n) × (w < c → 4 * n ≤ (w + c) * (w + c))

module _ (n q k c : ℕ) (i : Within n q k) (r : Representable c) where
  abbrev down : ℕ
  down = q * 2 ^ k

  abbrev upper : ℕ
  upper = suc q * 2 ^ k

  abbrev middle : ℕ
  middle = (2 * q + 1) * 2 ^ k

  -- a c on the other side of the step is as far from the middle or farther
  beyond : down < c → middle * middle ≤ (down + c) * (down + c)
  beyond h = square_le (go (between-steps q k c i.digits r))
    where
      go : (c ≤ down) ⊎ (upper ≤ c) → middle ≤ down + c
      go (inl a) = absurd (omega arith)
      go (inr a) = omega arith

  before : c < upper → (upper + c) * (upper + c) ≤ middle * middle
  before h = square_le (go (between-steps q k c i.digits r))
    where
      go : (c ≤ down) ⊎ (upper ≤ c) → upper + c ≤ middle
      go (inl a) = omega arith
      go (inr a) = absurd (omega arith)

  -- one on the same side is farther than the root itself
  under : c < down → (down + c) * (down + c) < 4 * n
  under h = let l : (down + c) * (down + c) < (down + down) * (down + down) = square-lt (omega arith) in omega (arith, i.above)

  over : upper < c → 4 * n < (upper + c) * (upper + c)
  over h = let l : (upper + upper) * (upper + upper) ≤ (upper + c) * (upper + c) = square_le (omega arith) in omega (arith, i.below)

  stays-nearest : 4 * n ≤ middle * middle → NoNearer n down c
  stays-nearest m = ((λ h. le_of_lt (under h)), λ h. le_trans m (beyond h))

  goes_up_nearest : middle * middle ≤ 4 * n → NoNearer n upper c
  goes_up_nearest m = ((λ h. le_trans (before h) m), λ h. le_of_lt (over h))

  -- the three orders; at a tie the significand is q where that is even, and the next where it is odd
  nearest-by : {o : Ordering} → ByMiddle n q k o → NoNearer n (nearest q o * 2 ^ k) c
  nearest-by (less h) = stays-nearest (le_of_lt h)
  nearest-by (more h) = goes_up_nearest (le_of_lt h)
  nearest-by (same h) = go (q % 2) refl
    where
      go : (m : ℕ) → q % 2 ≡ m → NoNearer n ((q + q % 2) * 2 ^ k) c
      go zero e = let even : q + q % 2 ≡ q = omega arith in rw even (stays-nearest (le_of_eq h))
      go (suc m) e = let odd : q + q % 2 ≡ suc q = omega arith in rw odd (goes_up_nearest (omega arith))

  -- where c is another number as near, the root is the middle of the step
  tie-by : {o : Ordering} → ByMiddle n q k o → (c ≡ nearest q o * 2 ^ k → ⊥) → 4 * n ≡ (nearest q o * 2 ^ k + c) * (nearest q o * 2 ^ k + c) → o ≡ ordering_eq
  tie-by (same h) d t = refl
  tie-by (less h) d t = absurd (go (dec_le c down))
    where
      go : Dec (c ≤ down) → ⊥
      go (yes l) = let s = under (omega arith) in omega arith
      go (no l) = let s = beyond (lt_of_not-le l) in omega arith
  tie-by (more h) d t = absurd (go (dec_le upper c))
    where
      go : Dec (upper ≤ c) → ⊥
      go (yes l) = let s = over (omega arith) in omega arith
      go (no l) = let s = before (lt_of_not-le l) in omega arith

-- ---- the theorems, for every sum of squares n

pub no_nearer : (n c : ℕ) → Representable c → NoNearer n (rounded_size n) c
no_nearer n c r = nearest-by n (digits_of n) (step_of n) c (own-step n) r (own-order n)

-- a binary64 c that is another and as near: the significand is even
pub tie-is-even : (n c : ℕ) → Representable c → (c ≢ rounded_size n) → 4 * n ≡ (rounded_size n + c) * (rounded_size n + c) → significand_of_root n % 2 ≡ 0
tie-is-even n c r d t = ap (λ (o : Ordering). nearest (digits_of n) o % 2) (tie-by n (digits_of n) (step_of n) c (own-step n) r (own-order n) d t) ∙ even (digits_of n)
  where
    even : (q : ℕ) → (q + q % 2) % 2 ≡ 0
    even q = omega arith
