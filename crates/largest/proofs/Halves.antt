-- The norm of two parts is at most the larger part and half the smaller one, rounded: where A is at least B and 2·U at least B, A² + B² is at most
-- (A + U)². So where both sums of a part and half the other are at most l, the larger of l and the norm is l. Assumes nothing.
use Rattle.std.specs.Prelude.{◌≡◌, ◌+◌, ◌-◌, ◌*◌, ◌%◌, ◌^◌, ◌≤◌, ◌<◌}
use Rattle.lists.specs.Prelude.{refl, sym, ap, ◌∙◌, subst, Bool, true, false, not, cond, ℕ, suc, le_of_eq, le_of_lt}
use Rattle.lists.specs.Prelude.{le_trans, lt_of_not-le, lt_of_le_of_lt, mod-le, add-mul, mul-add, mul_assoc, pow-suc, mul_comm, mul_left_comm, mul-le-mul, mod-eq_of_lt}
use Rattle.lists.specs.Prelude.{dec_le, arith, T, ltb, nltb→le, ℤ, Float, nan, inf, fin, binary64, le, ne, fits, nan_bits, of_bits, to_bits}
use lib.Ieee as Ieee
use lib.Ieee.Bits.{of_bits-fits, to_bits-of_bits, nan_bits_is}
use Rattle.lists.specs.Agreement.{never}
use Rattle.complex.specs.Arithmetic.{add, size, larger}
use Rattle.norm.specs.Norm.{norm, in_units}
use Rattle.norm.specs.Parts.{unsigned, significand_of, shift_of, units_of}
use Rattle.norm.specs.Squares.{square-power}
use Rattle.norm.specs.Sizes.{finite-size, significand_large}
use Rattle.complex.specs.Bits.{at-most-infinity}
use Rattle.norm.specs.Claims.{parts_swapped}
use Rattle.largest.specs.Digits.{half_bits}
use Rattle.largest.proofs.Bound.{at_most, norm-within}
use Rattle.largest.proofs.Unsigned.{size_of_bits, number-bits}

one_less : (a : ℕ) → 2 ^ 53 ≤ a → shift_of a ≡ suc (shift_of (a - 2 ^ 52))
one_less a k = omega arith

half-units : (a : ℕ) → units_of a ≤ 2 * units_of (half_bits a)
unfolding half_bits units_of
half-units a = go (ltb a (2 ^ 53)) (nltb→le a (2 ^ 53))
  where
    twice : (q j k : ℕ) → k ≡ suc j → q * 2 ^ k ≡ 2 * (q * 2 ^ j)
    twice q j k e = ap (λ (x : ℕ). q * 2 ^ x) e ∙ omega (arith, ap (λ (x : ℕ). q * x) (pow-suc 2 j), mul_assoc q (2 ^ j) 2)

    go : (t : Bool) → (T (not t) → 2 ^ 53 ≤ a) → units_of a ≤ 2 * units_of (cond t a (a - 2 ^ 52))
    go true h = omega arith
    go false h =
        let k : 2 ^ 53 ≤ a = h tt in
        let q : significand_of a ≡ significand_of (a - 2 ^ 52) = significand_large a (omega arith) ∙ (let r : 2 ^ 52 + a % 2 ^ 52 ≡ 2 ^ 52 + (a - 2 ^ 52) % 2 ^ 52 = omega arith in r) ∙ sym (significand_large (a - 2 ^ 52) (omega arith)) in
        le_of_eq (ap (λ (x : ℕ). x * 2 ^ shift_of a) q ∙ twice (significand_of (a - 2 ^ 52)) (shift_of (a - 2 ^ 52)) (shift_of a) (one_less a k))

half-square : (a b u : ℕ) → b ≤ a → b ≤ 2 * u → a ^ 2 + b ^ 2 ≤ (a + u) * (a + u)
half-square a b u h k =
    let l : b * b ≤ a * (2 * u) = mul-le-mul h k in
    omega (arith, l, square-power a, square-power b, mul_left_comm a 2 u, add-mul a u (a + u), mul-add a a u, mul-add u a u, mul_comm u a)

-- a finite number by its bits
record Number (h : ℕ) : Type 0 where
  digits : ℕ
  exponent : ℤ
  is : of_bits binary64 h ≡ fin false digits exponent
  measure : in_units digits exponent ≡ units_of h

number : (h : ℕ) → h < 2047 * 2 ^ 52 → Number h
unfolding size to_bits
number h l = go (of_bits binary64 h) refl
  where
    same : unsigned (of_bits binary64 h) ≡ h
    same = ap (λ (x : ℕ). x % 2 ^ 63) (to_bits-of_bits binary64 h (omega arith) (subst (λ (x : Bool). T (not x)) (nan_bits_is binary64 h) (at-most-infinity h (omega arith)))) ∙ mod-eq_of_lt (omega arith)

    go : (z : Float) → of_bits binary64 h ≡ z → Number h
    go nan p = absurd (let q : 0x7ff8_0000_0000_0000 ≡ h = ap unsigned (sym p) ∙ same in omega arith)
    go (inf true) p = absurd (let q : 2047 * 2 ^ 52 ≡ h = ap unsigned (sym p) ∙ same in omega arith)
    go (inf false) p = absurd (let q : 2047 * 2 ^ 52 ≡ h = ap unsigned (sym p) ∙ same in omega arith)
    go (fin s m e) p =
        let f = of_bits-fits binary64 h in
        record {
          digits = m;
          exponent = e;
          is = ap (of_bits binary64) (sym same) ∙ size_of_bits (of_bits binary64 h) f ∙ ap size p;
          measure = (finite-size s m e (subst (λ (x : Float). T (fits binary64 x)) p f)).1 ∙ ap units_of (ap unsigned (sym p) ∙ same);
        }

-- half a part, and a part with half the other
abbrev pub half : Float → Float
half y = of_bits binary64 (half_bits (unsigned y))

abbrev pub with_half : Float → Float → Float
with_half x y = add (size x) (half y)

half_at_most : (a : ℕ) → half_bits a ≤ a
unfolding half_bits
half_at_most a = go (ltb a (2 ^ 53))
  where
    go : (t : Bool) → cond t a (a - 2 ^ 52) ≤ a
    go true = omega arith
    go false = omega arith

pub half-of-number : (x : Float) → T (fits binary64 x) → ne x x ≡ false → T (not (nan_bits binary64 (half_bits (unsigned x))))
half-of-number x f n = at-most-infinity _ (le_trans (mod-le _ (2 ^ 63)) (le_trans (half_at_most (unsigned x)) (number-bits x f n)))

finite-parts : (l : Float) (s t : Bool) (m n : ℕ) (e d : ℤ) → let x = fin s m e in let y = fin t n d in T (fits binary64 x) → T (fits binary64 y)
    → units_of (unsigned y) ≤ units_of (unsigned x) → le (with_half x y) l ≡ true → larger l (norm x y) ≡ l
unfolding size Ieee.add Ieee.sum norm
finite-parts l s t m n e d fx fy h k =
    let a = finite-size s m e fx in
    let b = finite-size t n d fy in
    let z = number (half_bits (unsigned (fin t n d))) (lt_of_le_of_lt (half_at_most _) b.0) in
    norm-within m n z.digits e d z.exponent
    (half-square (in_units m e) (in_units n d) (in_units z.digits z.exponent) (omega (arith, h, a.1, b.1)) (omega (arith, half-units (unsigned (fin t n d)), b.1, z.measure)))
    l (subst T (sym (ap (λ (y : Float). le (add (size (fin s m e)) y) l) (sym z.is) ∙ k)) tt)

infinite-sum : (l z : Float) → le (add (inf false) z) l ≡ true → le (inf false) l ≡ true
unfolding Ieee.add Ieee.sum le
infinite-sum l nan h = never h
infinite-sum l (inf true) h = never h
infinite-sum l (inf false) h = h
infinite-sum l (fin s m e) h = h

pub halves_within : (l re im : Float) → T (fits binary64 re) → T (fits binary64 im) → le (with_half re im) l ≡ true → le (with_half im re) l ≡ true → larger l (norm re im) ≡ l
unfolding size Ieee.add Ieee.sum norm le
halves_within l nan im fr fi h k = never h
halves_within l (inf s) nan fr fi h k = never k
halves_within l (inf s) (inf t) fr fi h k = at_most l (inf false) (subst T (sym (infinite-sum l (half (inf t)) h)) tt)
halves_within l (inf s) (fin t n d) fr fi h k = at_most l (inf false) (subst T (sym (infinite-sum l (half (fin t n d)) h)) tt)
halves_within l (fin s m e) nan fr fi h k = never k
halves_within l (fin s m e) (inf t) fr fi h k = at_most l (inf false) (subst T (sym (infinite-sum l (half (fin s m e)) k)) tt)
halves_within l (fin s m e) (fin t n d) fr fi h k =
    go (dec_le (units_of (unsigned (fin t n d))) (units_of (unsigned (fin s m e))))
  where
    go : Dec (units_of (unsigned (fin t n d)) ≤ units_of (unsigned (fin s m e))) → larger l (norm (fin s m e) (fin t n d)) ≡ l
    go (yes g) = finite-parts l s t m n e d fr fi g h
    go (no g) = ap (larger l) (parts_swapped (fin s m e) (fin t n d)) ∙ finite-parts l t s n m d e fi fr (le_of_lt (lt_of_not-le g)) k
