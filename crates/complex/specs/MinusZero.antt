-- The lemma of document 02, L12: a sum that begins at +0 is never −0, so a zero of either sign leaves its bits. In round to nearest a sum of two numbers is −0
-- only where both are. It holds of numbers that binary64 holds, and every product is one. Assumes nothing.
use Rattle.lists.specs.Prelude.{refl, sym, ap, ◌∙◌, Bool, true, false, cond, beq, ℕ, zero, suc, zero-le, compare, le_refl, le_trans}
use Rattle.lists.specs.Prelude.{le_of_suc-le-suc, lt_irrefl, lt_of_lt_of_le, lt_of_not-le, zero-mul, one-mul, mul-one, suc-mul, add-zero, sub-zero, mul_comm, mul_assoc, mul-pos, mul-le-mul_right}
use Rattle.lists.specs.Prelude.{mul-lt-mul_of_pos_right, lt_of_mul-lt-mul_right, le-div_iff_mul-le, arith, T, ltb, leb, eqb, leb→le, ltb→lt, ℤ, pos, negsuc, pow-add, pow_pos, pow-lt, lt-ltb, le-ltb, ltb-true}
use Rattle.std.proofs.Common.{mul_right_comm}
use Rattle.std.proofs.Math.Nat.{mul-sub}
use Rattle.std.specs.Float.Ieee as Ieee
use Rattle.std.specs.Prelude.{Float, ◌≡◌, ◌&&◌, ◌+◌, ◌-◌, ◌*◌, ◌/◌, ◌%◌, ◌^◌, ◌≤◌, ◌<◌}
use Rattle.std.specs.Float.{nan, inf, fin, binary64}
use Rattle.std.specs.Float.Ieee.{prec, emax, low, up, down, size, odd, units, round, fits, to_bits, of_bits}
use Rattle.std.specs.Float.Ieee.Digits.{size-lt, size_reaches, back}
use Rattle.std.specs.Float.Ieee.Fits.{up_pos, down_pos, round_is, round-fits, and_l, and_r, add-fits, sub-fits}
use Rattle.std.specs.Float.Ieee.Bits.{of_bits-to_bits, of_bits-fits}
use Rattle.std.specs.Float.Ieee.Nearest.{nearest-ge, div_same}
use Rattle.std.specs.Float.Ieee.Exact.{HasValue, odd_sign, round_exact}
use Rattle.std.specs.Float.Ieee.Positive.{first_pos}
use Rattle.std.specs.Float.Ieee.Scale.{round_same}
use Rattle.lists.specs.Indexed.{fold}
use Rattle.lists.specs.Agreement.{never}
use Rattle.complex.specs.declared.Complex.{Complex}
use Rattle.complex.specs.Arithmetic.{add, mul, czero, cadd, cmul}
use Rattle.complex.specs.Sum.{sum_from}
use Rattle.complex.specs.Zeros.{Zero, Zeros}

-- not −0
abbrev pub NotMinusZero : Float → Type 0
NotMinusZero nan = Unit
NotMinusZero (inf s) = Unit
NotMinusZero (fin false m e) = Unit
NotMinusZero (fin true m e) = 0 < m

-- a number that binary64 holds
abbrev pub Held : Float → Type 0
Held x = T (fits binary64 x)

-- ---- rounding

of-value : (x : Float) (s : Bool) (a c : ℕ) → HasValue x s a c → 0 < a → NotMinusZero x
of-value nan s a c v h = tt
of-value (inf t) s a c v h = tt
of-value (fin false m e) s a c v h = tt
of-value (fin true m e) s a c v h = first_pos m (up e) (first_pos (m * up e) c (rw v.1 (mul-pos h (down_pos e))))

units-kept : (s : Bool) (q k : ℕ) → 0 < q → NotMinusZero (units binary64 s q k)
unfolding units
units-kept s q k h = choose (ltb (q * 2 ^ k) (2 ^ (low binary64 + suc (emax binary64))))
  where
    choose : (b : Bool) → NotMinusZero (cond b (odd (suc (prec binary64)) s q k (low binary64)) (inf s))
    choose true = of-value (odd (suc (prec binary64)) s q k (low binary64)) s (q * 2 ^ k) (2 ^ low binary64) (odd_sign (suc (prec binary64)) s q k (low binary64)) (mul-pos h (pow_pos k))
    choose false = tt

units-plus : (q k : ℕ) → NotMinusZero (units binary64 false q k)
unfolding units odd
units-plus zero k = choose (ltb (0 * 2 ^ k) (2 ^ (low binary64 + suc (emax binary64))))
  where
    choose : (b : Bool) → NotMinusZero (cond b (odd (suc (prec binary64)) false 0 k (low binary64)) (inf false))
    choose true = tt
    choose false = tt
units-plus (suc q) k = units-kept false (suc q) k (omega arith)

round-plus : (a c : ℕ) → NotMinusZero (round binary64 false a c)
round-plus a c = rw (round_is binary64 false a c) (units-plus _ _)

-- a fraction that is no smaller than the smallest value
digits : (w : ℕ) → 0 < w → 0 < size w
digits w h = lt_of_not-le (λ (none : size w ≤ 0). let e : size w ≡ 0 = omega arith in let l : w < 1 = rw e at (size-lt w) in omega arith)

round-kept : (s : Bool) (a c : ℕ) → 0 < c → c ≤ a * 2 ^ low binary64 → NotMinusZero (round binary64 s a c)
round-kept s a c C h =
    let n = a * 2 ^ low binary64 in
    let w = n / c in
    let k = size w - prec binary64 in
    let some : 1 ≤ w = (le-div_iff_mul-le C).1 (rw one-mul h) in
    let more : 0 < size w = digits w some in
    let kept : 2 ^ k * c ≤ n = (le-div_iff_mul-le C).0 (size_reaches w k (omega arith)) in
    let q : 1 ≤ n / (c * 2 ^ k) = (le-div_iff_mul-le (mul-pos C (pow_pos k))).1 (rw (one-mul, mul_comm c (2 ^ k)) kept) in
    rw (round_is binary64 s a c) (units-kept s _ k (le_trans q (nearest-ge (n / (c * 2 ^ k)) (compare (n % (c * 2 ^ k) * 2) (c * 2 ^ k)))))

-- ---- sums

-- two multiples of the smallest value differ by at least it
gap : (a b c w A B : ℕ) → 0 < w → a * w ≡ A * c → b * w ≡ B * c → b < a → c ≤ (a - b) * w
gap a b c w A B W ea eb h =
    let less : B * c < A * c = rw (← ea, ← eb) (mul-lt-mul_of_pos_right h W) in
    let step : suc B * c ≤ A * c = mul-le-mul_right c (lt_of_mul-lt-mul_right c less) in
    rw (mul_comm (a - b) w, mul-sub w a b, mul_comm w a, mul_comm w b, ea, eb) (omega (arith, suc-mul B c))

sum_kept : (s t : Bool) (a b c A B : ℕ) → 0 < c → a * 2 ^ low binary64 ≡ A * c → b * 2 ^ low binary64 ≡ B * c → (s ≡ true → 0 < a)
    → NotMinusZero (Ieee.sum binary64 s a t b c)
unfolding Ieee.sum
sum_kept false false a b c A B C ea eb h = round-plus (a + b) c
sum_kept false true a b c A B C ea eb h = choose (ltb a b) refl
  where
    choose : (p : Bool) → ltb a b ≡ p → NotMinusZero (cond p (round binary64 true (b - a) c) (round binary64 false (a - b) c))
    choose true e = round-kept true (b - a) c C (gap b a c (2 ^ low binary64) B A (pow_pos (low binary64)) eb ea (ltb-true a b e))
    choose false e = round-plus (a - b) c
sum_kept true false a b c A B C ea eb h = choose (ltb a b) (ltb b a) refl
  where
    choose : (p q : Bool) → ltb b a ≡ q → NotMinusZero (cond p (round binary64 false (b - a) c) (round binary64 q (a - b) c))
    choose true q e = round-plus (b - a) c
    choose false true e = round-kept true (a - b) c C (gap a b c (2 ^ low binary64) A B (pow_pos (low binary64)) ea eb (ltb-true b a e))
    choose false false e = round-plus (a - b) c
sum_kept true true a b c A B C ea eb h =
    let w = 2 ^ low binary64 in
    let c-le : c ≤ (a - 0) * w = gap a 0 c w A 0 (pow_pos (low binary64)) ea (zero-mul w ∙ sym (zero-mul c)) (h refl) in
    round-kept true (a + b) c C (le_trans c-le (mul-le-mul_right w (omega arith)))

-- a number that binary64 holds is a whole number of its smallest, m · 2 ^ j of them
placed : (e : ℤ) (l : ℕ) → down e ≤ 2 ^ l → (j : ℕ) × (up e * 2 ^ l ≡ 2 ^ j * down e)
placed (pos k) l h = (k + l, sym (pow-add 2 k l) ∙ sym (mul-one (2 ^ (k + l))))
placed (negsuc k) l h =
    let le : suc k ≤ l = le_of_suc-le-suc (lt_of_not-le (λ (past : suc l ≤ suc k). lt_irrefl (2 ^ l) (lt_of_lt_of_le (pow-lt past) h))) in
    (l - suc k, one-mul (2 ^ l) ∙ ap (λ (x : ℕ). 2 ^ x) (sym (back l (suc k) le)) ∙ pow-add 2 (l - suc k) (suc k))

abbrev Whole : ℕ → ℤ → ℕ → Type 0
Whole m e j = (m < 2 ^ prec binary64) × (m * up e * 2 ^ low binary64 ≡ m * 2 ^ j * down e) × (m * 2 ^ j < 2 ^ (low binary64 + suc (emax binary64)))

whole : (s : Bool) (m : ℕ) (e : ℤ) → Held (fin s m e) → (j : ℕ) × Whole m e j
unfolding fits
whole s zero e h = (0, (pow_pos (prec binary64), rw (zero-mul (up e), zero-mul (down e)) (zero-mul (2 ^ low binary64)), pow_pos (low binary64 + suc (emax binary64))))
whole s (suc m) e h =
    let w = 2 ^ low binary64 in
    let most = 2 ^ suc (emax binary64) in
    let A = eqb (suc m % 2) 1 in
    let B = ltb (suc m) (2 ^ prec binary64) in
    let C = leb (down e) w in
    let D = ltb (suc m * up e) (most * down e) in
    let j = placed e (low binary64) (leb→le (down e) w (and_r (A && B) C (and_l (A && B && C) D h))) in
    let same : suc m * up e * w ≡ suc m * 2 ^ j.0 * down e = mul_assoc (suc m) (up e) w ∙ ap (λ (x : ℕ). suc m * x) j.1 ∙ sym (mul_assoc (suc m) (2 ^ j.0) (down e)) in
    let under : suc m * up e * w < most * down e * w = mul-lt-mul_of_pos_right (ltb→lt (suc m * up e) (most * down e) (and_r (A && B && C) D h)) (pow_pos (low binary64)) in (
      j.0,
      (
        ltb→lt (suc m) (2 ^ prec binary64) (and_r A B (and_l (A && B) C (and_l (A && B && C) D h))),
        same,
        rw (pow-add 2 (low binary64) (suc (emax binary64)), mul_comm w most) (lt_of_mul-lt-mul_right (down e) (rw (← same, mul_right_comm most w (down e)) under)),
      ),
    )

positive : (s : Bool) (m : ℕ) (e : ℤ) → NotMinusZero (fin s m e) → s ≡ true → 0 < m
positive true m e h q = h
positive false m e h q = never q

-- in round to nearest a sum of numbers that binary64 holds is −0 only where both are
pub add_kept : (x y : Float) → Held x → Held y → NotMinusZero x → NotMinusZero (add x y)
unfolding Ieee.add
add_kept nan y hx hy h = tt
add_kept (inf s) nan hx hy h = tt
add_kept (inf s) (inf t) hx hy h = choose (beq s t)
  where
    choose : (b : Bool) → NotMinusZero (cond b (inf s) nan)
    choose true = tt
    choose false = tt
add_kept (inf s) (fin t n d) hx hy h = tt
add_kept (fin s m e) nan hx hy h = tt
add_kept (fin s m e) (inf t) hx hy h = tt
add_kept (fin s m e) (fin t n d) hx hy h =
    let w = 2 ^ low binary64 in
    let M = whole s m e hx in
    let N = whole t n d hy in
    sum_kept s t (m * up e * down d) (n * up d * down e) (down e * down d) (m * 2 ^ M.0) (n * 2 ^ N.0) (mul-pos (down_pos e) (down_pos d))
    (mul_right_comm (m * up e) (down d) w ∙ ap (λ (x : ℕ). x * down d) M.1.1 ∙ mul_assoc (m * 2 ^ M.0) (down e) (down d))
    (mul_right_comm (n * up d) (down e) w ∙ ap (λ (x : ℕ). x * down e) N.1.1 ∙ mul_right_comm (n * 2 ^ N.0) (down d) (down e) ∙ mul_assoc (n * 2 ^ N.0) (down e) (down d))
    (λ q. mul-pos (mul-pos (positive s m e h q) (up_pos e)) (down_pos d))

-- two numbers that binary64 holds, of one sign and size
same-value : (x : Float) (s : Bool) (m : ℕ) (e : ℤ) → Held x → Held (fin s m e) → HasValue x s (m * up e) (down e) → x ≡ fin s m e
unfolding to_bits
same-value nan s m e hx h v = absurd v
same-value (inf t) s m e hx h v = absurd v
same-value (fin t n d) s m e hx h v =
    let w = 2 ^ low binary64 in
    let units-same : n * up d * w / down d ≡ m * up e * w / down e =
    div_same (n * up d * w) (down d) (m * up e * w) (down e) (down_pos d) (down_pos e)
    (mul_right_comm (n * up d) w (down e) ∙ ap (λ (x : ℕ). x * w) v.1 ∙ mul_right_comm (m * up e) (down d) w) in
    let bits-same : to_bits binary64 (fin t n d) ≡ to_bits binary64 (fin s m e) = rw (v.0, units-same) in
    sym (of_bits-to_bits binary64 (fin t n d) hx) ∙ ap (λ (b : ℕ). of_bits binary64 b) bits-same ∙ of_bits-to_bits binary64 (fin s m e) h

round-held : (s : Bool) (m : ℕ) (e : ℤ) → Held (fin s m e) → round binary64 s (m * up e) (down e) ≡ fin s m e
round-held s m e h =
    let j = whole s m e h in
    same-value (round binary64 s (m * up e) (down e)) s m e (round-fits binary64 s (m * up e) (down e)) h
    (round_exact binary64 s (m * up e) (down e) m j.0 (down_pos e) j.1.0 j.1.2 j.1.1)

sum-alone : (s t : Bool) (a c : ℕ) → (s ≡ true → 0 < a) → Ieee.sum binary64 s a t 0 c ≡ round binary64 s a c
unfolding Ieee.sum
sum-alone false false a c h = rw add-zero
sum-alone true true a c h = rw add-zero
sum-alone false true a c h = rw (le-ltb a 0 zero-le, sub-zero)
sum-alone true false a c h = rw (le-ltb a 0 zero-le, lt-ltb 0 a (h refl), sub-zero)

-- what binary64 holds and is not −0 is left in bits by a zero of either sign; NaN and infinities too
pub add_nothing : (x y : Float) → Held x → NotMinusZero x → Zero y → add x y ≡ x
unfolding Ieee.add
add_nothing nan y f h z = refl
add_nothing (inf s) nan f h z = absurd z
add_nothing (inf s) (inf t) f h z = absurd z
add_nothing (inf s) (fin t n d) f h z = refl
add_nothing (fin s m e) nan f h z = absurd z
add_nothing (fin s m e) (inf t) f h z = absurd z
add_nothing (fin s m e) (fin t n d) f h z =
    rw (z, zero-mul (up d), zero-mul (down e))
    (sum-alone s t (m * up e * down d) (down e * down d) (λ q. mul-pos (mul-pos (positive s m e h q) (up_pos e)) (down_pos d))
    ∙ round_same binary64 s (m * up e * down d) (down e * down d) (m * up e) (down e) (mul-pos (down_pos e) (down_pos d)) (down_pos e)
    (mul_right_comm (m * up e) (down d) (down e) ∙ mul_assoc (m * up e) (down e) (down d))
    ∙ round-held s m e f)

-- ---- complex numbers

-- binary64 holds both parts; it does and neither is −0
abbrev pub HeldParts : Complex → Type 0
HeldParts z = Held z.re × Held z.im

abbrev pub NoMinusZero : Complex → Type 0
NoMinusZero z = HeldParts z × (NotMinusZero z.re × NotMinusZero z.im)

-- what is made is held
pub cmul-held : (x y : Complex) → HeldParts (cmul x y)
unfolding cmul
cmul-held x y = (sub-fits binary64 (mul x.re y.re) (mul x.im y.im), add-fits binary64 (mul x.re y.im) (mul x.im y.re))

-- ---- sums from +0

cadd-kept : (z y : Complex) → NoMinusZero z → HeldParts y → NoMinusZero (cadd z y)
unfolding cadd
cadd-kept z y h f = (
  (add-fits binary64 z.re y.re, add-fits binary64 z.im y.im),
  (add_kept z.re y.re h.0.0 f.0 h.1.0, add_kept z.im y.im h.0.1 f.1 h.1.1),
)

pub sum-never-minus-zero : (f : ℕ → Complex) (from k : ℕ) → ((i : ℕ) → i < k → HeldParts (f (from + i))) → NoMinusZero (sum_from czero f from k)
unfolding sum_from fold Ieee.of_bits
sum-never-minus-zero f from zero h = ((of_bits-fits binary64 0, of_bits-fits binary64 0), (tt, tt))
sum-never-minus-zero f from (suc k) h =
    cadd-kept (sum_from czero f from k) (f (from + k)) (sum-never-minus-zero f from k (λ i l. h i (omega arith))) (h k (le_refl (suc k)))

pub cadd-nothing : (z y : Complex) → NoMinusZero z → Zeros y → cadd z y ≡ z
unfolding cadd
cadd-nothing z y h e = λ i. record { re = add_nothing z.re y.re h.0.0 h.1.0 e.0 i; im = add_nothing z.im y.im h.0.1 h.1.1 e.1 i }
