-- Zeros of either sign: what is made of them, what a finite number times one is, and that a sum from +0 of such a product is +0. Assumes nothing.
use Rattle.std.specs.Prelude.{◌≡◌, ◌*◌, ◌<◌}
use Rattle.lists.specs.Prelude.{refl, sym, Bool, true, false, ℕ, mul-pos, zero-mul, mul-zero, pow_pos, Float, nan, inf, fin, pos, up, down, binary64, round}
use Rattle.std.specs.Float.Ieee as Ieee
use Rattle.std.specs.Float.Ieee.{unlike}
use Rattle.std.specs.Float.Ieee.Fits.{down_pos}
use Rattle.std.specs.Float.Ieee.Scale.{round_same}
use Rattle.lists.specs.Agreement.{never, both}
use Rattle.complex.specs.declared.Complex.{Complex}
use Rattle.complex.specs.Arithmetic.{add, sub, mul, plus_zero, finite, czero, real, cadd, cmul, conj, cfinite}
use Rattle.complex.specs.Finite.{parts}

-- a zero of either sign
abbrev pub Zero : Float → Type 0
Zero nan = ⊥
Zero (inf s) = ⊥
Zero (fin s m e) = m ≡ 0

round-zero : (s : Bool) (c : ℕ) → 0 < c → round binary64 s 0 c ≡ fin s 0 (pos 0)
unfolding Ieee.round
round-zero s c C = round_same binary64 s 0 c 0 1 C (pow_pos 0) (sym (zero-mul c))

zero-sum : (s t : Bool) (c : ℕ) → 0 < c → Zero (Ieee.sum binary64 s 0 t 0 c)
unfolding Ieee.sum
zero-sum false false c C = rw (round-zero false c C) refl
zero-sum false true c C = rw (round-zero false c C) refl
zero-sum true false c C = rw (round-zero false c C) refl
zero-sum true true c C = rw (round-zero true c C) refl

pub add-zeros : (x y : Float) → Zero x → Zero y → Zero (add x y)
unfolding Ieee.add
add-zeros nan y z z' = absurd z
add-zeros (inf s) y z z' = absurd z
add-zeros (fin s m e) nan z z' = absurd z'
add-zeros (fin s m e) (inf t) z z' = absurd z'
add-zeros (fin s m e) (fin t n d) z z' =
    rw (z, z', zero-mul (up e), zero-mul (up d), zero-mul (down e), zero-mul (down d)) (zero-sum s t (down e * down d) (mul-pos (down_pos e) (down_pos d)))

neg-zero : (x : Float) → Zero x → Zero (Ieee.neg x)
unfolding Ieee.neg
neg-zero nan z = z
neg-zero (inf s) z = z
neg-zero (fin s m e) z = z

pub sub-zeros : (x y : Float) → Zero x → Zero y → Zero (sub x y)
unfolding Ieee.sub
sub-zeros x y z z' = add-zeros x (Ieee.neg y) z (neg-zero y z')

-- a finite number times a zero, on either side; infinity times it is none
pub mul-zero-right : (x y : Float) → finite x ≡ true → Zero y → Zero (mul x y)
unfolding Ieee.mul finite
mul-zero-right nan y h z = never h
mul-zero-right (inf s) y h z = never h
mul-zero-right (fin s m e) nan h z = absurd z
mul-zero-right (fin s m e) (inf t) h z = absurd z
mul-zero-right (fin s m e) (fin t n d) h z =
    rw (z, zero-mul (up d), mul-zero (m * up e), round-zero (unlike s t) (down e * down d) (mul-pos (down_pos e) (down_pos d))) refl

pub mul-zero-left : (x y : Float) → Zero x → finite y ≡ true → Zero (mul x y)
unfolding Ieee.mul finite
mul-zero-left nan y z h = absurd z
mul-zero-left (inf s) y z h = absurd z
mul-zero-left (fin s m e) nan z h = never h
mul-zero-left (fin s m e) (inf t) z h = never h
mul-zero-left (fin s m e) (fin t n d) z h =
    rw (z, zero-mul (up e), zero-mul (n * up d), round-zero (unlike s t) (down e * down d) (mul-pos (down_pos e) (down_pos d))) refl

plus : (t : Bool) (c : ℕ) → 0 < c → Ieee.sum binary64 false 0 t 0 c ≡ fin false 0 (pos 0)
unfolding Ieee.sum
plus false c C = round-zero false c C
plus true c C = round-zero false c C

-- +0 and a zero of either sign are +0
pub zero-and : (y : Float) → Zero y → add plus_zero y ≡ plus_zero
unfolding Ieee.add Ieee.of_bits
zero-and nan z = absurd z
zero-and (inf s) z = absurd z
zero-and (fin t n d) z = rw (z, zero-mul (up d), zero-mul (down d)) (plus t (down (pos 0) * down d) (mul-pos (down_pos (pos 0)) (down_pos d)))

-- a finite number with weight +0 leaves a sum that is +0 as it is
pub weightless : (p : Complex) → cfinite p ≡ true → cadd czero (cmul p (real plus_zero)) ≡ czero
unfolding cadd cmul cfinite Ieee.of_bits
weightless p h =
    let f = both (finite p.re) (finite p.im) h in
    let re = mul p.re plus_zero in
    let im = mul p.im plus_zero in
    let re-zero : Zero re = mul-zero-right p.re plus_zero f.0 refl in
    let im-zero : Zero im = mul-zero-right p.im plus_zero f.1 refl in
    λ i. record { re = zero-and (sub re im) (sub-zeros re im re-zero im-zero) i; im = zero-and (add re im) (add-zeros re im re-zero im-zero) i }

-- ---- complex numbers

-- both parts are zeros of either sign
abbrev pub Zeros : Complex → Type 0
Zeros z = Zero z.re × Zero z.im

pub zero-zeros : Zeros czero
unfolding Ieee.of_bits
zero-zeros = (refl, refl)

zero-finite : (x : Float) → Zero x → finite x ≡ true
unfolding finite
zero-finite nan z = absurd z
zero-finite (inf s) z = absurd z
zero-finite (fin s m e) z = refl

pub zeros-finite : (z : Complex) → Zeros z → cfinite z ≡ true
unfolding cfinite
zeros-finite z h = rw (zero-finite z.re h.0, zero-finite z.im h.1)

-- +0 and zeros of either sign are +0
pub zeros-and : (z : Complex) → Zeros z → cadd czero z ≡ czero
unfolding cadd
zeros-and z h = λ i. record { re = zero-and z.re h.0 i; im = zero-and z.im h.1 i }

pub cadd-zeros : (x y : Complex) → Zeros x → Zeros y → Zeros (cadd x y)
unfolding cadd
cadd-zeros x y h e = (add-zeros x.re y.re h.0 e.0, add-zeros x.im y.im h.1 e.1)

pub cmul-zeros-left : (x y : Complex) → Zeros x → cfinite y ≡ true → Zeros (cmul x y)
unfolding cmul
cmul-zeros-left x y h f =
    let p = parts y f in (
      sub-zeros _ _ (mul-zero-left x.re y.re h.0 p.0) (mul-zero-left x.im y.im h.1 p.1),
      add-zeros _ _ (mul-zero-left x.re y.im h.0 p.1) (mul-zero-left x.im y.re h.1 p.0),
    )

pub cmul-zeros-right : (x y : Complex) → cfinite x ≡ true → Zeros y → Zeros (cmul x y)
unfolding cmul
cmul-zeros-right x y f h =
    let p = parts x f in (
      sub-zeros _ _ (mul-zero-right x.re y.re p.0 h.0) (mul-zero-right x.im y.im p.1 h.1),
      add-zeros _ _ (mul-zero-right x.re y.im p.0 h.1) (mul-zero-right x.im y.re p.1 h.0),
    )

pub conj-zeros : (z : Complex) → Zeros z → Zeros (conj z)
unfolding conj
conj-zeros z h = (h.0, neg-zero z.im h.1)
