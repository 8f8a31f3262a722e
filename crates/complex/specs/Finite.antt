-- What is not finite stays so: a sum or a product is finite only where both sides are, so a test of the last result tests each step to it.
-- Assumes nothing.
use Rattle.std.specs.Prelude.{◌≡◌}
use Rattle.lists.specs.Prelude.{refl, sym, ◌∙◌, Bool, true, false, cond, beq, eqb, Float, nan, inf, fin}
use Rattle.std.specs.Float.Ieee as Ieee
use Rattle.lists.specs.Agreement.{never, both}
use Rattle.complex.specs.declared.Complex.{Complex}
use Rattle.complex.specs.Arithmetic.{add, sub, mul, finite, cfinite, cadd, cmul, conj}

-- a choice between a NaN and an infinity, in either order
nan-or-inf : (b s : Bool) → finite (cond b nan (inf s)) ≡ false
unfolding finite
nan-or-inf true s = refl
nan-or-inf false s = refl

inf-or-nan : (b s : Bool) → finite (cond b (inf s) nan) ≡ false
unfolding finite
inf-or-nan true s = refl
inf-or-nan false s = refl

abbrev Both : Float → Float → Type 0
Both x y = (finite x ≡ true) × (finite y ≡ true)

mul-finite : (x y : Float) → finite (mul x y) ≡ true → Both x y
unfolding Ieee.mul finite
mul-finite nan y h = never h
mul-finite (inf s) nan h = never h
mul-finite (inf s) (inf t) h = never h
mul-finite (inf s) (fin t n d) h = never (sym (nan-or-inf (eqb n 0) (Ieee.unlike s t)) ∙ h)
mul-finite (fin s m e) nan h = never h
mul-finite (fin s m e) (inf t) h = never (sym (nan-or-inf (eqb m 0) (Ieee.unlike s t)) ∙ h)
mul-finite (fin s m e) (fin t n d) h = (refl, refl)

add-finite : (x y : Float) → finite (add x y) ≡ true → Both x y
unfolding Ieee.add finite
add-finite nan y h = never h
add-finite (inf s) nan h = never h
add-finite (inf s) (inf t) h = never (sym (inf-or-nan (beq s t) s) ∙ h)
add-finite (inf s) (fin t n d) h = never h
add-finite (fin s m e) nan h = never h
add-finite (fin s m e) (inf t) h = never h
add-finite (fin s m e) (fin t n d) h = (refl, refl)

neg-finite : (x : Float) → finite (Ieee.neg x) ≡ finite x
unfolding Ieee.neg finite
neg-finite nan = refl
neg-finite (inf s) = refl
neg-finite (fin s m e) = refl

sub-finite : (x y : Float) → finite (sub x y) ≡ true → Both x y
unfolding Ieee.sub
sub-finite x y h = let b = add-finite x (Ieee.neg y) h in (b.0, sym (neg-finite y) ∙ b.1)

-- of a finite number both parts are
pub parts : (z : Complex) → cfinite z ≡ true → Both z.re z.im
unfolding cfinite
parts z h = both (finite z.re) (finite z.im) h

of_parts : (z : Complex) → Both z.re z.im → cfinite z ≡ true
unfolding cfinite
of_parts z h = rw (h.0, h.1)

pub cadd-finite : (x y : Complex) → cfinite (cadd x y) ≡ true → (cfinite x ≡ true) × (cfinite y ≡ true)
unfolding cadd
cadd-finite x y h =
    let p = parts (cadd x y) h in
    let r = add-finite x.re y.re p.0 in
    let i = add-finite x.im y.im p.1 in
    (of_parts x (r.0, i.0), of_parts y (r.1, i.1))

pub cmul-finite : (x y : Complex) → cfinite (cmul x y) ≡ true → (cfinite x ≡ true) × (cfinite y ≡ true)
unfolding cmul
cmul-finite x y h =
    let p = parts (cmul x y) h in
    let r = sub-finite (mul x.re y.re) (mul x.im y.im) p.0 in
    let a = mul-finite x.re y.re r.0 in
    let b = mul-finite x.im y.im r.1 in
    (of_parts x (a.0, b.0), of_parts y (a.1, b.1))

pub conj-finite : (z : Complex) → cfinite (conj z) ≡ cfinite z
unfolding conj cfinite
conj-finite z = rw neg-finite
