-- `complex::abs` meets its contract, by cases on the number and its sign: below zero the sign is cleared, a zero gives +0, and any other
-- number is its own size. That a zero is written in one way is what its format says. Assumes nothing.
use Rattle.std.specs.Prelude.{◌≡◌, ◌+◌, ◌*◌, ◌^◌, ◌≤◌, ◌<◌}
use Rattle.lists.specs.Prelude.{refl, sym, ◌∙◌, true, false, ℕ, zero, suc, zero-mul, one-mul, mul-one, mul-pos, zero-lt-suc, arith, ℤ, pos}
use Rattle.lists.specs.Prelude.{negsuc, pow-lt, Float, nan, inf, fin, lt, eq, neg, of_bits, binary64, fits, up, down, level, ltb-true, ltb-false, eqb-true}
use lib.Ieee.Fits.{up_pos}
use Rattle.lists.specs.Agreement.{never, both}
use Rattle.complex.specs.Arithmetic.{size, plus_zero}
use Rattle.complex.proofs.abs.Statement.{statement}
use Rattle.complex.proofs.abs.Tie as tie

below : (x : Float) → lt x plus_zero ≡ true → neg x ≡ size x
unfolding lt neg size of_bits
below nan h = never h
below (inf true) h = refl
below (inf false) h = never h
below (fin true m e) h = refl
below (fin false m e) h =
    let l : m * up e * 1 < 0 * down e = ltb-true _ _ h in
    absurd (omega (arith, zero-mul (down e)))

-- a zero's exponent is 0
plain : (e : ℤ) → up e * down e ≡ 1 → e ≡ pos 0
plain (pos zero) h = refl
plain (pos (suc k)) h = absurd (let l : 1 < 2 ^ suc k = pow-lt {i = 0} (zero-lt-suc k) in omega (arith, mul-one (2 ^ suc k)))
plain (negsuc k) h = absurd (let l : 1 < 2 ^ suc k = pow-lt {i = 0} (zero-lt-suc k) in omega (arith, one-mul (2 ^ suc k)))

none : (x : Float) → fits binary64 x ≡ true → eq x plus_zero ≡ true → plus_zero ≡ size x
unfolding eq size of_bits fits
none nan f h = never h
none (inf s) f h = never h
none (fin s zero e) f h = rw (plain e (eqb-true _ _ f))
none (fin s (suc m) e) f h =
    let l : suc m * up e * 1 ≡ 0 * down e = eqb-true _ _ (both _ _ h).0 in
    absurd (omega (arith, zero-mul (down e), mul-pos (zero-lt-suc m) (up_pos e)))

level_zero : (a b : ℕ) → a ≡ 0 → b ≡ 0 → level true a false b ≡ true
level_zero a b h k = rw (h, k)

above : (x : Float) → lt x plus_zero ≡ false → eq x plus_zero ≡ false → x ≡ size x
unfolding lt eq size of_bits
above nan h k = refl
above (inf true) h k = never (sym h)
above (inf false) h k = refl
above (fin false m e) h k = refl
above (fin true m e) h k =
    let l : m * up e * 1 + 0 * down e ≤ 0 = ltb-false _ _ h in
    let a : m * up e * 1 ≡ 0 = omega arith in
    let b : 0 * down e ≡ 0 = omega arith in
    never (sym (sym (level_zero (m * up e * 1) (0 * down e) a b) ∙ k))

pub abs_spec : {M : Type 1} → statement M
abs_spec =
    tie.close
    (tie.spec
    (λ c. below _ c.if-x.true)  -- returns-then-x
    (λ c. none _ c.before.before.well_formed.0.1 c.if-x-2.true)  -- returns-then-x-2
    (λ c. above _ c.before.if-x.false c.if-x-2.false))  -- returns-3
