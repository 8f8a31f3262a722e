-- Each way out is a law of `SumOfSquares`.
use Rattle.std.specs.Prelude.{◌≡◌, ◌+◌, ◌-◌, ◌*◌, ◌^◌, ◌<◌, ◌≤◌}
use Rattle.lists.specs.Prelude.{sym, ap, ap₂, ◌∙◌, ℕ, Bool, false, le_of_lt, le_trans, leb, arith, leb-true, leb-false, binary64, of_bits, ℤ, pos}
use Rattle.std.specs.Int.Signed.{mag}
use Rattle.norm.specs.Norm.{rounded_root}
use Rattle.norm.specs.Parts.{shift_of, significand_of, units_of}
use Rattle.norm.specs.Checked.{squares, Settles}
use Rattle.norm.specs.Sizes.{placed, shift_mono, shift_le}
use Rattle.norm.proofs.Sixteen.{held, held-is, up_to}
use Rattle.norm.proofs.SumOfSquares.{zero-part, far_part, aligned, unit-or-full, ranked}
use Rattle.norm.proofs.parts.norm_bits.Goals as goal

same-squares : {p q g p' q' g' : ℕ} → p ≡ p' → q ≡ q' → g ≡ g' → (u : ℕ) → squares p q g * 4 ^ u ≡ squares p' q' g' * 4 ^ u
same-squares e f h u = rw (e, f, h)

module _ (a b : ℕ) (l : b ≤ a) (most : a < 2047 * 2 ^ 52) where
  abbrev apart : ℕ
  apart = shift_of a - shift_of b

  apart-and : apart + shift_of b ≡ shift_of a
  apart-and = omega (arith, shift_mono a b l)

  low-most : shift_of b ≤ 2045
  low-most = le_trans (shift_mono a b l) (shift_le a most)

  high-holds : (k : ℤ) → k ≡ pos (shift_of a) → held k ≡ pos (shift_of a)
  high-holds k e = held-is k e (omega (arith, shift_le a most))

  low-holds : (k : ℤ) → k ≡ pos (shift_of b) → held k ≡ pos (shift_of b)
  low-holds k e = held-is k e (omega (arith, low-most))

  module _ (gap : ℤ) (e : gap ≡ pos apart) where
    gap-holds : held gap ≡ pos apart
    gap-holds = held-is gap e (omega (arith, shift_le a most))

    asked : (r : Bool) → r ≡ leb 27 (mag (held gap)) → r ≡ leb 27 apart
    asked r h = h ∙ ap (λ (z : ℤ). leb 27 (mag z)) gap-holds

    near : {r : Bool} → r ≡ leb 27 (mag (held gap)) → r ≡ false → apart < 27
    near h f = leb-false 27 apart (sym (asked _ h) ∙ f)

    -- bits that settle the significands are the norm's
    settled : (qa qb high r : ℕ) → qa ≡ significand_of a → qb ≡ significand_of b → high ≡ shift_of a → Settles qa qb (mag (held gap)) high r
        → (r ≤ 2047 * 2 ^ 52) × (of_bits binary64 r ≡ rounded_root (units_of a ^ 2 + units_of b ^ 2))
    settled qa qb high r p q h w =
        let is = ap mag gap-holds in (
          w.most,
          w.value (units_of a ^ 2 + units_of b ^ 2) (shift_of b) (ap (λ (k : ℕ). k + shift_of b) is ∙ apart-and ∙ sym h)
              (same-squares p q is (shift_of b) ∙ aligned a b apart apart-and),
        )

pub returns-then-b-eq0 : goal.returns-then-b-eq0
returns-then-b-eq0 c = (le_of_lt c.requires.1, zero-part c.args.a c.args.b c.requires.1 c.if-b-eq0.true)

pub returns-then-reaches : goal.returns-then-reaches
returns-then-reaches c =
    let a = c.args.a in
    let b = c.args.b in
    let g = c.gap-apart in
    let far = leb-true 27 (apart a b c.requires.0 c.requires.1) (sym (asked a b c.requires.0 c.requires.1 g.result g.ensures _ c.reaches.ensures) ∙ c.if-reaches.true) in
    (le_of_lt c.requires.1, far_part a b c.requires.1 (omega (arith, apart-and a b c.requires.0 c.requires.1, far)))

pub guessed-requires : goal.guessed-requires
guessed-requires c =
    let a = c.args.a in
    let b = c.args.b in
    let l = c.requires.0 in
    let most = c.requires.1 in
    let g = c.gap-apart in
    let high = high-holds a b l most c.shift.result c.shift.ensures in
    rw (c.significand-qa.ensures, c.significand-qb.ensures) (
      (placed a).digits.small,
      (placed b).digits.small,
      up_to _ (gap-holds a b l most g.result g.ensures) (omega (arith, near a b l most g.result g.ensures c.reaches.ensures c.if-reaches.false)),
      up_to _ high (shift_le a most),
      rw high (ranked a b (omega (arith, c.if-b-eq0.false)) l),
    )

pub returns-in-Some : goal.returns-in-Some
returns-in-Some c =
    let a = c.args.a in
    let b = c.args.b in
    let l = c.requires.0 in
    let most = c.requires.1 in
    let g = c.gap-apart in
    settled a b l most g.result g.ensures c.significand-qa.result c.significand-qb.result _ c.in-Some.quick c.significand-qa.ensures c.significand-qb.ensures
    (ap mag (high-holds a b l most c.shift.result c.shift.ensures)) c.in-Some.ensures

pub by_digits-requires : goal.by_digits-requires
by_digits-requires c =
    let a = c.args.a in
    let b = c.args.b in
    let l = c.requires.0 in
    let most = c.requires.1 in
    let g = c.gap-apart in
    let low = low-holds a b l most c.shift-2.result c.shift-2.ensures in
    rw (c.significand-qa.ensures, c.significand-qb.ensures) (
      (placed a).digits.small,
      (placed b).digits.small,
      up_to _ (gap-holds a b l most g.result g.ensures) (omega (arith, near a b l most g.result g.ensures c.reaches.ensures c.if-reaches.false)),
      up_to _ low (low-most a b l most),
      rw low (unit-or-full a b l),
    )

pub returns : goal.returns
returns c =
    let a = c.args.a in
    let b = c.args.b in
    let l = c.requires.0 in
    let most = c.requires.1 in
    let g = c.gap-apart in
    settled a b l most g.result g.ensures c.significand-qa.result c.significand-qb.result _ c.by_digits.result c.significand-qa.ensures c.significand-qb.ensures
    (ap₂ (λ (x y : ℕ). x + y) (ap mag (gap-holds a b l most g.result g.ensures)) (ap mag (low-holds a b l most c.shift-2.result c.shift-2.ensures)) ∙ apart-and a b l most) c.by_digits.ensures
