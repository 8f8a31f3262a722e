-- What is returned has passed the check.
use Rattle.std.specs.Prelude.{◌≡◌, ◌+◌, ◌*◌, ◌/◌, ◌^◌, ◌≤◌, ◌<◌}
use Rattle.std.proofs.Common.{ℤ}
use Rattle.lists.specs.Prelude.{sym, ap, ◌∙◌, ℕ, le_trans, le-add_right, arith}
use Rattle.std.specs.Int.Signed.{mag}
use Rattle.norm.specs.Parts.{UpTo}
use Rattle.norm.proofs.Sixteen.{held, kept}
use Rattle.norm.proofs.Middles.{some-whole, middle-fits, middle-small, two-units, short-at-unit, passes-at-unit}
use Rattle.norm.proofs.guess.settled_at_unit.Goals as goal

-- the digits below the unit by their number n, and the unit w
module _ (d : ℤ) (n w : ℕ) (u : UpTo 52 d) (places : n ≡ mag (held d)) (power : w ≡ 2 ^ mag (held d)) where
  digits_are : n ≡ mag d
  digits_are = places ∙ ap mag (kept d u (omega arith))

  few : n ≤ 52
  few = omega (arith, digits_are, u.1)

  unit-is : w ≡ 2 ^ n
  unit-is = power ∙ ap (λ (k : ℕ). 2 ^ k) (sym places)

  module _ (m i : ℕ) (l : 2 ^ 52 ≤ m) (h : m < 2 ^ 53) (k : i ≤ 1) where
    some : 1 ≤ m / 2 ^ n + i
    some = le_trans (some-whole m n w unit-is l h few) (le-add_right (m / 2 ^ n) i)

    picked_fits : (2 * (m / 2 ^ n + i) + 1) * w < 2 ^ 56
    picked_fits = middle-fits m n w unit-is l h few i k

pub high_square-requires : goal.high_square-requires
high_square-requires c =
    let d = c.args.d in
    let n = c.places.result in
    let w = c.power-unit.result in
    middle-small c.args.m n w (unit-is d n w c.requires.2 c.places.ensures c.power-unit.ensures) c.requires.0 c.requires.1 (few d n w c.requires.2 c.places.ensures c.power-unit.ensures)

pub overflow_mul-high-2 : goal.overflow_mul-high-2
overflow_mul-high-2 c =
    omega (arith, picked_fits c.args.d c.places.result c.power-unit.result c.requires.2 c.places.ensures c.power-unit.ensures c.args.m c.one_if.result c.requires.0 c.requires.1 c.one_if.ensures)

pub overflow_sub-high : goal.overflow_sub-high
overflow_sub-high c =
    two-units (c.args.m / 2 ^ c.places.result + c.one_if.result) c.power-unit.result
    (some c.args.d c.places.result c.power-unit.result c.requires.2 c.places.ensures c.power-unit.ensures c.args.m c.one_if.result c.requires.0 c.requires.1 c.one_if.ensures)

pub returns : goal.returns
returns c =
    let d = c.args.d in
    let n = c.places.result in
    let w = c.power-unit.result in
    let q = c.args.m / 2 ^ n + c.one_if.result in
    let u = unit-is d n w c.requires.2 c.places.ensures c.power-unit.ensures in
    let s = some d n w c.requires.2 c.places.ensures c.power-unit.ensures c.args.m c.one_if.result c.requires.0 c.requires.1 c.one_if.ensures in (
      s,
      short-at-unit q n w u c.if-high-ge18014398509481984.false,
      rw (← (digits_are d n w c.requires.2 c.places.ensures c.power-unit.ensures))
          (passes-at-unit q n w c.args.t c.high_square-below.result c.high_square-above.result s u
          c.high_square-below.ensures c.high_square-above.ensures c.if-t-below.false c.if-above-t.false (omega (arith, c.if-above-t-lt2.false))),
    )
