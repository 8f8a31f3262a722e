-- What is kept of the root is small, and the bits are the rounded root's, by `Rounding`.
use Rattle.std.specs.Prelude.{◌≡◌, ◌⊎◌, ◌+◌, ◌-◌, ◌*◌, ◌/◌, ◌%◌, ◌^◌, ◌≤◌}
use Rattle.lists.specs.Prelude.{sym, ap, ap₂, subst, ◌∙◌, false, ℕ, ℤ, suc, lt_of_le_of_lt, mod-eq_of_lt, pow-suc, pow_mono, one-mul, lit<, arith, binary64, units, pos}
use Rattle.std.specs.Int.Signed.{mag}
use Rattle.norm.specs.Parts.{Rounded, UpTo}
use Rattle.norm.specs.Words.{Dropped, RoundsBy}
use Rattle.norm.proofs.Sixteen.{held, held-is, kept, passed, up_to}
use Rattle.norm.proofs.Rounding.{Known, rounded, result}
use Rattle.norm.proofs.nearest.rounded.Goals as goal

-- k digits of the root x are dropped, which leaves t; by their number r, of which j stand from the unit on, and what rounding adds, m
module _ (x t : ℕ) (shift k below : ℤ) (j r m : ℕ) (little : t ≤ 2 * x) (dropped : UpTo 28 k × Dropped x (mag k)) (from-unit : below ≡ pos (mag (held k) - 1)) (on : j ≡ mag (held below)) (all : r ≡ mag (held k))
    (u : UpTo 2045 shift) (unit : (mag shift ≡ 0) ⊎ (2 ^ 53 ≤ x)) (up : RoundsBy (x / 2 ^ r) (x % (2 * (1 * 2 ^ j % 2 ^ 128))) (1 * 2 ^ j % 2 ^ 128) t m) where
  digits : Dropped x r
  digits = subst (Dropped x) (sym (all ∙ ap mag (kept k dropped.0 (omega arith)))) dropped.1

  below-holds : held below ≡ pos (r - 1)
  below-holds = held-is below (from-unit ∙ ap (λ (n : ℕ). pos (n - 1)) (sym all)) (omega (arith, digits.few))

  on-is : j ≡ r - 1
  on-is = on ∙ ap mag below-holds

  step : suc j ≡ r
  step = omega (arith, on-is, digits.some)

  half : 1 * 2 ^ j % 2 ^ 128 ≡ 2 ^ j
  half =
      let few : j ≤ 27 = omega (arith, on-is, digits.few) in
      rw (one-mul (2 ^ j)) (mod-eq_of_lt (lt_of_le_of_lt (pow_mono few) (lit< tt)))

  whole : 2 * 2 ^ j ≡ 2 ^ r
  whole = rw (← step, pow-suc 2 j) (omega arith)

  known : Known x t (mag shift) r j m
  known = record { little = little; dropped = digits; from-unit = omega (arith, on-is, digits.some); unit = unit; up = rw (half, whole) at up }

  step_is : mag (held below) + mag (held shift) ≡ j + mag shift
  step_is = ap₂ (λ (a b : ℕ). a + b) (sym on) (ap mag (kept shift u (omega arith)))

  encodes : Rounded (x / 2 ^ r + m) (mag (held below) + mag (held shift)) × UpTo 27 (held below) × UpTo 2045 (held shift)
  encodes = (subst (Rounded _) (sym step_is) (rounded known), up_to _ below-holds (omega (arith, digits.few)), passed shift u (omega arith) (omega arith))

pub encoded-requires : goal.encoded-requires
encoded-requires c =
    encodes c.args.s.root c.args.s.rest c.args.shift c.dropped-k.result c.from_unit-below.result c.places.result c.places-2.result c.rounding_up-more.result
    c.requires.0 c.dropped-k.ensures c.from_unit-below.ensures c.places.ensures c.places-2.ensures c.requires.2 c.requires.3 c.rounding_up-more.ensures

pub returns : goal.returns
returns c =
    let s = c.args.s in (
      c.encoded.ensures.0,
      λ n v.
          c.encoded.ensures.1
          ∙ ap (units binary64 false _) (step_is s.root s.rest c.args.shift c.dropped-k.result c.from_unit-below.result c.places.result c.places-2.result c.rounding_up-more.result
          c.requires.0 c.dropped-k.ensures c.from_unit-below.ensures c.places.ensures c.places-2.ensures c.requires.2 c.requires.3 c.rounding_up-more.ensures)
          ∙ sym (result (known s.root s.rest c.args.shift c.dropped-k.result c.from_unit-below.result c.places.result c.places-2.result c.rounding_up-more.result
          c.requires.0 c.dropped-k.ensures c.from_unit-below.ensures c.places.ensures c.places-2.ensures c.requires.2 c.requires.3 c.rounding_up-more.ensures) n v),
    )
