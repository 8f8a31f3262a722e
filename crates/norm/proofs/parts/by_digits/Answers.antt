-- The sum of the squares has at most 162 digits, and its root 81.
use Rattle.std.specs.Prelude.{◌≡◌, ◌⊎◌, ◌+◌, ◌*◌, ◌^◌, ◌≤◌, ◌<◌}
use Rattle.lists.specs.Prelude.{sym, ap, ap₂, subst, ◌∙◌, ℕ, ℤ, pow_mono, pow-add, arith, pos}
use Rattle.std.specs.Int.Signed.{mag}
use Rattle.norm.specs.Parts.{UpTo}
use Rattle.norm.specs.Checked.{squares}
use Rattle.norm.specs.Squares.{even_power}
use Rattle.norm.proofs.Sixteen.{held, held-is, same, passed}
use Rattle.norm.proofs.SumOfSquares.{sum-small, root-fits, unit-or-long}
use Rattle.norm.proofs.parts.by_digits.Goals as goal

-- the larger square is raised by p
module _ (qa qb : ℕ) (gap shift : ℤ) (p : ℕ) (u : UpTo 26 gap) (raise : shift ≡ pos (2 * mag (held gap) + 2)) (power : p ≡ 2 ^ mag (held shift)) where
  abbrev g : ℕ
  g = mag gap

  power-is : p ≡ 2 ^ (2 * g + 2)
  power-is = power ∙ ap (λ (k : ℤ). 2 ^ mag k) (held-is shift (raise ∙ ap (λ (k : ℕ). pos (2 * k + 2)) (same gap u (omega arith))) (omega (arith, u.1)))

  power-most : p ≤ 2 ^ 54
  power-most = let few : 2 * g + 2 ≤ 54 = omega (arith, u.1) in rw power-is (pow_mono few)

  sum-is : qa * qa * p + 2 * qb * (2 * qb) ≡ squares qa qb g
  sum-is = rw (power-is, pow-add 2 (2 * g) 2, even_power g) (omega arith)

near : (gap : ℤ) → UpTo 26 gap → mag gap < 27
near gap u = omega (arith, u.1)

pub sum_of_squares-n-requires : goal.sum_of_squares-n-requires
sum_of_squares-n-requires c =
    let a = c.args in
    (c.requires.0, power-most a.qa a.qb a.gap c.square_shift.result c.power.result c.requires.2 c.square_shift.ensures c.power.ensures, omega (arith, c.requires.1))

pub root_of-requires : goal.root_of-requires
root_of-requires c =
    let a = c.args in
    rw (c.sum_of_squares-n.ensures, sum-is a.qa a.qb a.gap c.square_shift.result c.power.result c.requires.2 c.square_shift.ensures c.power.ensures)
    (sum-small a.qa a.qb (mag a.gap) c.requires.0 c.requires.1 (near a.gap c.requires.2))

pub rounded-requires : goal.rounded-requires
rounded-requires c =
    let a = c.args in
    let r = c.root_of.result in
    let v = c.root_of.ensures.value ∙ c.sum_of_squares-n.ensures ∙ sum-is a.qa a.qb a.gap c.square_shift.result c.power.result c.requires.2 c.square_shift.ensures c.power.ensures in
    let l = c.root_of.ensures.little in (
      l,
      root-fits a.qa a.qb (mag a.gap) c.requires.0 c.requires.1 (near a.gap c.requires.2) r.root r.rest v,
      passed a.unit c.requires.3 (omega arith) (omega arith),
      subst (λ (k : ℕ). (k ≡ 0) ⊎ (2 ^ 53 ≤ r.root)) (sym (same a.unit c.requires.3 (omega arith)))
          (unit-or-long a.qa a.qb (mag a.gap) c.requires.0 c.requires.1 (near a.gap c.requires.2) r.root r.rest v (mag a.unit) l c.requires.4),
    )

-- one shift is left for the smaller significand
left : (g u v : ℕ) → g + u ≡ g + v → u ≡ v
left g u v e = omega arith

pub returns : goal.returns
returns c =
    let a = c.args in
    let v = c.root_of.ensures.value ∙ c.sum_of_squares-n.ensures ∙ sum-is a.qa a.qb a.gap c.square_shift.result c.power.result c.requires.2 c.square_shift.ensures c.power.ensures in
    record {
      most = c.rounded.ensures.0;
      value = λ n u e w. c.rounded.ensures.1 n (ap₂ (λ (x y : ℕ). x * 4 ^ y) v (same a.unit c.requires.3 (omega arith) ∙ sym (left (mag a.gap) u (mag a.unit) e)) ∙ w);
    }
