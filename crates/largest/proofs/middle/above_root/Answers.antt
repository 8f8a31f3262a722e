-- What the tests found shows where the middle is.
use Rattle.std.specs.Prelude.{◌≡◌, ◌+◌, ◌-◌, ◌*◌, ◌/◌, ◌%◌, ◌^◌, ◌≤◌, ◌<◌}
use Rattle.lists.specs.Prelude.{subst, ℕ, arith, leb-true}
use Rattle.largest.proofs.Middles.{root_below}
use Rattle.largest.proofs.middle.above_root.Goals as goal

-- how far the field e is below f, which wraps where it is above
abbrev down : ℕ → ℕ → ℕ
down f e = (f + (2 ^ 64 - e)) % 2 ^ 64

no_wrap : (f a : ℕ) → f ≤ 2046 → a < 2 ^ 64 → down f (a / 2 ^ 52) ≤ 63 → down f (a / 2 ^ 52) + a / 2 ^ 52 ≡ f
no_wrap f a h l k = omega arith

pub returns : goal.returns
returns c t =
    let f = c.args.l / 2 ^ 52 in
    root_below (record {
      down_a = down f (c.args.a / 2 ^ 52);
      down_b = down f (c.args.b / 2 ^ 52);
      looks = record { normal = omega (arith, c.if-field-eq0.false); finite = c.if-field-gt2046.false; near_a = c.if-down_a-gt63.false; near_b = c.if-down_b-gt63.false };
      first = no_wrap f c.args.a c.if-field-gt2046.false c.ranges.a.fits c.if-down_a-gt63.false;
      second = no_wrap f c.args.b c.if-field-gt2046.false c.ranges.b.fits c.if-down_b-gt63.false;
      square_a = c.part_square.ensures.1;
      square_b = c.part_square-2.ensures.1;
      middle-square = subst (λ (x : ℕ). c.high_square.result * 2 ^ 64 ≤ (x + 512) * (x + 512)) c.digits.ensures c.high_square.ensures.1;
      below = leb-true (c.part_square.result + c.part_square-2.result + 6) c.high_square.result t;
    })
