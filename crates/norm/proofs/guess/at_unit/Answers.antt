-- What has passed the check is the norm's: the parts are raised until the larger has its leading digit, and q units are their own bits.
use Rattle.std.specs.Prelude.{Option, Some, None, IfSome, ◌≡◌, ◌+◌, ◌-◌, ◌*◌, ◌%◌, ◌^◌, ◌≤◌, ◌<◌}
use Rattle.lists.specs.Prelude.{refl, sym, ap, subst, ◌∙◌, inl, ℕ, ℤ, le_refl, le_of_lt, lt_of_lt_of_le, lt_of_le_of_lt, mod-eq_of_lt, mul-le-mul_right, arith, lit<, lit≤, pos}
use Rattle.std.specs.Int.Signed.{mag}
use Rattle.norm.specs.Parts.{Encodes, UpTo}
use Rattle.norm.specs.Encoding.{bits-of-step}
use Rattle.norm.specs.Checked.{Between, Covers, Settles, whole_squares}
use Rattle.norm.proofs.Sixteen.{held, held-is, kept, same}
use Rattle.norm.proofs.Middles.{settles_at-unit}
use Rattle.norm.proofs.guess.at_unit.Goals as goal

own_bits : (q : ℕ) → q < 2 ^ 53 → Encodes q q 0
own_bits q h = subst (λ (b : ℕ). Encodes b q 0) (let e : 0 * 2 ^ 52 + q ≡ q = omega arith in e) (bits-of-step (record { most = le_of_lt h; full = inl refl }) (lit< tt))

-- what a number has, if there is one, it has by a law
each : {P Q : ℕ → Type 0} → ((q : ℕ) → P q → Q q) → (o : Option ℕ) → IfSome o P → IfSome o Q
each f None h = tt
each f (Some q) h = f q h

-- the larger part a is raised by `up` places, and its sum with b cut by `more`: the digits below the unit and those cut are as many
module _ (a b by : ℕ) (up more below : ℤ) (l : b ≤ a) (places : by ≡ mag (held up)) (u : UpTo 52 up) (z : 1 ≤ mag up) (most : a * 2 ^ mag up < 2 ^ 53) (one : UpTo 1 more)
    (digits : below ≡ pos (mag (held up) - mag (held more))) where
  by-is : by ≡ mag up
  by-is = places ∙ ap mag (kept up u (omega arith))

  raised : (x : ℕ) → x ≤ a → x * 2 ^ by % 2 ^ 64 ≡ x * 2 ^ by
  raised x h =
      let most' : a * 2 ^ by < 2 ^ 53 = subst (λ (k : ℕ). a * 2 ^ k < 2 ^ 53) (sym by-is) most in
      mod-eq_of_lt (lt_of_lt_of_le (lt_of_le_of_lt (mul-le-mul_right (2 ^ by) h) most') (lit≤ tt))

  below-is : mag (held below) + mag more ≡ by
  below-is =
      let up_is = same up u (omega arith) in
      let more_is = same more one (omega arith) in
      omega (arith, ap mag (held-is below digits (omega (arith, up_is, u.1))), more_is, up_is, by-is, z, one.1)

  settled : (t q : ℕ) → Covers t (whole_squares (a * 2 ^ by % 2 ^ 64) (b * 2 ^ by % 2 ^ 64) 0) (mag more)
      → (0 < q) × (q < 2 ^ 53) × ((sum k : ℕ) → Covers t sum k → Between sum q (2 ^ (mag (held below) + k))) → Settles a b 0 0 q
  settled t q c h =
      let sum = whole_squares (a * 2 ^ by) (b * 2 ^ by) 0 in
      let covers : Covers t sum (mag more) = rw (raised a (le_refl a), raised b l) at c in
      settles_at-unit a b by q q (subst (λ (k : ℕ). Between sum q (2 ^ k)) below-is (h.2 sum (mag more) covers)) h.0 h.1 (own_bits q h.1)

pub returns : goal.returns
returns c =
    let s = c.in_ok-t.field-0 in
    let m = c.missing-up in
    each (λ q h. settled c.args.a c.args.b c.places-by.result m.result s.more c.below_unit.result c.requires.2 c.places-by.ensures m.ensures.0 m.ensures.1 m.ensures.2 c.in_ok-t.ensures.0 c.below_unit.ensures s.t q c.in_ok-t.ensures.1 h)
    c.settled_at_unit.result c.settled_at_unit.ensures
