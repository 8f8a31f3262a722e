-- A term goes to the lanes of a group: each lane whose sum has it takes it by its own weight. Assumes nothing.
use Rattle.std.specs.Prelude.{◌≡◌, ◌+◌, ◌-◌, ◌*◌, ◌≤◌, ◌<◌}
use Rattle.lists.specs.Prelude.{refl, sym, ap, ap₂, ◌∙◌, Bool, true, false, cond, List, ℕ, min, mul-le-mul_right, zero-mul, add-zero}
use Rattle.lists.specs.Prelude.{add-mul, mul_left_comm, dec_lt, arith, digits_lt, Float, inl, inr}
use Rattle.complex.specs.declared.Complex.{Complex}
use Rattle.complex.specs.Arithmetic.{czero, real, cadd, cmul}
use Rattle.complex.specs.Numbers.{entry_at}
use Rattle.complex.specs.Agreement.{sum_agree}
use Rattle.block.specs.Operations.{product, scaled}
use Rattle.two_time.specs.Layout.{place, read_as}
use Rattle.two_time.specs.declared.sums.Sums.{Sums}
use Rattle.two_time.specs.WeightedSum.{Terms, product_at, term_at}
use Rattle.terms.specs.declared.Term.{Term}
use Rattle.terms.specs.Kinds.{right_by, factor_of, lanes_below, lanes_above, lanes_here, Reaches}
use Rattle.terms.specs.Held.{product_is, held_below, weight-below, held-above, weight-above, held-here, weight-here}
use Rattle.terms.specs.TermAt.{TermAt, cond-between, cond-most, cond-least}
use Rattle.lanes.specs.Lanes.{lane_at}
use Rattle.rows.specs.Rows.{stepped, packed_product}
use Rattle.rows.specs.Ranges.{Ranged, stepped-common, stepped-ends, stepped-none}
use Rattle.groups.specs.PartialSums.{terms_of, held, added}

-- a lane of a place past the first k, and of one before
lane_past : (p k n b : ℕ) → k ≤ p → k * n ≤ p * n + b
lane_past p k n b h = let l = mul-le-mul_right n h in omega arith

module _ (sums : Sums) (times : List Float) (points n t s u places : ℕ) (term : Term) (at : TermAt sums times points n t s u places term) where
  -- where the lanes of place s end
  abbrev ended : ℕ
  ended = cond (lanes_here sums t s) (min (s + 1 - u) places) (min (s - u) places)

  ended-between : (min (s - u) places ≤ ended) × (ended ≤ min (s + 1 - u) places)
  ended-between = cond-between (lanes_here sums t s) (min (s - u) places) (min (s + 1 - u) places) (omega arith)

  pub ranged : places * n ≤ 16 → Ranged term
  ranged few =
      let i = min (s - u) places in
      let j = min (s + 1 - u) places in
      let e = ended-between in
      let a = cond-least (lanes_above sums) j places (omega arith) in
      record {
        low = omega (arith, at.below, at.before, mul-le-mul_right n (cond-most (lanes_below sums) i));
        middle = omega (arith, at.before, at.after, mul-le-mul_right n e.0);
        high = omega (arith, at.after, at.above, mul-le-mul_right n e.1, mul-le-mul_right n a.0);
        top = omega (arith, at.above, at.lanes, mul-le-mul_right n a.1);
        few = omega (arith, at.lanes);
      }

  module _ (hs : s < points) (reach : Reaches sums t s) (stride : ℕ) (left right : List Float) (p a b : ℕ) (hp : p < places) (hb : b < n) (z product : Complex) where
    abbrev terms : Terms
    terms = terms_of sums points stride n times left right t (u + p) czero

    module _ (made : product ≡ product_at n terms s a b) where
      abbrev Goal : Type 0
      Goal = stepped term (p * n + b) product z ≡ added n terms s a b z

      -- what is added is the term
      adds : (w : Float) → terms.weight s ≡ w → cadd z (cmul product (real w)) ≡ cadd z (term_at n terms s a b)
      unfolding term_at scaled
      adds w e = ap (cadd z) (ap₂ cmul made (ap real (sym e)))

      added_in : held terms s ≡ true → added n terms s a b z ≡ cadd z (term_at n terms s a b)
      unfolding added
      added_in e = rw e

      added_out : held terms s ≡ false → added n terms s a b z ≡ z
      unfolding added
      added_out e = rw e

      place-before : u + p < s → Goal
      unfolding held
      place-before h = by_flag (lanes_below sums) refl
        where
          lane : p * n + b < min (s - u) places * n
          lane = digits_lt (let l : p < min (s - u) places = omega arith in l) hb

          by_flag : (f : Bool) → lanes_below sums ≡ f → Goal
          by_flag true e =
              let all : term.below ≡ min (s - u) places * n = at.below ∙ ap (λ (g : Bool). cond g (min (s - u) places) 0 * n) e in
              stepped-common term (p * n + b) product z (inl (omega (arith, lane)))
              ∙ ap (λ (w : Float). cadd z (cmul product (real w))) at.common
              ∙ adds _ (weight-below points t (u + p) s times (read_as stride n left) (read_as stride n right) hs sums reach h e)
              ∙ sym (added_in (held_below points t (u + p) s times (read_as stride n left) (read_as stride n right) hs sums reach h ∙ e))
          by_flag false e =
              let none : term.below ≡ 0 = at.below ∙ ap (λ (g : Bool). cond g (min (s - u) places) 0 * n) e ∙ zero-mul n in
              let l = lane in
              let after = mul-le-mul_right n (let m : min (s - u) places ≤ min (s + 1 - u) places = omega arith in m) in
              let above = mul-le-mul_right n (cond-least (lanes_above sums) (min (s + 1 - u) places) places (omega arith)).0 in
              stepped-none term (p * n + b) product z (omega arith) (omega (arith, at.above)) (inl (omega (arith, at.before)))
              ∙ sym (added_out (held_below points t (u + p) s times (read_as stride n left) (read_as stride n right) hs sums reach h ∙ e))

      place_here : u + p ≡ s → Goal
      unfolding held
      place_here h = by_flag (lanes_here sums t s) refl
        where
          lane : p * n + b < min (s + 1 - u) places * n
          lane = digits_lt (let l : p < min (s + 1 - u) places = omega arith in l) hb

          past : min (s - u) places * n ≤ p * n + b
          past = lane_past p (min (s - u) places) n b (omega arith)

          low : term.below ≤ p * n + b
          low = omega (arith, at.below, past, mul-le-mul_right n (cond-most (lanes_below sums) (min (s - u) places)))

          high : p * n + b < term.above
          high = omega (arith, at.above, lane, mul-le-mul_right n (cond-least (lanes_above sums) (min (s + 1 - u) places) places (omega arith)).0)

          by_flag : (f : Bool) → lanes_here sums t s ≡ f → Goal
          by_flag true e =
              let all : ended ≡ min (s + 1 - u) places = ap (λ (g : Bool). cond g (min (s + 1 - u) places) (min (s - u) places)) e in
              let after : term.after ≡ min (s + 1 - u) places * n = at.after ∙ ap (λ (k : ℕ). k * n) all in
              stepped-ends term (p * n + b) product z low high (omega (arith, at.before, past)) (omega (arith, lane))
              ∙ ap (λ (w : Float). cadd z (cmul product (real w))) (at.ends (let l : min (s - u) places < ended = omega arith in l))
              ∙ adds _ (weight-here points t (u + p) s times (read_as stride n left) (read_as stride n right) hs sums h)
              ∙ sym (added_in (held-here points t (u + p) s times (read_as stride n left) (read_as stride n right) hs sums reach h ∙ e))
          by_flag false e =
              let none : term.after ≡ min (s - u) places * n = at.after ∙ ap (λ (g : Bool). cond g (min (s + 1 - u) places) (min (s - u) places) * n) e in
              stepped-none term (p * n + b) product z low high (inr (omega (arith, past)))
              ∙ sym (added_out (held-here points t (u + p) s times (read_as stride n left) (read_as stride n right) hs sums reach h ∙ e))

      place_after : s < u + p → Goal
      unfolding held
      place_after h = by_flag (lanes_above sums) refl
        where
          past : min (s + 1 - u) places * n ≤ p * n + b
          past = lane_past p (min (s + 1 - u) places) n b (omega arith)

          by_flag : (f : Bool) → lanes_above sums ≡ f → Goal
          by_flag true e =
              let all : term.above ≡ min (s + 1 - u) places * n = at.above ∙ ap (λ (g : Bool). cond g (min (s + 1 - u) places) places * n) e in
              stepped-common term (p * n + b) product z (inr (omega (arith, past)))
              ∙ ap (λ (w : Float). cadd z (cmul product (real w))) at.common
              ∙ adds _ (weight-above points t (u + p) s times (read_as stride n left) (read_as stride n right) hs sums reach h e)
              ∙ sym (added_in (held-above points t (u + p) s times (read_as stride n left) (read_as stride n right) hs sums reach h ∙ e))
          by_flag false e =
              let all : term.above ≡ places * n = at.above ∙ ap (λ (g : Bool). cond g (min (s + 1 - u) places) places * n) e in
              let lane : p * n + b < places * n = digits_lt hp hb in
              let low = mul-le-mul_right n (cond-most (lanes_below sums) (min (s - u) places)) in
              let middle = mul-le-mul_right n (let m : min (s - u) places ≤ min (s + 1 - u) places = omega arith in m) in
              let high = mul-le-mul_right n ended-between.1 in
              stepped-none term (p * n + b) product z (omega (arith, past, at.below)) (omega arith) (inr (omega (arith, past, at.after)))
              ∙ sym (added_out (held-above points t (u + p) s times (read_as stride n left) (read_as stride n right) hs sums reach h ∙ e))

      -- whichever lane it is
      pub lane_step : Goal
      lane_step =
          elim (dec_lt (u + p) s) [
            | yes l ↦ place-before l
            | no l ↦ elim (dec_lt s (u + p)) [
              | yes k ↦ place_after k
              | no k ↦ place_here (omega arith)
            ]
          ]

-- the packed product of a lane is that of its place
module _ (sums : Sums) (points stride n : ℕ) (times left right : List Float) (t s u i : ℕ) (rows : List Float) (a p b : ℕ) (ha : a < n) (hb : b < n)
    (at : i ≡ place stride n t s 0 0)
    (packed : (k : ℕ) → k < n → lane_at rows k (p * n + b) ≡ right_by (factor_of sums) (read_as stride n right) s (u + p) k b) where
  left-place : (k : ℕ) → i + a * (2 * n) + 2 * k ≡ place stride n t s a k
  left-place k =
      let x = (t * stride + s) * n in
      omega (arith, at, ap (λ (m : ℕ). m * n) (add-zero x), add-mul x a n, mul_left_comm a 2 n)

  pub lane_product : packed_product n left i rows a (p * n + b) ≡ product_at n (terms_of sums points stride n times left right t (u + p) czero) s a b
  unfolding product_at product
  lane_product =
      sum_agree czero czero _ _ 0 n refl (λ k h. ap₂ cmul (ap (entry_at left) (left-place (0 + k))) (packed (0 + k) (omega arith)))
      ∙ sym (product_is points t (u + p) s times (read_as stride n left) (read_as stride n right) sums n a b)
