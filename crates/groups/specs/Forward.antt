-- Row t of G from K and the rows of G before it, as they stand in a list; what a loop over groups has written of it. Assumes nothing.
use Rattle.std.specs.Prelude.{◌≡◌, ◌||◌, ◌+◌, ◌-◌, ◌*◌, ◌≤◌, ◌<◌}
use Rattle.lists.specs.Prelude.{sym, ap, ap₂, ◌∙◌, Bool, false, cond, not, List, ℕ, dec_lt, arith, ltb, eqb, Float, lt-ltb, le-ltb}
use Rattle.lists.specs.Prelude.{ne_eqb, eq-eqb}
use Rattle.lists.specs.Indexed.{all_below, all_in, join}
use Rattle.lists.specs.Agreement.{all_agree, join_agree}
use Rattle.complex.specs.declared.Complex.{Complex}
use Rattle.complex.specs.Arithmetic.{czero, cfinite}
use Rattle.complex.specs.Numbers.{pair}
use Rattle.block.specs.Block.{lay_out}
use Rattle.two_time.specs.Layout.{place, read_as, length_of}
use Rattle.two_time.specs.Sums.{dyson_terms}
use Rattle.two_time.specs.WeightedSum.{Terms, weighted_sum, finite_sum}
use Rattle.two_time.specs.OneTest.{one_test}
use Rattle.two_time.specs.Places.{product-most, sized}
use Rattle.two_time.specs.Parts.{whole_length, part-within}
use Rattle.lanes.specs.Lanes.{lane_at}

module _ (points n : ℕ) (times free kernel retarded : List Float) (t : ℕ) where
  -- the sum at u, and its entries
  abbrev pub forward_sum : ℕ → Terms
  forward_sum u = dyson_terms times (read_as points n free) (read_as points n kernel) (read_as points n retarded) t u

  -- "Above the diagonal +0"
  unfoldable pub forward_entry : ℕ → ℕ → ℕ → Complex
  forward_entry u a b = cond (ltb t u) czero (weighted_sum n (forward_sum u) a b)

  abbrev pub forward_block : ℕ → List Float
  forward_block u = lay_out n n (forward_entry u)

  -- all that is made for the block at u is finite
  unfoldable pub forward_finite : ℕ → Bool
  forward_finite u = all_in n n (finite_sum n (forward_sum u))

-- where row t begins, in numbers
abbrev pub row_at : ℕ → ℕ → ℕ → ℕ
row_at points n t = t * (points * (2 * (n * n)))

-- a group's lanes
module _ (points n : ℕ) (times free kernel retarded : List Float) (t u places : ℕ) (totals : List Float) (fit : u + places ≤ t + 1)
    (made : (a p b : ℕ) → a < n → p < places → b < n → lane_at totals a (p * n + b) ≡ weighted_sum n (forward_sum points n times free kernel retarded t (u + p)) a b) where
  -- a place on or below the diagonal has a sum
  asked_by : (p : ℕ) → p < places → not (ltb p (t - u)) ≡ eqb (t - (u + p)) 0
  asked_by p hp =
      elim (dec_lt p (t - u)) [
        | yes l ↦ rw (lt-ltb p (t - u) l, ne_eqb (t - (u + p)) 0 (λ e. omega arith))
        | no l ↦ rw (le-ltb p (t - u) (let h : t - u ≤ p = omega arith in h), eq-eqb (t - (u + p)) 0 (let h : t - (u + p) ≡ 0 = omega arith in h))
      ]

  below : (p : ℕ) → p < places → ltb t (u + p) ≡ false
  below p hp = le-ltb t (u + p) (omega arith)

  pub group_finite_lem : all_below places (λ p. all_in n n (λ a b. not (ltb p (t - u)) || cfinite (lane_at totals a (p * n + b)))) ≡ all_below places (λ p. forward_finite points n times free kernel retarded t (u + p))
  unfolding forward_finite
  group_finite_lem =
      all_agree places _ _ (λ p hp. all_agree n _ _ (λ a ha. all_agree n _ _ (λ b hb.
      ap₂ (λ (f : Bool) (z : Complex). f || cfinite z) (asked_by p hp) (made a p b ha hp hb)
      ∙ sym (one_test n (forward_sum points n times free kernel retarded t (u + p)) a b))))

  pub group_laid : join places (λ p. lay_out n n (λ a b. lane_at totals a (p * n + b))) ≡ join places (λ p. forward_block points n times free kernel retarded t (u + p))
  unfolding forward_entry lay_out
  group_laid =
      join_agree places _ _ (λ p hp. join_agree n _ _ (λ a ha. join_agree n _ _ (λ b hb.
      ap pair (made a p b ha hp hb ∙ sym (ap (λ (f : Bool). cond f czero (weighted_sum n (forward_sum points n times free kernel retarded t (u + p)) a b)) (below p hp))))))

-- sizes on the way
pub record Sizes (points n t len : ℕ) : Type 0 where
  pub block : n * n ≤ 256
  pub wide : points * (2 * (n * n)) ≤ 131072
  pub row : row_at points n t + points * (2 * (n * n)) ≤ len
  pub all : len ≤ 33554432

pub sizes-of : (points n t len : ℕ) → t < points → points ≤ 256 → n ≤ 16 → len ≡ length_of points n → Sizes points n t len
sizes-of points n t len ht hp hn e =
    let block = product-most n n hn hn in
    let wide = product-most points (2 * (n * n)) hp (let l : 2 * (n * n) ≤ 512 = omega arith in l) in
    let part = part-within (points * (2 * (n * n))) ht in
    record { block = block; wide = wide; row = omega (arith, whole_length points n); all = omega (arith, (sized points n hp hn).all) }
