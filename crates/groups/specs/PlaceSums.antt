-- The sum at a place: its lanes hold it, it is tested by its last value, and Dyson's is the causal one up to the term before t. Assumes nothing.
use Rattle.std.specs.Prelude.{◌≡◌, ◌||◌, ◌+◌, ◌-◌, ◌*◌, ◌≤◌, ◌<◌}
use Rattle.lists.specs.Prelude.{refl, sym, ap, ◌∙◌, Bool, true, false, not, List, ℕ, min, arith, eqb, Float, eqb-true}
use Rattle.lists.specs.Indexed.{all_in}
use Rattle.lists.specs.Agreement.{all_agree, join_agree}
use Rattle.complex.specs.declared.Complex.{Complex}
use Rattle.complex.specs.Arithmetic.{czero, finite, cfinite}
use Rattle.complex.specs.Numbers.{pair}
use Rattle.std.specs.Float.Ieee as Ieee
use Rattle.two_time.specs.declared.sums.Sums.{Sums}
use Rattle.two_time.specs.declared.sums.Sums.TheVariants.{Full, Causal, LesserAdvanced, Lesser, AntiCausal}
use Rattle.two_time.specs.WeightedSum.{Terms, product_at, term_at, partial_sum, weighted_sum, finite_sum}
use Rattle.two_time.specs.Layout.{TwoTime, read_as}
use Rattle.two_time.specs.Sums.{interval_count, terms_at, dyson_terms, sums_of}
use Rattle.two_time.specs.Intervals.{interval_count_lem}
use Rattle.two_time.specs.OneTest.{partial_none, one_test}
use Rattle.block.specs.Block.{Entries, lay_out}
use Rattle.lanes.specs.Lanes.{lane_at}
use Rattle.groups.specs.PartialSums.{begun, terms_of, partial_at}
use Rattle.terms.specs.Kinds.{Reaches}

-- a sum that starts at +0 is tested by its last value
module _ (n : ℕ) (x : Terms) (a b : ℕ) (zero-start : x.start a b ≡ czero) where
  nothing : x.count ≡ 0 → cfinite (weighted_sum n x a b) ≡ true
  unfolding weighted_sum cfinite finite Ieee.of_bits
  nothing e = ap (λ (k : ℕ). cfinite (partial_sum n x k a b)) e ∙ ap cfinite (partial_none n x a b ∙ zero-start)

  pub end_test : cfinite (weighted_sum n x a b) ≡ finite_sum n x a b
  end_test = by_flag (eqb x.count 0) refl ∙ sym (one_test n x a b)
    where
      by_flag : (e : Bool) → eqb x.count 0 ≡ e → cfinite (weighted_sum n x a b) ≡ eqb x.count 0 || cfinite (weighted_sum n x a b)
      by_flag true e = nothing (eqb-true x.count 0 e) ∙ sym (rw e)
      by_flag false e = sym (rw e)

-- every kind of sums begins at +0
pub zero-start : (sums : Sums) (points : ℕ) (times : List Float) (x y : TwoTime) (t u a b : ℕ) → (terms_at sums points times x y t u).start a b ≡ czero
unfolding terms_at
zero-start Full points times x y t u a b = refl
zero-start Causal points times x y t u a b = refl
zero-start LesserAdvanced points times x y t u a b = refl
zero-start Lesser points times x y t u a b = refl
zero-start AntiCausal points times x y t u a b = refl

module _ (sums : Sums) (points n : ℕ) (times left right : List Float) (t u : ℕ) where
  abbrev terms : Terms
  terms = terms_at sums points times (read_as points n left) (read_as points n right) t u

  -- the block at (t, u), and whether all that is made for it is finite
  abbrev pub sum_at : Entries
  sum_at = sums_of sums points n times (read_as points n left) (read_as points n right) t u

  unfoldable pub block_finite : Bool
  block_finite = all_in n n (finite_sum n terms)

  -- so the sum that begins at +0 is the kind's own
  pub begins : (a b : ℕ) → weighted_sum n (terms_of sums points points n times left right t u czero) a b ≡ sum_at a b
  unfolding sums_of weighted_sum partial_sum term_at product_at
  begins a b = ap (λ (z : Complex). partial_sum n (begun z terms) terms.count a b) (sym (zero-start sums points times (read_as points n left) (read_as points n right) t u a b))

-- lanes that hold the sums of a place
module _ (sums : Sums) (points n : ℕ) (times left right : List Float) (t u : ℕ) (row : List Float) (p : ℕ)
    (made : (a b : ℕ) → a < n → b < n → lane_at row a (p * n + b) ≡ sum_at sums points n times left right t (u + p) a b) where
  pub place-finite : (asked : Bool) → asked ≡ true → all_in n n (λ a b. not asked || cfinite (lane_at row a (p * n + b))) ≡ block_finite sums points n times left right t (u + p)
  unfolding block_finite sums_of
  place-finite asked e =
      all_agree n _ _ (λ a ha. all_agree n _ _ (λ b hb. ap (λ (f : Bool). not f || cfinite (lane_at row a (p * n + b))) e ∙ ap cfinite (made a b ha hb)
      ∙ end_test n (terms_at sums points times (read_as points n left) (read_as points n right) t (u + p)) a b (zero-start sums points times (read_as points n left) (read_as points n right) t (u + p) a b)))

  pub place_laid : lay_out n n (λ a b. lane_at row a (p * n + b)) ≡ lay_out n n (sum_at sums points n times left right t (u + p))
  unfolding lay_out
  place_laid = join_agree n _ _ (λ a ha. join_agree n _ _ (λ b hb. ap pair (made a b ha hb)))

-- Dyson's sum is the causal one up to the term before t, from free(t, u)
module _ (points n : ℕ) (times free kernel retarded : List Float) (t u a b : ℕ) where
  abbrev causal : Terms
  causal = terms_of Causal points points n times kernel retarded t u (read_as points n free t u a b)

  abbrev dyson : Terms
  dyson = dyson_terms times (read_as points n free) (read_as points n kernel) (read_as points n retarded) t u

  same_partial : (k : ℕ) → partial_sum n causal k a b ≡ partial_sum n dyson k a b
  unfolding partial_sum term_at product_at terms_at
  same_partial k = refl

  pub forward_sum_lem : u ≤ t → partial_at n causal t a b ≡ weighted_sum n dyson a b
  unfolding partial_at weighted_sum terms_at
  forward_sum_lem h =
      let e : min (t - u) (interval_count u t) ≡ t - u = omega (arith, interval_count_lem u t) in
      ap (λ (k : ℕ). partial_sum n causal k a b) e ∙ same_partial (t - u)

-- what the causal loop up to t asks
pub forward-reach : (t s : ℕ) → s < t → Reaches Causal t s
unfolding Reaches
forward-reach t s h = omega arith

pub forward-least : (points : ℕ) (times : List Float) (x y : TwoTime) (t u c : ℕ) → u ≤ (terms_at Causal points times x y t (u + c)).from
unfolding terms_at
forward-least points times x y t u c = omega arith
