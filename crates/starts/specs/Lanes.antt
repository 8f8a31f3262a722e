-- Lanes that hold a product at one place, and lanes that hold what the sums at a group of places start from. Assumes nothing.
use Rattle.std.specs.Prelude.{◌≡◌, ◌&&◌, ◌+◌, ◌*◌, ◌<◌}
use Rattle.lists.specs.Prelude.{ap, ap₂, ◌∙◌, Bool, List, ℕ, Float}
use Rattle.lists.specs.Indexed.{all_below, join}
use Rattle.lists.specs.Agreement.{all_agree, join_agree}
use Rattle.complex.specs.declared.Complex.{Complex}
use Rattle.complex.specs.Arithmetic.{cfinite}
use Rattle.complex.specs.Numbers.{pair}
use Rattle.block.specs.Block.{Entries, lay_out}
use Rattle.block.specs.Operations.{all_finite}
use Rattle.two_time.specs.declared.sums.Sums.TheVariants.{Lesser}
use Rattle.two_time.specs.Layout.{read_as}
use Rattle.two_time.specs.Sums.{terms_at}
use Rattle.two_time.specs.WeightedSum.{weighted_sum, finite_sum}
use Rattle.two_time.specs.Agreement.{AgreeTerms, weighted_agree}
use Rattle.two_time.specs.FiniteAgreement.{finite_agree}
use Rattle.two_time.specs.Started.{started_agree, same-terms}
use Rattle.lanes.specs.Lanes.{lane_at, laid_lanes, lanes_finite}
use Rattle.groups.specs.Onto.{onto_at, onto_finite, onto_numbers}
use Rattle.starts.specs.Calls.{start_of, from_at, from_finite, from_block}

-- one place
module _ (n : ℕ) (f : Entries) (lanes : List Float) (same : (a b : ℕ) → a < n → b < n → lane_at lanes a (0 * n + b) ≡ f a b) where
  pub one-finite : lanes_finite lanes n 1 1 ≡ all_finite n n f
  unfolding all_below all_finite
  one-finite = all_agree n _ _ (λ a ha. all_agree n _ _ (λ b hb. ap cfinite (same a b ha hb)))

  pub one_laid : laid_lanes lanes n 1 ≡ lay_out n n f
  unfolding join lay_out
  one_laid = join_agree n _ _ (λ a ha. join_agree n _ _ (λ b hb. ap pair (same a b ha hb)))

-- a group
module _ (points n : ℕ) (times retarded lesser_advanced filled : List Float) (t u places : ℕ) (starts : List Float)
    (same : (a p b : ℕ) → a < n → p < places → b < n → lane_at starts a (p * n + b) ≡ start_of points n retarded filled (u + p) a b) where
  terms : (p : ℕ) → p < places → AgreeTerms n (onto_at Lesser points n times retarded lesser_advanced starts t u p) (from_at points n times retarded lesser_advanced filled t (u + p))
  terms p hp =
      let x = terms_at Lesser points times (read_as points n retarded) (read_as points n lesser_advanced) t (u + p) in
      started_agree n (λ a b. lane_at starts a (p * n + b)) (start_of points n retarded filled (u + p)) x x (λ a b ha hb. same a p b ha hp hb) (same-terms n x)

  pub from_finite_lem : onto_finite Lesser points n times retarded lesser_advanced starts t u places ≡ all_below places (λ p. from_finite points n times retarded lesser_advanced filled t (u + p))
  unfolding from_finite
  from_finite_lem =
      all_agree places _ _ (λ p hp. all_agree n _ _ (λ a ha. all_agree n _ _ (λ b hb.
      ap₂ ◌&&◌ (ap cfinite (same a p b ha hp hb)) (finite_agree n _ _ (terms p hp) a b ha hb))))

  pub from_numbers_lem : onto_numbers Lesser points n times retarded lesser_advanced starts t u places ≡ join places (λ p. from_block points n times retarded lesser_advanced filled t (u + p))
  unfolding lay_out
  from_numbers_lem = join_agree places _ _ (λ p hp. join_agree n _ _ (λ a ha. join_agree n _ _ (λ b hb. ap pair (weighted_agree n _ _ (terms p hp) a b ha hb))))
