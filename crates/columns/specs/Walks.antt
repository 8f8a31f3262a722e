-- The sum at a place over an interval from the first point on, at one orbital: where its numbers stand, and what is added for each s.
use Rattle.std.specs.Prelude.{◌≡◌, ◌+◌, ◌*◌, ◌<◌}
use Rattle.lists.specs.Prelude.{refl, sym, ap, ◌∙◌, Bool, true, false, List, ℕ, mul_left_comm, arith, Float}
use Rattle.lists.specs.Indexed.{fold}
use Rattle.lists.specs.Agreement.{never}
use Rattle.complex.specs.declared.Complex.{Complex}
use Rattle.complex.specs.Arithmetic.{czero, real, cadd, cmul}
use Rattle.complex.specs.Numbers.{entry_at}
use Rattle.complex.specs.Sum.{sum_from}
use Rattle.complex.specs.Agreement.{sum_agree}
use Rattle.block.specs.Operations.{product, scaled}
use Rattle.grid.specs.Weights.{interval_weight}
use Rattle.two_time.specs.declared.sums.Sums.{Sums}
use Rattle.two_time.specs.declared.sums.Sums.TheVariants.{Full, Causal, LesserAdvanced, Lesser, AntiCausal}
use Rattle.two_time.specs.Layout.{TwoTime, place, read_as}
use Rattle.two_time.specs.Sums.{interval_count, interval, terms_at}
use Rattle.two_time.specs.Intervals.{interval_count_lem}
use Rattle.two_time.specs.WeightedSum.{Terms, product_at, term_at, partial_sum, weighted_sum}
use Rattle.terms.specs.declared.Factor.{Factor}
use Rattle.terms.specs.declared.Factor.TheVariants.{Stored, Adjoint}
use Rattle.terms.specs.Kinds.{factor_of, right_by, right_number}
use Rattle.groups.specs.Right.{right_place, right-read}
use Rattle.groups.specs.PartialSums.{begun, terms_of}
use Rattle.columns.specs.declared.Walk.{Walk}

-- the intervals of a kind begin at the first point
unfoldable pub from_first : Sums → Bool
from_first Full = false
from_first Causal = false
from_first LesserAdvanced = true
from_first Lesser = true
from_first AntiCausal = false

-- where the interval at (t, u) ends, and where the right numbers stand, by the right factor of such a kind
unfoldable pub walk_of : Factor → ℕ → ℕ → ℕ → Walk
walk_of Stored stride t u = record { end = t; first = 2 * u; step = 2 * stride }
walk_of Adjoint stride t u = record { end = u; first = 2 * (u * stride); step = 2 }

-- what s adds, where the left numbers stand from i on
unfoldable pub walk_term : Factor → List Float → List Float → ℕ → List Float → Walk → ℕ → Complex
walk_term factor times left i right walk s =
    cmul (cadd czero (cmul (entry_at left (i + 2 * s)) (right_number factor (entry_at right (walk.first + s * walk.step))))) (real (interval_weight times s 0 walk.end))

-- ---- laws

-- the right number of s stands where its entry does
pub walk-place : (factor : Factor) (stride t u s : ℕ) → (walk_of factor stride t u).first + s * (walk_of factor stride t u).step ≡ right_place factor stride 1 s u 0 0
unfolding walk_of right_place
walk-place Stored stride t u s = omega (arith, mul_left_comm s 2 stride)
walk-place Adjoint stride t u s = omega arith

-- it ends at a point
pub walk_end : (factor : Factor) (stride t u : ℕ) → t < stride → u < stride → (walk_of factor stride t u).end < stride
unfolding walk_of
walk_end Stored stride t u ht hu = ht
walk_end Adjoint stride t u ht hu = hu

-- the terms of such a kind
walk-terms : (sums : Sums) → from_first sums ≡ true → (points : ℕ) (times : List Float) (x y : TwoTime) (stride t u : ℕ)
    → terms_at sums points times x y t u ≡ interval times 0 (walk_of (factor_of sums) stride t u).end (λ s. x t s) (λ s. right_by (factor_of sums) y s u)
unfolding from_first walk_of factor_of terms_at right_by
walk-terms Full h points times x y stride t u = never h
walk-terms Causal h points times x y stride t u = never h
walk-terms LesserAdvanced h points times x y stride t u = refl
walk-terms Lesser h points times x y stride t u = refl
walk-terms AntiCausal h points times x y stride t u = never h

module _ (sums : Sums) (stride : ℕ) (times left right : List Float) (t u : ℕ) (total : Complex) (kind : from_first sums ≡ true) where
  abbrev walk : Walk
  walk = walk_of (factor_of sums) stride t u

  -- its terms by the walk
  abbrev walked : Terms
  walked = begun total (interval times 0 walk.end (λ s. read_as stride 1 left t s) (λ s. right_by (factor_of sums) (read_as stride 1 right) s u))

  is-walked : weighted_sum 1 walked 0 0 ≡ weighted_sum 1 (terms_of sums stride stride 1 times left right t u total) 0 0
  is-walked = ap (λ (x : Terms). weighted_sum 1 (begun total x) 0 0) (sym (walk-terms sums kind stride times (read_as stride 1 left) (read_as stride 1 right) stride t u))

  term_is : (s : ℕ) → walk_term (factor_of sums) times left (2 * (t * stride)) right walk s ≡ term_at 1 walked s 0 0
  unfolding walk_term term_at product_at scaled product sum_from fold
  term_is s =
      let there : 2 * (t * stride) + 2 * s ≡ place stride 1 t s 0 0 = omega arith in
      ap (λ (k : ℕ). cmul (cadd czero (cmul (entry_at left k) (right_number (factor_of sums) (entry_at right (walk.first + s * walk.step))))) (real (interval_weight times s 0 walk.end))) there
      ∙ ap (λ (y : Complex). cmul (cadd czero (cmul (read_as stride 1 left t s 0 0) y)) (real (interval_weight times s 0 walk.end)))
      (ap (λ (k : ℕ). right_number (factor_of sums) (entry_at right k)) (walk-place (factor_of sums) stride t u s) ∙ right-read (factor_of sums) stride 1 right s u 0 0)

  -- the sum at (t, u) is that of the walk
  pub walk_sums : 0 < walk.end → sum_from total (walk_term (factor_of sums) times left (2 * (t * stride)) right walk) 0 (walk.end + 1)
      ≡ weighted_sum 1 (terms_of sums stride stride 1 times left right t u total) 0 0
  unfolding weighted_sum partial_sum
  walk_sums some =
      let count : walk.end + 1 ≡ interval_count 0 walk.end = omega (arith, interval_count_lem 0 walk.end) in
      sum_agree total total _ (λ s. term_at 1 walked s 0 0) 0 (walk.end + 1) refl (λ k h. term_is (0 + k)) ∙ ap (λ (k : ℕ). sum_from total (λ s. term_at 1 walked s 0 0) 0 k) count ∙ is-walked

  -- one point alone adds nothing
  pub walk_none : walk.end ≡ 0 → total ≡ weighted_sum 1 (terms_of sums stride stride 1 times left right t u total) 0 0
  unfolding weighted_sum partial_sum sum_from fold interval_count
  walk_none none = ap (λ (k : ℕ). sum_from total (λ s. term_at 1 walked s 0 0) 0 (interval_count 0 k)) (sym none) ∙ is-walked
