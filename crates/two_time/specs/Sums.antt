-- Document 01: the terms of every sum over times at a place (t, u), and the sums at all places.
use Rattle.std.specs.Prelude.{◌-◌}
use Rattle.lists.specs.Prelude.{ℕ, suc, Bool, cond, List, ltb, Float}
use Rattle.block.specs.Block.{Entries}
use Rattle.block.specs.Operations.{zeros, adjoint}
use Rattle.grid.specs.Weights.{full_weight, interval_weight}
use Rattle.two_time.specs.declared.sums.Sums.{Sums}
use Rattle.two_time.specs.declared.sums.Sums.TheVariants.{Full, Causal, LesserAdvanced, Lesser, AntiCausal}
use Rattle.two_time.specs.Layout.{TwoTime, read_as, lay_out_all, everywhere}
use Rattle.two_time.specs.New.{written, every_new}
use Rattle.two_time.specs.WeightedSum.{Terms, weighted_sum, finite_sum}

-- How many terms the sum over an interval has: none where it ends before it starts. Document 02, L2: "Form no product where an interval has one point
-- only (start = end); the block is +0. A longer interval whose step halves to 0 still forms its products."
unfoldable pub interval_count : ℕ → ℕ → ℕ
interval_count start end = cond (ltb start end) (suc end - start) 0

-- s from `start` to `end`, by the weights of that interval, from +0
abbrev pub interval : List Float → ℕ → ℕ → (ℕ → Entries) → (ℕ → Entries) → Terms
interval times start end left right =
    record { start = zeros; weight = λ s. interval_weight times s start end; left = left; right = right; from = start; count = interval_count start end }

-- "`time_convolution` sums all s with full weights. `causal_volterra_convolution` sums s from t' to t with interval weights, +0 where t < t'". Of the
-- transient run: "X(t,t') sums s from 0 to t' over Σ^<(t,s)·G^A(s,t') with weights (s, 0, t'); G^<(t,t') sums s from 0 to t over G^R(t,s)·X(s,t') with
-- weights (s, 0, t)", where "G^A(s,t') is the adjoint of G^R(t',s)". Of Langreth: "advanced sums s from t to t' with weights (s, t, t') where t ≤ t'
-- and is +0 elsewhere".
unfoldable pub terms_at : Sums → ℕ → List Float → TwoTime → TwoTime → ℕ → ℕ → Terms
terms_at Full points times x y t u =
    record { start = zeros; weight = full_weight points times; left = λ s. x t s; right = λ s. y s u; from = 0; count = points }
terms_at Causal points times x y t u = interval times u t (λ s. x t s) (λ s. y s u)
terms_at LesserAdvanced points times x y t u = interval times 0 u (λ s. x t s) (λ s. adjoint (y u s))
terms_at Lesser points times x y t u = interval times 0 t (λ s. x t s) (λ s. y s u)
terms_at AntiCausal points times x y t u = interval times t u (λ s. x t s) (λ s. y s u)

-- Dyson: "G(i,j) for j ≤ i starts as free(i,j) and, for s from j to i−1, adds interval weight (s, j, i) times K(i,s)·G(s,j)."
abbrev pub dyson_terms : List Float → TwoTime → TwoTime → TwoTime → ℕ → ℕ → Terms
dyson_terms times free k g i j =
    record { start = free i j; weight = λ s. interval_weight times s j i; left = λ s. k i s; right = λ s. g s j; from = j; count = i - j }

-- the sums at all places, and whether every block made for them is finite
module _ (sums : Sums) (points orbitals : ℕ) (times : List Float) (x y : TwoTime) where
  unfoldable pub sums_of : TwoTime
  sums_of t u = weighted_sum orbitals (terms_at sums points times x y t u)

  unfoldable pub sums_of_finite : Bool
  sums_of_finite = everywhere points orbitals (λ t u a b. finite_sum orbitals (terms_at sums points times x y t u) a b)

-- the same of lent numbers, laid out
module _ (sums : Sums) (points orbitals : ℕ) (times left right : List Float) where
  unfoldable pub sums_numbers : List Float
  sums_numbers = lay_out_all points orbitals (sums_of sums points orbitals times (read_as points orbitals left) (read_as points orbitals right))

  unfoldable pub sums_finite : Bool
  sums_finite = sums_of_finite sums points orbitals times (read_as points orbitals left) (read_as points orbitals right)

-- the same at the new places, in slices laid out for a capacity
module _ (sums : Sums) (capacity orbitals old points : ℕ) (times left right : List Float) where
  unfoldable pub new_numbers : List Float → List Float
  new_numbers before = written capacity orbitals old points (sums_of sums capacity orbitals times (read_as capacity orbitals left) (read_as capacity orbitals right)) before

  unfoldable pub new_finite : Bool
  new_finite = every_new orbitals old points (λ t u. finite_sum orbitals (terms_at sums capacity times (read_as capacity orbitals left) (read_as capacity orbitals right) t u))
