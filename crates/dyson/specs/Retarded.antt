-- Document 01, Dyson: "K is the causal convolution of both ... G(i,j) for j ≤ i starts as free(i,j) and, for s from j to i−1, adds interval
-- weight (s, j, i) times K(i,s)·G(s,j). Above the diagonal +0." Document 02, L1: "Old entries of K, G^R, X and G^< are read as the buffers hold them".
use Rattle.lists.specs.Prelude.{ℕ, zero, suc, Bool, cond, List, ltb, Float}
use Rattle.complex.specs.Arithmetic.{czero}
use Rattle.block.specs.Operations.{zeros}
use Rattle.two_time.specs.Layout.{TwoTime, read_as, lay_out_all, everywhere}
use Rattle.two_time.specs.New.{written, every_new}
use Rattle.two_time.specs.WeightedSum.{weighted_sum, finite_sum}
use Rattle.two_time.specs.Sums.{dyson_terms}

module _ (orbitals : ℕ) (times : List Float) (free k : TwoTime) (old : ℕ) (held : TwoTime) where
  -- G on and below the diagonal; its rows before `old` are held. The document's recursion goes from (i,j) to (s,j) with s below i, so `depth` rows
  -- above i − j are enough (specs/Recursion.antt).
  unfoldable pub solve : ℕ → TwoTime
  solve zero i j a b = czero
  solve (suc depth) i j a b = cond (ltb i old) (held i j a b) (weighted_sum orbitals (dyson_terms times free k (solve depth) i j) a b)

  unfoldable pub retarded_onward : TwoTime
  retarded_onward i j a b = cond (ltb i j) czero (solve (suc i) i j a b)

-- with no row held
abbrev pub retarded_retarded : ℕ → List Float → TwoTime → TwoTime → TwoTime
retarded_retarded orbitals times free k = retarded_onward orbitals times free k 0 (λ i j. zeros)

-- G of slices, with K read as it stands in its scratch: laid out, and whether every block made for it is finite (above the diagonal none is made)
module _ (points orbitals : ℕ) (times free kernel : List Float) where
  abbrev pub retarded_from : TwoTime
  retarded_from = retarded_retarded orbitals times (read_as points orbitals free) (read_as points orbitals kernel)

  unfoldable pub retarded_numbers : List Float
  retarded_numbers = lay_out_all points orbitals retarded_from

  unfoldable pub retarded_finite : Bool
  retarded_finite = everywhere points orbitals (λ i j. finite_sum orbitals (dyson_terms times (read_as points orbitals free) (read_as points orbitals kernel) retarded_from i j))

-- the same at the new places, in slices laid out for a capacity
module _ (capacity orbitals old points : ℕ) (times free kernel held : List Float) where
  abbrev pub onward_from : TwoTime
  onward_from = retarded_onward orbitals times (read_as capacity orbitals free) (read_as capacity orbitals kernel) old (read_as capacity orbitals held)

  unfoldable pub new_retarded : List Float
  new_retarded = written capacity orbitals old points onward_from held

  unfoldable pub new_retarded_finite : Bool
  new_retarded_finite = every_new orbitals old points (λ i j. finite_sum orbitals (dyson_terms times (read_as capacity orbitals free) (read_as capacity orbitals kernel) onward_from i j))
