-- Document 02, L5: "G^<(t,t') then starts from (G^R(t,0)·g0)·G^A(0,t')", the first product of a row, and G^< at a group of its places.
use Rattle.std.specs.Prelude.{◌+◌, ◌*◌, ◌&&◌, ◌∷◌}
use Rattle.lists.specs.Prelude.{ℕ, Bool, List, [], ltb, Float}
use Rattle.lists.specs.Indexed.{all_below, all_in, join}
use Rattle.complex.specs.Arithmetic.{cfinite}
use Rattle.block.specs.Block.{Entries, entries_in, lay_out}
use Rattle.block.specs.Operations.{product, adjoint, all_finite}
use Rattle.two_time.specs.declared.sums.Sums.TheVariants.{Lesser}
use Rattle.two_time.specs.Calls.{size_checks}
use Rattle.two_time.specs.Layout.{read_as}
use Rattle.two_time.specs.WeightedSum.{Terms, weighted_sum, finite_sum}
use Rattle.two_time.specs.Sums.{terms_at}
use Rattle.two_time.specs.Start.{occupied_first, started_at, holds_block}
use Rattle.two_time.specs.Outcome.{SumsOutcome}
use Rattle.groups.specs.Groups.{is_group}
use Rattle.groups.specs.Onto.{group_outcome}

-- `first_factor`
module _ (points n : ℕ) (retarded g0 : List Float) (t : ℕ) where
  abbrev pub first_of : Entries
  first_of = occupied_first n (entries_in n g0) (read_as points n retarded) t

  unfoldable pub first_factor : List Float → SumsOutcome
  first_factor out = group_outcome n 1 (size_checks points n (ltb t points && holds_block n g0) (retarded ∷ [])) (all_finite n n first_of) (lay_out n n first_of) out

-- what the sum at (t,u) starts from, of that product, and its terms
abbrev pub start_of : ℕ → ℕ → List Float → List Float → ℕ → Entries
start_of points n retarded filled u = product n (entries_in n filled) (adjoint (read_as points n retarded u 0))

abbrev pub from_at : ℕ → ℕ → List Float → List Float → List Float → List Float → ℕ → ℕ → Terms
from_at points n times retarded lesser_advanced filled t u =
    started_at (start_of points n retarded filled u) (terms_at Lesser points times (read_as points n retarded) (read_as points n lesser_advanced) t u)

-- all that is made for the block at (t,u), and the block
module _ (points n : ℕ) (times retarded lesser_advanced filled : List Float) (t u : ℕ) where
  unfoldable pub from_finite : Bool
  from_finite = all_in n n (λ a b. cfinite (start_of points n retarded filled u a b) && finite_sum n (from_at points n times retarded lesser_advanced filled t u) a b)

  abbrev pub from_block : List Float
  from_block = lay_out n n (weighted_sum n (from_at points n times retarded lesser_advanced filled t u))

-- `group_from`
module _ (points n : ℕ) (times retarded lesser_advanced filled : List Float) (t u places : ℕ) where
  unfoldable pub group_from : List Float → SumsOutcome
  group_from out =
      group_outcome n places (size_checks points n (is_group points n t u places && holds_block n filled) (retarded ∷ lesser_advanced ∷ []))
      (all_below places (λ p. from_finite points n times retarded lesser_advanced filled t (u + p))) (join places (λ p. from_block points n times retarded lesser_advanced filled t (u + p))) out
