-- Document 02, L5: what G^< starts from. "G^<(t,t') then starts from (G^R(t,0)·g0)·G^A(0,t') instead of zero, as in Stefanucci and van Leeuwen; where t
-- is 0 that start is the whole block." One definition of G^< serves both forms of the run: the empty form is the one whose start is +0.
use Rattle.std.specs.Prelude.{◌*◌, ◌&&◌, ◌∷◌}
use Rattle.lists.specs.Prelude.{ℕ, Bool, true, List, [], leb, length, Float}
use Rattle.complex.specs.Arithmetic.{cfinite}
use Rattle.block.specs.Block.{Entries, entries_in}
use Rattle.block.specs.Operations.{product, zeros, adjoint}
use Rattle.two_time.specs.declared.sums.Sums.TheVariants.{Lesser}
use Rattle.two_time.specs.Layout.{TwoTime, read_as}
use Rattle.two_time.specs.Calls.{size_checks}
use Rattle.two_time.specs.New.{written, every_new, cleared_new}
use Rattle.two_time.specs.WeightedSum.{Terms, weighted_sum, finite_sum}
use Rattle.two_time.specs.Sums.{terms_at}
use Rattle.two_time.specs.Outcome.{SumsOutcome, summed_answer, new_out}

-- the block that G^<(t,u) starts from, and whether entry (a, b) of every product made for it is finite (check 10)
pub record Start : Type 0 where
  pub block : TwoTime
  pub finite : ℕ → ℕ → ℕ → ℕ → Bool

-- document 01: "The device starts empty." No product is made.
abbrev pub empty : Start
empty = record { block = λ t u. zeros; finite = λ t u a b. true }

-- "A second form of the run takes a block g0": G^R(t,0)·g0, and that times G^A(0,u), the adjoint of G^R(u,0)
module _ (orbitals : ℕ) (g0 : Entries) (g : TwoTime) where
  unfoldable pub occupied_first : ℕ → Entries
  occupied_first t = product orbitals (g t 0) g0

  unfoldable pub occupied_block : TwoTime
  occupied_block t u = product orbitals (occupied_first t) (adjoint (g u 0))

  abbrev pub occupied : Start
  occupied = record { block = occupied_block; finite = λ t u a b. cfinite (occupied_first t a b) && cfinite (occupied_block t u a b) }

-- a sum with another start
abbrev pub started_at : Entries → Terms → Terms
started_at start x = record { start = start; weight = x.weight; left = x.left; right = x.right; from = x.from; count = x.count }

-- the terms of G^<(t,u) of G^R and X: those of document 01, from that start. Where t is 0 there are none.
abbrev pub lesser_from : Start → ℕ → List Float → TwoTime → TwoTime → ℕ → ℕ → Terms
lesser_from start points times g x t u = started_at (start.block t u) (terms_at Lesser points times g x t u)

-- the same of lent numbers, in slices laid out for a capacity
abbrev pub lesser_at : Start → ℕ → ℕ → List Float → List Float → List Float → ℕ → ℕ → Terms
lesser_at start capacity orbitals times left right = lesser_from start capacity times (read_as capacity orbitals left) (read_as capacity orbitals right)

-- G^< at the new places, and whether every block made for it is finite
module _ (start : Start) (capacity orbitals old points : ℕ) (times left right : List Float) where
  unfoldable pub new_lesser_numbers : List Float → List Float
  new_lesser_numbers before = written capacity orbitals old points (λ t u. weighted_sum orbitals (lesser_at start capacity orbitals times left right t u)) before

  unfoldable pub new_lesser_finite : Bool
  new_lesser_finite = every_new orbitals old points (λ t u a b. start.finite t u a b && finite_sum orbitals (lesser_at start capacity orbitals times left right t u) a b)

-- a block g0 and G^R of lent numbers
abbrev pub occupied_by : ℕ → ℕ → List Float → List Float → Start
occupied_by capacity orbitals g0 retarded = occupied orbitals (entries_in orbitals g0) (read_as capacity orbitals retarded)

-- within the limits of check 2 a slice holds an n by n block; what stands beyond it changes nothing
unfoldable pub holds_block : ℕ → List Float → Bool
holds_block orbitals xs = leb orbitals 16 && leb (2 * (orbitals * orbitals)) (length xs)

-- `new_lesser_from`: of G^R and X, from the block g0
module _ (capacity orbitals old points : ℕ) (times retarded lesser_advanced g0 out : List Float) where
  unfoldable pub new_lesser_from : SumsOutcome
  new_lesser_from =
      let fits = (leb old points && leb points capacity) && holds_block orbitals g0 in
      let start = occupied_by capacity orbitals g0 retarded in
      let answer = summed_answer (size_checks capacity orbitals fits (retarded ∷ lesser_advanced ∷ out ∷ [])) (new_lesser_finite start capacity orbitals old points times retarded lesser_advanced) in
      record { answer = answer; out = new_out answer (new_lesser_numbers start capacity orbitals old points times retarded lesser_advanced out) (cleared_new capacity orbitals old points out) out }
