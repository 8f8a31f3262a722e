-- Document 02, L1: "Lend inputs, outputs and scratch laid out for a capacity of points (row t begins at t times capacity blocks), start with a run,
-- then append: only the new row and column of K, G^R, X and G^< are worked out." A call works out the places whose larger index is at least `old` and
-- below `points`: a run from 0 on, an append from the points before on.
use Rattle.std.specs.Prelude.{◌&&◌, ◌||◌, ◌∷◌}
use Rattle.lists.specs.Prelude.{ℕ, max, Bool, not, cond, List, [], leb, ltb, Float}
use Rattle.lists.specs.Indexed.{all_in}
use Rattle.block.specs.Operations.{zeros}
use Rattle.two_time.specs.Layout.{TwoTime, read_as, lay_out_all}
use Rattle.two_time.specs.Calls.{all_fit}

unfoldable pub is_new : ℕ → ℕ → ℕ → ℕ → Bool
is_new old points t u = leb old (max t u) && ltb (max t u) points

-- what a slice holds afterwards: at new places the blocks made, elsewhere (old places, and the room beyond the points) what stood there
unfoldable pub written : ℕ → ℕ → ℕ → ℕ → TwoTime → List Float → List Float
written capacity orbitals old points f before = lay_out_all capacity orbitals (λ t u. cond (is_new old points t u) (f t u) (read_as capacity orbitals before t u))

-- +0 at the new places
abbrev pub cleared_new : ℕ → ℕ → ℕ → ℕ → List Float → List Float
cleared_new capacity orbitals old points before = written capacity orbitals old points (λ t u. zeros) before

-- within the limits of check 2 the slice is laid out for the capacity, and the points are old ones and new ones within it
abbrev pub fits_new : ℕ → ℕ → ℕ → ℕ → List Float → Bool
fits_new capacity orbitals old points xs = (leb old points && leb points capacity) && all_fit capacity orbitals (xs ∷ [])

-- p holds of every entry at every new place
unfoldable pub every_new : ℕ → ℕ → ℕ → (ℕ → ℕ → ℕ → ℕ → Bool) → Bool
every_new orbitals old points p = all_in points points (λ t u. not (is_new old points t u) || all_in orbitals orbitals (p t u))
