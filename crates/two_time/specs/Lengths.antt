-- Slices that have a function's length: each of those asked, and others in another order. Assumes nothing.
use Rattle.std.specs.Prelude.{◌≡◌, ◌∷◌}
use Rattle.lists.specs.Prelude.{refl, Bool, true, List, [], ℕ, length, Float}
use Rattle.two_time.specs.Layout.{length_of}
use Rattle.two_time.specs.Calls.{all_long}
use Rattle.two_time.specs.SizeChecks.{SizesPassed, long-first, long_also, long-none}

-- each has that length
abbrev pub Long : ℕ → List (List Float) → Type 0
Long count [] = Unit {0}
Long count (xs ∷ rest) = (length xs ≡ count) × Long count rest

each_long : (count : ℕ) (slices : List (List Float)) → all_long count slices ≡ true → Long count slices
each_long count [] e = tt
each_long count (xs ∷ rest) e = let first = long-first count xs rest e in (first.0, each_long count rest first.1)

module _ {points n : ℕ} {fits : Bool} {slices : List (List Float)} (z : SizesPassed points n fits slices) where
  pub lengths : Long (length_of points n) slices
  lengths = each_long (length_of points n) slices z.long

  -- others: all at once, or from none on, one before others
  pub others-asked : (others : List (List Float)) → all_long (length_of points n) others ≡ true → SizesPassed points n true others
  others-asked others long =
      record { points-least = z.points-least; orbitals-least = z.orbitals-least; points-most = z.points-most; orbitals-most = z.orbitals-most; others = refl; long = long }

  pub none-asked : SizesPassed points n true []
  none-asked = others-asked [] (long-none (length_of points n))

pub also_asked : {points n : ℕ} {xs : List Float} {rest : List (List Float)} → length xs ≡ length_of points n → SizesPassed points n true rest → SizesPassed points n true (xs ∷ rest)
also_asked {points} {n} {xs} {rest} e z = others-asked z (xs ∷ rest) (long_also (length_of points n) xs rest e z.long)
