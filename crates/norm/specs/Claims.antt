-- What the norm's definition is claimed to be, said in the library's words for IEEE 754 alone (lib.Ieee): a reader of this file needs no other
-- of this crate. Sizes are counted in units of u = 2^-1074, roots are compared by their squares. Each theorem cites the law that has it.
-- Assumes nothing.
use Rattle.std.specs.Prelude.{◌≡◌, ◌+◌, ◌-◌, ◌*◌, ◌%◌, ◌^◌, ◌≤◌, ◌<◌, ◌≢◌}
use Rattle.lists.specs.Prelude.{refl, ap, ◌∙◌, Bool, false, ℕ, add_comm, ℤ, T, Float, nan, inf, fin, binary64, fits, le, neg, to_bits}
use Rattle.std.specs.Float.Ieee.Digits.{Equals}
use Rattle.std.specs.Float.Ieee.Exact.{HasValue}
use Rattle.norm.specs.Norm.{norm, rounded_root, in_units}
use Rattle.norm.specs.Sizes as Sizes
use Rattle.norm.specs.Nearest as Nearest
use Rattle.norm.specs.Value as Value
use Rattle.norm.specs.Order as Order

-- x is finite and a·u in size
abbrev pub Size : Float → ℕ → Type 0
Size x a = Equals x a (2 ^ 1074)

-- every finite binary64 is a whole number of units, which `in_units` gives: nothing is cut off
pub whole-units : (s : Bool) (m : ℕ) (e : ℤ) → T (fits binary64 (fin s m e)) → Size (fin s m e) (in_units m e)
whole-units = Sizes.exact_units

-- the norm is a binary64, whatever the parts
pub a_binary64 : (x y : Float) → T (fits binary64 (norm x y))
a_binary64 = Value.norm-fits

-- (2^54 − 1)·2^970, in units
abbrev pub limit : ℕ
limit = (2 ^ 54 - 1) * 2 ^ 2044

-- "For finite parts of size a·u and b·u, a and b whole":
module _ (x y : Float) (a b : ℕ) (first : Size x a) (second : Size y b) where
  of-sizes : norm x y ≡ rounded_root (a ^ 2 + b ^ 2)
  of-sizes = Nearest.norm-of-sizes x y a b first second

  -- "+infinity from (2^54 − 1)·2^970 upward", and below that a number, never negative
  pub infinity : limit * limit ≤ a ^ 2 + b ^ 2 → norm x y ≡ inf false
  infinity h = of-sizes ∙ Order.infinite-from (a ^ 2 + b ^ 2) h

  pub a_number : a ^ 2 + b ^ 2 < limit * limit → (w : ℕ) × HasValue (norm x y) false w (2 ^ 1074)
  a_number h = (Nearest.rounded_size (a ^ 2 + b ^ 2), rw of-sizes (Order.number-below (a ^ 2 + b ^ 2) h))

  -- "the binary64 nearest to u times the square root of a² + b²": where the norm is w·u, any other binary64, of size c·u, is as far from the
  -- root or farther, so that the root is not on its side of the middle of the two, (w + c)·u / 2
  module _ (w : ℕ) (result : Size (norm x y) w) (z : Float) (c : ℕ) (held : T (fits binary64 z)) (other : Size z c) where
    pub nearest : (c < w → (w + c) * (w + c) ≤ 4 * (a ^ 2 + b ^ 2)) × (w < c → 4 * (a ^ 2 + b ^ 2) ≤ (w + c) * (w + c))
    nearest = Value.nearest-size (a ^ 2 + b ^ 2) w c (rw of-sizes at result) (Nearest.every_size z c held other)

    -- "ties to the even significand": where the root is that middle, the last of the norm's own bits is 0
    pub even-at_a_tie : (c ≢ w) → 4 * (a ^ 2 + b ^ 2) ≡ (w + c) * (w + c) → to_bits binary64 (norm x y) % 2 ≡ 0
    even-at_a_tie d t = rw of-sizes (Value.last_bit (a ^ 2 + b ^ 2) w c (rw of-sizes at result) (Nearest.every_size z c held other) d t)

-- a larger sum of squares never gives a smaller norm
pub ordered : (x y x' y' : Float) (a b a' b' : ℕ) → Size x a → Size y b → Size x' a' → Size y' b' → a ^ 2 + b ^ 2 ≤ a' ^ 2 + b' ^ 2 → T (le (norm x y) (norm x' y'))
ordered x y x' y' a b a' b' p q p' q' h = rw (of-sizes x y a b p q, of-sizes x' y' a' b' p' q') (Order.ordered (a ^ 2 + b ^ 2) (a' ^ 2 + b' ^ 2) h)

-- neither a part's sign nor their order matters
pub sign_of_a_part : (x y : Float) → norm (neg x) y ≡ norm x y
unfolding norm neg
sign_of_a_part nan y = refl
sign_of_a_part (inf s) y = refl
sign_of_a_part (fin s m e) nan = refl
sign_of_a_part (fin s m e) (inf t) = refl
sign_of_a_part (fin s m e) (fin t n d) = refl

pub parts_swapped : (x y : Float) → norm x y ≡ norm y x
unfolding norm
parts_swapped nan nan = refl
parts_swapped nan (inf t) = refl
parts_swapped nan (fin t n d) = refl
parts_swapped (inf s) nan = refl
parts_swapped (inf s) (inf t) = refl
parts_swapped (inf s) (fin t n d) = refl
parts_swapped (fin s m e) nan = refl
parts_swapped (fin s m e) (inf t) = refl
parts_swapped (fin s m e) (fin t n d) = ap rounded_root (add_comm (in_units m e ^ 2) (in_units n d ^ 2))

-- "An infinite part gives +infinity; otherwise a NaN part gives NaN."
pub infinite-part : (s : Bool) (y : Float) → norm (inf s) y ≡ inf false
unfolding norm
infinite-part s y = refl

pub nan-part : (s : Bool) (m : ℕ) (e : ℤ) → (norm nan (fin s m e) ≡ nan) × (norm nan nan ≡ nan)
unfolding norm
nan-part s m e = (refl, refl)
