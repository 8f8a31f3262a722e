-- What the code's words stand for: a sum of squares, what has been read of a number whose root is taken, and how many of the
-- root's digits are dropped and which way it is rounded.
use Rattle.std.specs.Prelude.{◌⊎◌, ◌≡◌, ◌+◌, ◌*◌, ◌%◌, ◌^◌, ◌≤◌, ◌<◌}
use Rattle.lists.specs.Prelude.{ℕ}
use Rattle.norm.specs.declared.squares.Squares.{Squares}
use Rattle.norm.specs.declared.square_root.Root.{Root}

abbrev pub total : Squares → ℕ
total n = n.top * 2 ^ 64 + n.low

-- x is the whole part of the square root of n, and leaves t
pub record Leaves (n x t : ℕ) : Type 0 where
  pub value : x * x + t ≡ n
  pub little : t ≤ 2 * x

-- the number read so far: the square of the root, and what it leaves
abbrev pub read : Root → ℕ
read s = s.root * s.root + s.rest

-- s has read n: its root is that of n
abbrev pub Reads : Root → ℕ → Type 0
Reads s n = Leaves n s.root s.rest

-- w has r binary digits
abbrev pub Long : ℕ → ℕ → Type 0
Long w r = (w < 2 ^ r) × (2 ^ r ≤ 2 * w + 1)

-- without its last r digits the root x has 53, or fewer where only the one below the unit is dropped
pub record Dropped (x r : ℕ) : Type 0 where
  pub some : 1 ≤ r
  pub few : r ≤ 28
  pub short : x < 2 ^ 53 * 2 ^ r
  pub long : (r ≡ 1) ⊎ (2 ^ 52 * 2 ^ r ≤ x)

-- r is what rounding adds to q, by the digits y below the step, whose half is `half`, and by what the root leaves, t: ties to the even
pub record RoundsBy (q y half t r : ℕ) : Type 0 where
  pub below : y < half → r ≡ 0
  pub tie : y ≡ half → t ≡ 0 → r ≡ q % 2
  pub past : y ≡ half → 0 < t → r ≡ 1
  pub above : half < y → r ≡ 1
  pub most : r ≤ 1
