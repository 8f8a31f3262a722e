-- Document 01, "Kept, renewed, left behind": "A two-time function is a lent slice of binary64 numbers: block (t, t') row by row, in a block
-- entry (a, b) row by row, real part before imaginary."
use Rattle.std.specs.Prelude.{Option, Some, None, ◌+◌, ◌*◌, ◌&&◌}
use Rattle.lists.specs.Prelude.{ℕ, Bool, cond, List, leb, ltb, length, Float}
use Rattle.lists.specs.Indexed.{join, all_below}
use Rattle.complex.specs.declared.Complex.{Complex}
use Rattle.complex.specs.Numbers.{entry_at}
use Rattle.block.specs.Block.{Entries, lay_out}

-- the block at times t and u
abbrev pub TwoTime : Type 0
TwoTime = ℕ → ℕ → Entries

-- where the real part of entry (a, b) of block (t, u) stands; a row of blocks has `stride` of them
abbrev pub place : ℕ → ℕ → ℕ → ℕ → ℕ → ℕ → ℕ
place stride orbitals t u a b = 2 * (((t * stride + u) * orbitals + a) * orbitals + b)

-- a list of numbers read as a two-time function
abbrev pub read_as : ℕ → ℕ → List Float → TwoTime
read_as stride orbitals xs t u a b = entry_at xs (place stride orbitals t u a b)

-- within the limits of check 2, (t, u) is a place of a function with that stride and (a, b) an entry of its blocks
unfoldable pub is_place : ℕ → ℕ → ℕ → ℕ → ℕ → ℕ → Bool
is_place stride orbitals t u a b = (leb stride 256 && leb orbitals 16) && ((ltb t stride && ltb u stride) && (ltb a orbitals && ltb b orbitals))

-- "a function has 2·N·N·n·n numbers"
abbrev pub length_of : ℕ → ℕ → ℕ
length_of points orbitals = 2 * points * points * orbitals * orbitals

-- an entry of a list that holds a function, where there is one
unfoldable pub stored_at : ℕ → ℕ → List Float → ℕ → ℕ → ℕ → ℕ → Option Complex
stored_at stride orbitals xs t u a b =
    cond (is_place stride orbitals t u a b && leb (length_of stride orbitals) (length xs)) (Some (read_as stride orbitals xs t u a b)) None

-- a two-time function laid out as such a list
unfoldable pub lay_out_all : ℕ → ℕ → TwoTime → List Float
lay_out_all points orbitals f = join points (λ t. join points (λ u. lay_out orbitals orbitals (f t u)))

-- p holds of every entry of every block
unfoldable pub everywhere : ℕ → ℕ → (ℕ → ℕ → ℕ → ℕ → Bool) → Bool
everywhere points orbitals p =
    all_below points (λ t. all_below points (λ u. all_below orbitals (λ a. all_below orbitals (λ b. p t u a b))))
