-- Document 01: checks 1 to 7 as every call on two-time functions asks them; document 02, L1: the same in slices laid out for a capacity.
use Rattle.std.specs.Prelude.{◌+◌, ◌*◌, ◌&&◌, ◌∷◌, ◌++◌}
use Rattle.lists.specs.Prelude.{ℕ, suc, Bool, true, List, [], eqb, leb, length, Float}
use Rattle.refusal.specs.Verdict.{pass, Verdict, ◌then◌, ask_all}
use Rattle.refusal.specs.Checks.{large_enough, not_empty, within_limits, within_block, fitting, finite_at, finite_entries, within_capacity}
use Rattle.grid.specs.Calls.{grid_checks}
use Rattle.two_time.specs.Layout.{length_of}

-- each of the slices has that length
unfoldable pub all_long : ℕ → List (List Float) → Bool
all_long count [] = true
all_long count (xs ∷ rest) = eqb (length xs) count && all_long count rest

-- N and n are within the limits of check 2, and each of the slices holds a function
unfoldable pub all_fit : ℕ → ℕ → List (List Float) → Bool
all_fit points orbitals slices = (leb points 256 && leb orbitals 16) && all_long (length_of points orbitals) slices

-- checks 1 to 3: `fits` says whether what is lent beside the two-time functions has its length too
unfoldable pub size_checks : ℕ → ℕ → Bool → List (List Float) → Verdict
size_checks points orbitals fits slices =
    large_enough points orbitals then within_limits points orbitals then fitting (fits && all_long (length_of points orbitals) slices)

-- check 7: the operands from number k on
unfoldable pub operand_checks : ℕ → List (List Float) → Verdict
operand_checks k [] = pass
operand_checks k (xs ∷ rest) = finite_entries k xs (length xs) then operand_checks (suc k) rest

-- checks 1 to 7 of a call on a grid: check 3 asks outputs and scratch too
unfoldable pub input_checks : ℕ → ℕ → List Float → List (List Float) → List (List Float) → Verdict
input_checks points orbitals times operands lent =
    size_checks points orbitals (eqb (length times) points) (operands ++ lent) then grid_checks points times then operand_checks 0 operands

-- ---- in slices laid out for a capacity

-- checks 1, 2, 3 and 16. "Line 1 counts the new point too, lines 2 and 3 read the capacity as N", "16 if the points would pass the capacity, after line 3"
unfoldable pub capacity_checks : ℕ → ℕ → ℕ → Bool → List (List Float) → Verdict
capacity_checks capacity points orbitals fits slices =
    large_enough points orbitals then within_limits capacity orbitals then fitting (fits && all_long (length_of capacity orbitals) slices) then within_capacity points capacity

-- the same with a block beside them, check by check: `fits` says whether each slice has its length and the block is n by n
abbrev pub block_sizes : ℕ → ℕ → ℕ → ℕ → ℕ → Bool → Verdict
block_sizes capacity points orbitals rows columns fits =
    (large_enough points orbitals then not_empty rows columns) then (within_limits capacity orbitals then within_block rows columns) then fitting fits then within_capacity points capacity

-- check 7 of the entries with both indices below the points; "line 7's position is that in the lent slice"
unfoldable pub point_entries : ℕ → ℕ → ℕ → ℕ → List Float → Verdict
point_entries capacity points orbitals operand xs =
    let block = 2 * (orbitals * orbitals) in ask_all points (λ t. ask_all (points * block) (λ i. finite_at operand xs (i + t * (capacity * block))))

-- the operands from number k on
unfoldable pub point_operands : ℕ → ℕ → ℕ → ℕ → List (List Float) → Verdict
point_operands capacity points orbitals k [] = pass
point_operands capacity points orbitals k (xs ∷ rest) = point_entries capacity points orbitals k xs then point_operands capacity points orbitals (suc k) rest

-- checks 1, 2, 3, 16 and 7 of one function
unfoldable pub point_checks : ℕ → ℕ → ℕ → ℕ → List Float → Verdict
point_checks capacity points orbitals operand xs = capacity_checks capacity points orbitals true (xs ∷ []) then point_entries capacity points orbitals operand xs
