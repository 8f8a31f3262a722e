-- Document 01, "Questions in order": the checks 1 to 15, and 16, 17, 18 and 22 of document 02, each a question over plain values. The answer no gives the
-- check's number.
use Rattle.std.specs.Prelude.{◌+◌, ◌-◌, ◌*◌, ◌&&◌}
use Rattle.lists.specs.Prelude.{ℕ, Bool, not, List, leb, ltb, get_or, Float, nan, lt}
use Rattle.lists.specs.Indexed.{all_below}
use Rattle.complex.specs.declared.Complex.{Complex}
use Rattle.complex.specs.Arithmetic.{plus_zero, finite, cfinite, size}
use Rattle.refusal.specs.Verdict.{Verdict, by, ask, ask_all}

-- 1: "Are N at least 2 and n at least 1?" A block has at least one row and one column (document 01, matrix).
unfoldable pub large_enough : ℕ → ℕ → Verdict
large_enough points orbitals = ask (leb 2 points && leb 1 orbitals) (by 1)

unfoldable pub not_empty : ℕ → ℕ → Verdict
not_empty rows columns = ask (leb 1 rows && leb 1 columns) (by 1)

-- 2: "Are N at most 256 and n at most 16 (in the program N·n at most 16)?" A block has at most 16 rows and columns.
unfoldable pub within_limits : ℕ → ℕ → Verdict
within_limits points orbitals = ask (leb points 256 && leb orbitals 16) (by 2)

unfoldable pub within_block : ℕ → ℕ → Verdict
within_block rows columns = ask (leb rows 16 && leb columns 16) (by 2)

unfoldable pub within_program : ℕ → ℕ → Verdict
within_program points orbitals = ask (leb (points * orbitals) 16) (by 2)

-- 3: "Has each lent slice its exact length?" Of blocks: do the shapes fit the operation?
unfoldable pub fitting : Bool → Verdict
fitting all = ask all (by 3)

-- 4: "Are all times finite?"
unfoldable pub finite_times : ℕ → List Float → Verdict
finite_times points times = ask (all_below points (λ i. finite (get_or times i nan))) (by 4)

-- 5: "Does each time exceed the one before? 5, with the first index that does not"
unfoldable pub rising_times : ℕ → List Float → Verdict
rising_times points times =
    ask_all (points - 1)
    (λ i. ask (lt (get_or times i nan) (get_or times (i + 1) nan)) (record { number = 5; operand = 0; first = i + 1; second = 0; part = plus_zero }))

-- 6: "Are all full weights finite?"
unfoldable pub finite_weights : ℕ → (ℕ → Float) → Verdict
finite_weights points weight = ask (all_below points (λ i. finite (weight i))) (by 6)

-- 7: "Are all entries finite? 7, with operand (from 0, in call order, times not counted) and number position": at one position, and of the first count
-- numbers
abbrev pub finite_at : ℕ → List Float → ℕ → Verdict
finite_at operand xs at = ask (finite (get_or xs at nan)) (record { number = 7; operand = operand; first = at; second = 0; part = plus_zero })

unfoldable pub finite_entries : ℕ → List Float → ℕ → Verdict
finite_entries operand xs count = ask_all count (λ i. finite_at operand xs i)

-- 8: "Is the tolerance finite and above 0?"
unfoldable pub valid_tolerance : Float → Verdict
valid_tolerance tolerance = ask (finite tolerance && lt plus_zero tolerance) (by 8)

-- 9: "Is each input retarded within tolerance? 9, with operand, first, second, residual": at one place. A NaN does not exceed.
unfoldable pub retarded_at : ℕ → ℕ → ℕ → Float → Float → Verdict
retarded_at operand first second tolerance residual =
    ask (not (lt tolerance residual)) (record { number = 9; operand = operand; first = first; second = second; part = residual })

-- 10: "Is every block made during the work finite?"
unfoldable pub finite_work : Bool → Verdict
finite_work all = ask all (by 10)

-- 11: "Is the time index below N?"
unfoldable pub time_below : ℕ → ℕ → Verdict
time_below index points = ask (ltb index points) (by 11)

-- 12: "Are a, then b, below n?"
unfoldable pub orbital_below : ℕ → ℕ → Verdict
orbital_below index orbitals = ask (ltb index orbitals) (by 12)

-- 13: "Are hopping and charge factor finite?"
unfoldable pub finite_factors : Complex → Float → Verdict
finite_factors hopping charge = ask (cfinite hopping && finite charge) (by 13)

-- 14: "Is the imaginary part's size at most the tolerance? 14, with that part". It refuses a size above the tolerance, so no NaN.
unfoldable pub real_within : Float → Float → Verdict
real_within tolerance part = ask (not (lt tolerance (size part))) (record { number = 14; operand = 0; first = 0; second = 0; part = part })

-- 15: "Is the run file well formed?"
unfoldable pub well_formed : Bool → Verdict
well_formed all = ask all (by 15)

-- 16, document 02, L1: "16 if the points would pass the capacity, after line 3"
unfoldable pub within_capacity : ℕ → ℕ → Verdict
within_capacity points capacity = ask (leb points capacity) (by 16)

-- 17, document 02, L3: "17 if the session counter would pass 2^64 − 1, after line 9 and before any product"
unfoldable pub counter_holds : ℕ → ℕ → Verdict
counter_holds counter count = ask (leb (counter + count) 0xffff_ffff_ffff_ffff) (by 17)

-- 18, document 02, L6: "18 if the list exceeds 1,024 queries, after line 3 and after 16"
unfoldable pub within_list : ℕ → Verdict
within_list queries = ask (leb queries 1024) (by 18)

-- 22, document 02, L13: "one for each desk numbered 0 to 7 ... 22 if the desk is above 7, before line 1"
unfoldable pub desk_known : ℕ → Verdict
desk_known desk = ask (ltb desk 8) (by 22)
