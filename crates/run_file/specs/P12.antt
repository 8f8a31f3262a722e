-- P12 of document 01 as a run file, and the text that the program prints for it (proved in `bench_cases`). Assumes nothing.
use Rattle.std.specs.Prelude.{◌∷◌, ◌++◌, ◌/◌, ◌%◌}
use Rattle.lists.specs.Prelude.{List, [], map, ℕ, zero, suc, binary64, to_bits}
use Rattle.transient_run.specs.P12 as P12

-- a number in `count` bytes, lowest first, and a list of such numbers
abbrev pub bytes_of : ℕ → ℕ → List ℕ
bytes_of zero n = []
bytes_of (suc count) n = n % 256 ∷ bytes_of count (n / 256)

abbrev pub words : ℕ → List ℕ → List ℕ
words count [] = []
words count (n ∷ rest) = bytes_of count n ++ words count rest

-- "N, n as u32; a contents table of four rows ...; then bodies"
abbrev pub file : List ℕ
file =
    words 4 (3 ∷ 1 ∷ 40 ∷ 3 ∷ 64 ∷ 18 ∷ 208 ∷ 18 ∷ 352 ∷ 18 ∷ [])
    ++ words 8 (map (to_bits binary64) (P12.times ++ P12.lower ++ P12.lower ++ P12.imaginary))

-- "run 3 1" and a line for each time
abbrev pub text : List ℕ
text =
    (114 ∷ 117 ∷ 110 ∷ 32 ∷ 51 ∷ 32 ∷ 49 ∷ 10 ∷ [])
    ++ (48 ∷ 32 ∷ 110 ∷ 117 ∷ 109 ∷ 98 ∷ 101 ∷ 114 ∷ 32 ∷ 48 ∷ 48 ∷ 48 ∷ 48 ∷ 48 ∷ 48 ∷ 48 ∷ 48 ∷ 48 ∷ 48 ∷ 48 ∷ 48 ∷ 48 ∷ 48 ∷ 48 ∷ 48 ∷ 10 ∷ [])
    ++ (49 ∷ 32 ∷ 110 ∷ 117 ∷ 109 ∷ 98 ∷ 101 ∷ 114 ∷ 32 ∷ 51 ∷ 70 ∷ 70 ∷ 57 ∷ 48 ∷ 48 ∷ 48 ∷ 48 ∷ 48 ∷ 48 ∷ 48 ∷ 48 ∷ 48 ∷ 48 ∷ 48 ∷ 48 ∷ 10 ∷ [])
    ++ (50 ∷ 32 ∷ 110 ∷ 117 ∷ 109 ∷ 98 ∷ 101 ∷ 114 ∷ 32 ∷ 52 ∷ 48 ∷ 50 ∷ 67 ∷ 50 ∷ 48 ∷ 48 ∷ 48 ∷ 48 ∷ 48 ∷ 48 ∷ 48 ∷ 48 ∷ 48 ∷ 48 ∷ 48 ∷ 10 ∷ [])
