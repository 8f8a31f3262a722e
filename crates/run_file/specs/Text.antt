-- Document 01, run file: the text of an answer, as bytes. Words are written in their codes, and every line ends with a line feed, 10.
use Rattle.std.specs.Prelude.{◌+◌, ◌/◌, ◌%◌, ◌∷◌, ◌++◌}
use Rattle.lists.specs.Prelude.{ℕ, zero, suc, cond, List, [], ltb, binary64, to_bits}
use Rattle.observables.specs.declared.Observed.{Observed}
use Rattle.observables.specs.declared.Observed.TheVariants.{Number, NotReal, Refused as NotObserved}

-- a number in decimal digits, of which it has at most `most`
unfoldable pub decimal_in : ℕ → ℕ → List ℕ
decimal_in zero n = []
decimal_in (suc most) n = let high = decimal_in most (n / 10) in cond (ltb n 10) ((48 + n) ∷ []) (high ++ ((48 + n % 10) ∷ []))

unfoldable pub decimal : ℕ → List ℕ
decimal n = decimal_in (suc n) n

-- "upper-case hexadecimal digits of the bits, highest first": the lowest `count` of them
unfoldable pub hex_digit : ℕ → ℕ
hex_digit d = cond (ltb d 10) (48 + d) (55 + d)

unfoldable pub hexadecimal : ℕ → ℕ → List ℕ
hexadecimal zero n = []
hexadecimal (suc count) n = hexadecimal count (n / 16) ++ (hex_digit (n % 16) ∷ [])

-- "run", "number", "refused"
abbrev pub run_word : List ℕ
run_word = 114 ∷ 117 ∷ 110 ∷ []

abbrev pub number_word : List ℕ
number_word = 110 ∷ 117 ∷ 109 ∷ 98 ∷ 101 ∷ 114 ∷ []

abbrev pub refused_word : List ℕ
refused_word = 114 ∷ 101 ∷ 102 ∷ 117 ∷ 115 ∷ 101 ∷ 100 ∷ []

-- words of a line, single spaces between them
unfoldable pub line : List (List ℕ) → List ℕ
line [] = 10 ∷ []
line (word ∷ []) = word ++ (10 ∷ [])
line (word ∷ next ∷ rest) = word ++ (32 ∷ line (next ∷ rest))

-- "per time its index, `number` and 16 upper-case hexadecimal digits of the bits, highest first, or its index, `refused` and the refusal's
-- number"
unfoldable pub time_line : ℕ → Observed → List ℕ
time_line t (Number x) = line (decimal t ∷ number_word ∷ hexadecimal 16 (to_bits binary64 x) ∷ [])
time_line t (NotReal part) = line (decimal t ∷ refused_word ∷ decimal 14 ∷ [])
time_line t (NotObserved r) = line (decimal t ∷ refused_word ∷ decimal r.number ∷ [])
