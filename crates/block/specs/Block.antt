-- Document 01, matrix: "A matrix is one block by value, up to 256 complex entries", by rows, real part before imaginary.
use Rattle.std.specs.Prelude.{◌+◌, ◌*◌}
use Rattle.lists.specs.Prelude.{ℕ, List, Float}
use Rattle.lists.specs.Indexed.{join}
use Rattle.complex.specs.declared.Complex.{Complex}
use Rattle.complex.specs.Numbers.{entry_at, pair}

-- a block's entries: the number at row a and column b
abbrev pub Entries : Type 0
Entries = ℕ → ℕ → Complex

abbrev pub entries_in : ℕ → List Float → Entries
entries_in columns xs a b = entry_at xs (2 * (a * columns + b))

-- entries laid out as numbers, row by row
unfoldable pub lay_out : ℕ → ℕ → Entries → List Float
lay_out rows columns f = join rows (λ a. join columns (λ b. pair (f a b)))
