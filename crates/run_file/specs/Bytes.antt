-- Numbers in bytes, lowest byte first (document 01, run file: "little-endian").
use Rattle.std.specs.Prelude.{◌+◌, ◌*◌, ◌∷◌}
use Rattle.lists.specs.Prelude.{ℕ, zero, suc, List, [], get_or, Float, binary64, of_bits}
use Rattle.lists.specs.Indexed.{join}

-- the number of `count` bytes from place i on
unfoldable pub little_endian : ℕ → ℕ → List ℕ → ℕ
little_endian zero i bytes = 0
little_endian (suc count) i bytes = get_or bytes i 0 + 256 * little_endian count (i + 1) bytes

-- "u32", and a binary64 number of "eight bytes"
abbrev pub u32 : ℕ → List ℕ → ℕ
u32 = little_endian 4

abbrev pub number : ℕ → List ℕ → Float
number i bytes = of_bits binary64 (little_endian 8 i bytes)

-- `count` numbers from place i on
unfoldable pub numbers : ℕ → ℕ → List ℕ → List Float
numbers i count bytes = join count (λ k. number (i + 8 * k) bytes ∷ [])
