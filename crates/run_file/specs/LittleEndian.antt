-- A number that is read from its highest byte down, and a slice of numbers. Assumes nothing.
use Rattle.std.specs.Prelude.{◌≡◌, ◌+◌, ◌-◌, ◌*◌, ◌^◌, ◌≤◌, ◌<◌}
use Rattle.lists.specs.Prelude.{refl, ap, ap₂, ◌∙◌, List, ℕ, pow-suc, pow-le-pow_right, le_antisymm, add-one, arith, length, get_or, Float}
use Rattle.lists.specs.Filling.{over}
use Rattle.lists.specs.Singles.{singles, singles-end}
use Rattle.run_file.specs.Bytes.{little_endian, number, numbers}

pub no_bytes : (bytes : List ℕ) (i : ℕ) → 0 ≡ little_endian 0 i bytes
unfolding little_endian
no_bytes bytes i = refl

-- all of them
pub all_bytes : (bytes : List ℕ) (i count k : ℕ) {n : ℕ} → k ≤ count → count ≤ k → n ≡ little_endian k (i + (count - k)) bytes → n ≡ little_endian count i bytes
all_bytes bytes i count k h l e =
    let same : k ≡ count = le_antisymm h l in
    let at : i + (count - k) ≡ i = omega arith in
    e ∙ ap₂ (λ (c j : ℕ). little_endian c j bytes) same at

-- a byte below the k that are read
pub byte_below : (bytes : List ℕ) (i count k : ℕ) → k < count
    → get_or bytes (i + (count - 1 - k)) 0 + 256 * little_endian k (i + (count - k)) bytes ≡ little_endian (k + 1) (i + (count - (k + 1))) bytes
unfolding little_endian
byte_below bytes i count k h =
    let at : i + (count - 1 - k) ≡ i + (count - (k + 1)) = omega arith in
    let next : i + (count - k) ≡ i + (count - (k + 1)) + 1 = omega arith in
    rw (at, next, add-one k)

-- k bytes hold a number below 256^k
pub byte_more : (k n b : ℕ) → n < 256 ^ k → b < 256 → b + 256 * n < 256 ^ (k + 1)
byte_more k n b h l =
    let e : 256 ^ (k + 1) ≡ 256 ^ k * 256 = ap (λ (j : ℕ). 256 ^ j) (add-one k) ∙ pow-suc 256 k in
    omega arith

-- eight bytes are 64 bits
pub bytes_fit : (k : ℕ) → k ≤ 8 → 256 ^ k ≤ 18446744073709551616
bytes_fit k h = pow-le-pow_right {n = 256} (omega arith) {i = k} {j = 8} h

-- a slice that the numbers are written over
pub all-numbers : (bytes : List ℕ) (at : ℕ) (d : List Float) (k : ℕ) {out : List Float} → k ≤ length d → length d ≤ k
    → out ≡ over d (singles k (λ j. number (at + 8 * j) bytes)) → out ≡ numbers at (length d) bytes
unfolding numbers
all-numbers bytes at d k h l e = singles-end d (λ j. number (at + 8 * j) bytes) k h l e

-- the same numbers
pub same_numbers : (bytes : List ℕ) {xs : List Float} {at at' count count' : ℕ} → xs ≡ numbers at count bytes → at ≡ at' → count ≡ count' → xs ≡ numbers at' count' bytes
same_numbers bytes e a c = e ∙ ap₂ (λ (i k : ℕ). numbers i k bytes) a c
