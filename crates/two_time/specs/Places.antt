-- Where entries stand, within the limits of N and n: every place lies in its function, every number on the way to it fits, and whether an entry is
-- there is asked by numbers that fit, N and n cut where they are past their limits anyway. Assumes nothing.
use Rattle.std.specs.Prelude.{Some, ◌≡◌, ◌+◌, ◌*◌, ◌≤◌, ◌<◌, ◌&&◌}
use Rattle.lists.specs.Prelude.{refl, ℕ, min, min-eq_left, le_trans, mul-le-mul_left, mul-le-mul_right}
use Rattle.lists.specs.Prelude.{mul_assoc, arith, digits_lt, leb, ltb, Bool, true, false, List, length, Float, leb-true, ltb-true, le-leb, lt-ltb}
use Rattle.lists.specs.Agreement.{both}
use Rattle.two_time.specs.Layout.{place, is_place, length_of, read_as, stored_at}

-- (t, u) is a place of a function with that stride, (a, b) an entry of its blocks, and both are within the limits of check 2
pub record Placed (stride orbitals t u a b : ℕ) : Type 0 where
  pub first : t < stride
  pub second : u < stride
  pub row : a < orbitals
  pub column : b < orbitals
  pub stride_most : stride ≤ 256
  pub orbitals-most : orbitals ≤ 16

-- another entry there
pub entry-placed : {stride orbitals t u a b : ℕ} (c d : ℕ) → Placed stride orbitals t u a b → c < orbitals → d < orbitals → Placed stride orbitals t u c d
entry-placed c d p hc hd =
    record { first = p.first; second = p.second; row = hc; column = hd; stride_most = p.stride_most; orbitals-most = p.orbitals-most }

-- what the test of a place says
pub is-placed : (stride orbitals t u a b : ℕ) → is_place stride orbitals t u a b ≡ true → Placed stride orbitals t u a b
unfolding is_place
is-placed stride orbitals t u a b h =
    let p = both (leb stride 256 && leb orbitals 16) ((ltb t stride && ltb u stride) && (ltb a orbitals && ltb b orbitals)) h in
    let l = both (leb stride 256) (leb orbitals 16) p.0 in
    let i = both (ltb t stride && ltb u stride) (ltb a orbitals && ltb b orbitals) p.1 in
    let times = both (ltb t stride) (ltb u stride) i.0 in
    let entry = both (ltb a orbitals) (ltb b orbitals) i.1 in
    record { first = ltb-true _ _ times.0; second = ltb-true _ _ times.1; row = ltb-true _ _ entry.0; column = ltb-true _ _ entry.1; stride_most = leb-true _ _ l.0; orbitals-most = leb-true _ _ l.1 }

-- and what passes it
pub placed-is : {stride orbitals t u a b : ℕ} → Placed stride orbitals t u a b → is_place stride orbitals t u a b ≡ true
unfolding is_place
placed-is p = rw (le-leb _ _ p.stride_most, le-leb _ _ p.orbitals-most, lt-ltb _ _ p.first, lt-ltb _ _ p.second, lt-ltb _ _ p.row, lt-ltb _ _ p.column)

-- a product of two numbers within limits
pub product-most : (x y : ℕ) {m n : ℕ} → x ≤ m → y ≤ n → x * y ≤ m * n
product-most x y {m} {n} hx hy = le_trans (mul-le-mul_right y hx) (mul-le-mul_left m hy)

-- the sizes on the way to a function's length
pub record Sized (stride orbitals : ℕ) : Type 0 where
  pub doubled : 2 * stride ≤ 512
  pub blocks : 2 * stride * stride ≤ 131072
  pub rows : 2 * stride * stride * orbitals ≤ 2097152
  pub all : length_of stride orbitals ≤ 33554432
  pub block : orbitals * orbitals ≤ 256
  pub places : stride * stride ≤ 65536

pub sized : (stride orbitals : ℕ) → stride ≤ 256 → orbitals ≤ 16 → Sized stride orbitals
sized stride orbitals hs ho =
    let doubled : 2 * stride ≤ 512 = omega arith in
    let blocks = product-most (2 * stride) stride doubled hs in
    let rows = product-most (2 * stride * stride) orbitals blocks ho in
    record {
      doubled = doubled;
      blocks = blocks;
      rows = rows;
      all = product-most (2 * stride * stride * orbitals) orbitals rows ho;
      block = product-most orbitals orbitals ho ho;
      places = product-most stride stride hs hs;
    }

-- the numbers on the way to a place, and the place itself
pub record Within (stride orbitals t u a b : ℕ) : Type 0 where
  pub row : t * stride ≤ 65536
  pub block : t * stride + u ≤ 65536
  pub block_row : (t * stride + u) * orbitals ≤ 1048576
  pub entry_row : ((t * stride + u) * orbitals + a) * orbitals ≤ 16777472
  pub inside : place stride orbitals t u a b + 1 < length_of stride orbitals

pub within : {stride orbitals t u a b : ℕ} → Placed stride orbitals t u a b → Within stride orbitals t u a b
within {stride} {orbitals} {t} {u} {a} {b} p =
    let block : t * stride + u < stride * stride = digits_lt p.first p.second in
    let entry_row : (t * stride + u) * orbitals + a < stride * stride * orbitals = digits_lt block p.row in
    let entry : ((t * stride + u) * orbitals + a) * orbitals + b < stride * stride * orbitals * orbitals = digits_lt entry_row p.column in
    let places = (sized stride orbitals p.stride_most p.orbitals-most).places in
    let rows = product-most (stride * stride) orbitals places p.orbitals-most in
    let all = product-most (stride * stride * orbitals) orbitals rows p.orbitals-most in
    let doubled : length_of stride orbitals ≡ 2 * (stride * stride * orbitals * orbitals) = simp mul_assoc in
    let First-Block = product-most (t * stride + u) orbitals {m = 65536} (omega arith) p.orbitals-most in
    record {
      row = omega arith;
      block = omega arith;
      block_row = First-Block;
      entry_row = product-most ((t * stride + u) * orbitals + a) orbitals {m = 1048592} (let l = p.row in let m = p.orbitals-most in omega arith) p.orbitals-most;
      inside = omega arith;
    }

-- ---- whether an entry is there

-- later flags count only where the first is set
pub and_agree : (x y y' : Bool) → (x ≡ true → y ≡ y') → x && y ≡ x && y'
and_agree true y y' h = h refl
and_agree false y y' h = refl

-- a function's length with N and n cut to their limits
pub cut-length : {stride n t u a b : ℕ} → Placed stride n t u a b → length_of (min stride 256) (min n 16) ≡ length_of stride n
cut-length p = rw (min-eq_left p.stride_most, min-eq_left p.orbitals-most)

pub within-asked : (stride n : ℕ) (xs : List Float) (t u a b : ℕ)
    → is_place stride n t u a b && leb (length_of (min stride 256) (min n 16)) (length xs) ≡ is_place stride n t u a b && leb (length_of stride n) (length xs)
within-asked stride n xs t u a b = and_agree _ _ _ (λ h. let p : Placed stride n t u a b = is-placed stride n t u a b h in rw (cut-length p))

-- an entry that is there
pub read-placed : {stride n t u a b : ℕ} (xs : List Float) → Placed stride n t u a b → length_of stride n ≤ length xs → stored_at stride n xs t u a b ≡ Some (read_as stride n xs t u a b)
unfolding stored_at
read-placed xs p l = rw (placed-is p, le-leb _ _ l)
