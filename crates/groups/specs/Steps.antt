-- A loop over the groups of a row: where the next group stands, and how many places it has. Assumes nothing.
use Rattle.std.specs.Prelude.{◌≡◌, ◌+◌, ◌-◌, ◌*◌, ◌/◌, ◌≤◌, ◌<◌}
use Rattle.lists.specs.Prelude.{List, Float, length, length-append, length-take, length-drop, mid_of, put_mid, ℕ, min, mul-le-mul_right, add-mul, le-div_iff_mul-le, div-le_self, div-mul-le_self, arith}
use Rattle.two_time.specs.Places.{product-most}
use Rattle.groups.specs.Groups.{Grouped}

-- m places from place p of `count` places on, of which the first is in column `from`; the slice of all has `len` numbers
pub record Part (capacity n t from count p m len : ℕ) : Type 0 where
  pub there : Grouped capacity n t (from + p) m
  pub inside : p + m ≤ count
  pub room : p * (2 * (n * n)) + m * (2 * (n * n)) ≤ len
  pub all : len ≤ 131072

pub part_of : (capacity n t from count p m len : ℕ) → t < capacity → from + count ≤ capacity → p < count → 0 < m → m ≤ count - p → m ≤ 16 → m * n ≤ 16 → capacity ≤ 256 → n ≤ 16 → len ≡ count * (2 * (n * n))
    → Part capacity n t from count p m len
part_of capacity n t from count p m len ht fits h some fit most few hp hn long =
    let w = 2 * (n * n) in
    let within : p + m ≤ count = omega arith in
    let block : n * n ≤ 256 = product-most n n hn hn in
    record {
      there = record { points-most = hp; orbitals-most = hn; row = ht; first = omega arith; some = some; most = most; fit = omega arith; few = few };
      inside = within;
      room = omega (arith, mul-le-mul_right w within, add-mul p m w);
      all = omega (arith, product-most count w (let c : count ≤ 256 = omega arith in c) (let l : w ≤ 512 = omega arith in l));
    }

-- as many places as are left, at most 16 columns
pub few-places : (n rest m : ℕ) → 0 < n → n ≤ 16 → 0 < rest → m ≡ min rest (16 / n) → (0 < m) × (m ≤ rest) × (m ≤ 16) × (m * n ≤ 16)
few-places n rest m some most left e =
    let one : 0 < 16 / n = (le-div_iff_mul-le {k = n} {x = 1} {y = 16} some).1 (omega arith) in
    let all = div-le_self 16 n in
    let few : m ≤ 16 / n = omega arith in
    (omega arith, omega arith, omega arith, omega (arith, mul-le-mul_right n few, div-mul-le_self 16 n))

-- a part of a slice is written by as many numbers as it has
pub put_long : (a k : ℕ) (xs ys : List Float) → a + k ≤ length xs → length ys ≡ length (mid_of a k xs) → length (put_mid a k xs ys) ≡ length xs
put_long a k xs ys h e =
    let l : length (mid_of a k xs) ≡ k = simp (length-take, length-drop) (omega (arith, h)) in
    simp (length-append, length-take, length-drop) (omega (arith, e, l, h))
