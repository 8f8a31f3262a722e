-- An exponent is an `i16` that stands for a natural number below 2^15. The code holds it by its bits; its sums, differences and tests are those of the
-- natural numbers. Assumes nothing.
use Rattle.std.specs.Prelude.{◌≡◌, ◌+◌, ◌-◌, ◌^◌, ◌≤◌, ◌<◌}
use Rattle.lists.specs.Prelude.{sym, ap, ◌∙◌, ℕ, zero, suc, le_trans, lt_of_le_of_lt, arith, T, lt-ltb, le-ltb, ℤ, pos}
use Rattle.std.proofs.Common.{◌+ℤ◌, ◌-ℤ◌, nat_abs, w16, w64, Fits, SFits, to_z, of_z}
use lib.Signed.{mag, non_neg}
use Rattle.norm.specs.Parts.{UpTo}

-- what the bits of k say
abbrev pub held : ℤ → ℤ
held k = to_z w16 (of_z w16 k)

pub bits_say : (n : ℕ) → n < 2 ^ 15 → to_z w16 n ≡ pos n
bits_say n h = rw (lt-ltb n (2 ^ 15) h)

pub held-is : (k : ℤ) {n : ℕ} → k ≡ pos n → n < 2 ^ 15 → held k ≡ pos n
held-is k {n = n} e h = ap held e ∙ bits_say n h

-- a number that is known is one up to its bound
pub up_to : {most : ℕ} {k : ℤ} (n : ℕ) → k ≡ pos n → n ≤ most → UpTo most k
up_to n e h = (e ∙ ap pos (sym (ap mag e)), lt_of_le (ap mag e) h)
  where
    lt_of_le : {m n most : ℕ} → m ≡ n → n ≤ most → m ≤ most
    lt_of_le e h = omega arith

-- an exponent up to a bound that fits, as its bits say it
pub held-up_to : {most : ℕ} (k : ℤ) → UpTo most k → most < 2 ^ 15 → held k ≡ pos (mag k)
held-up_to k u h = held-is k u.0 (lt_of_le_of_lt u.1 h)

-- so it is passed on as it is
pub kept : {most : ℕ} (k : ℤ) → UpTo most k → most < 2 ^ 15 → held k ≡ k
kept k u h = held-up_to k u h ∙ sym u.0

pub same : {most : ℕ} (k : ℤ) → UpTo most k → most < 2 ^ 15 → mag (held k) ≡ mag k
same k u h = ap mag (kept k u h)

pub passed : {most limit : ℕ} (k : ℤ) → UpTo most k → most ≤ limit → limit < 2 ^ 15 → UpTo limit (held k)
passed k u l h = up_to (mag k) (held-up_to k u (lt_of_le_of_lt l h)) (le_trans u.1 l)

-- z fits, and the code holds n
abbrev pub Made : ℤ → ℕ → Type 0
Made z n = SFits w16 z × (held z ≡ pos n)

-- sums and differences
pub plus : (x y : ℤ) (a b : ℕ) → x ≡ pos a → y ≡ pos b → a + b < 2 ^ 15 → Made (x +ℤ y) (a + b)
plus x y a b e f h = rw (e, f) (record { sfits = h }, bits_say (a + b) h)

difference : (a b : ℕ) → b ≤ a → pos a -ℤ pos b ≡ pos (a - b)
difference a zero h = ap pos (omega arith)
difference a (suc b) h = rw (le-ltb a (suc b) h)

pub minus : (x y : ℤ) (a b : ℕ) → x ≡ pos a → y ≡ pos b → b ≤ a → a < 2 ^ 15 → Made (x -ℤ y) (a - b)
minus x y a b e f h l =
    rw (e, f, difference a b h) (record { sfits = lt_of_le_of_lt less l }, bits_say (a - b) (lt_of_le_of_lt less l))
  where
    less : a - b ≤ a
    less = omega arith

-- the word of one
pub word : (x : ℤ) (n : ℕ) → x ≡ pos n → n < 2 ^ 15 → T (non_neg x) × Fits w64 (nat_abs x)
word x n e h = rw e (tt, record { fits = omega arith })
