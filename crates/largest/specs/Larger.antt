-- The larger of two values (`f64::max`) does not depend on how three are grouped, and of a NaN and another it is the other. So a maximum
-- may begin at what was the largest before. Assumes nothing.
use Rattle.std.specs.Prelude.{◌≡◌, ◌||◌}
use Rattle.lists.specs.Prelude.{refl, sym, ap, ◌∙◌, subst, ⊎_elim, Bool, true, false, cond, ℕ, zero, suc, T, Float, nan, lt, ne, of_bits}
use Rattle.std.specs.Float.Ieee.Compare.{differs_from_itself}
use Rattle.lists.specs.Agreement.{never}
use Rattle.lists.specs.Indexed.{fold}
use Rattle.complex.specs.Arithmetic.{larger, plus_zero}
use Rattle.complex.specs.Sum.{largest_from, largest_in}
use Rattle.largest.specs.Order.{never_both-below, between, below_nan}

-- ---- of two

nan-first : (y : Float) → larger nan y ≡ y
unfolding larger ne
nan-first y = refl

by_test : (x y : Float) → ne x x ≡ false → larger x y ≡ cond (lt x y) y x
unfolding larger
by_test x y n = ap (λ (b : Bool). cond (b || lt x y) y x) n

pub second : (x y : Float) → ne x x ≡ false → lt x y ≡ true → larger x y ≡ y
second x y n h = by_test x y n ∙ ap (λ (b : Bool). cond b y x) h

pub first : (x y : Float) → ne x x ≡ false → lt x y ≡ false → larger x y ≡ x
first x y n h = by_test x y n ∙ ap (λ (b : Bool). cond b y x) h

-- ---- of three

-- where both steps go up the whole does, and where neither does it does not
below_both : (x y z : Float) → ne x x ≡ false → lt x y ≡ true → lt y z ≡ true → lt x z ≡ true
below_both x y z n a b = ⊎_elim (λ (h : lt y x ≡ true). absurd (never_both-below x y a h)) (λ (h : lt x z ≡ true). h) (between y x z n b)

below-neither : (x y z : Float) → ne y y ≡ false → lt x y ≡ false → lt y z ≡ false → lt x z ≡ true → {P : Type 0} → P
below-neither x y z n a b c = ⊎_elim (λ (h : lt x y ≡ true). never (sym a ∙ h)) (λ (h : lt y z ≡ true). never (sym b ∙ h)) (between x y z n c)

numbers : (x y z : Float) → ne x x ≡ false → ne y y ≡ false → larger (larger x y) z ≡ larger x (larger y z)
numbers x y z n k = go (lt x y) refl (lt y z) refl (lt x z) refl
  where
    go : (p : Bool) → lt x y ≡ p → (q : Bool) → lt y z ≡ q → (r : Bool) → lt x z ≡ r → larger (larger x y) z ≡ larger x (larger y z)
    go true a true b r c = rw (second x y n a, second y z k b, second x z n (below_both x y z n a b))
    go true a false b r c = rw (second x y n a, first y z k b, second x y n a)
    go false a true b r c = rw (first x y n a, second y z k b)
    go false a false b true c = below-neither x y z k a b c
    go false a false b false c = rw (first x y n a, first y z k b, first x y n a, first x z n c)

is_nan : (x : Float) → ne x x ≡ true → x ≡ nan
is_nan x e = differs_from_itself x (subst T (sym e) tt)

nan-second : (x : Float) → larger x nan ≡ x
nan-second x = go (ne x x) refl
  where
    go : (b : Bool) → ne x x ≡ b → larger x nan ≡ x
    go true a = rw (is_nan x a, nan-first nan)
    go false a = first x nan a (below_nan x)

pub grouped : (x y z : Float) → larger (larger x y) z ≡ larger x (larger y z)
grouped x y z = go (ne x x) refl (ne y y) refl
  where
    go : (p : Bool) → ne x x ≡ p → (q : Bool) → ne y y ≡ q → larger (larger x y) z ≡ larger x (larger y z)
    go true a q b = rw (is_nan x a, nan-first y, nan-first (larger y z))
    go false a true b = rw (is_nan y b, nan-second x, nan-first z)
    go false a false b = numbers x y z a b

-- ---- what a maximum from +0 comes to: a number that +0 does not raise

abbrev pub FromZero : Float → Type 0
FromZero m = larger m plus_zero ≡ m

pub zero-itself : FromZero plus_zero
unfolding larger ne lt of_bits
zero-itself = refl

zero_number : ne plus_zero plus_zero ≡ false
unfolding ne of_bits
zero_number = refl

number : (m : Float) → FromZero m → ne m m ≡ false
number m h = go (ne m m) refl
  where
    go : (b : Bool) → ne m m ≡ b → ne m m ≡ false
    go true a =
        let e : plus_zero ≡ m = sym (nan-first plus_zero) ∙ sym (ap (λ (x : Float). larger x plus_zero) (is_nan m a)) ∙ h in
        subst (λ (x : Float). ne x x ≡ false) e zero_number
    go false a = a

-- one more value does not change that
pub raised : (m x : Float) → FromZero m → FromZero (larger m x)
raised m x h = grouped m x plus_zero ∙ go (ne x x) refl (lt x plus_zero) refl (lt m x) refl
  where
    go : (p : Bool) → ne x x ≡ p → (q : Bool) → lt x plus_zero ≡ q → (r : Bool) → lt m x ≡ r → larger m (larger x plus_zero) ≡ larger m x
    go true a q b r c = rw (is_nan x a, nan-first plus_zero, nan-second m, h)
    go false a true b true c =
        let e : plus_zero ≡ m = sym (second m plus_zero (number m h) (below_both m x plus_zero (number m h) c b)) ∙ h in
        absurd (never_both-below m x c (subst (λ (y : Float). lt x y ≡ true) e b))
    go false a true b false c = rw (second x plus_zero a b, h, first m x (number m h) c)
    go false a false b r c = rw (first x plus_zero a b)

pub raised-from : (m : Float) (n : ℕ) (f : ℕ → Float) → FromZero m → FromZero (largest_from m n f)
unfolding largest_from fold
raised-from m zero f h = h
raised-from m (suc n) f h = raised (largest_from m n f) (f n) (raised-from m n f h)

pub raised_in : (rows columns : ℕ) (f : ℕ → ℕ → Float) → FromZero (largest_in rows columns f)
unfolding largest_in fold
raised_in zero columns f = zero-itself
raised_in (suc rows) columns f = raised-from (largest_in rows columns f) columns (f rows) (raised_in rows columns f)

-- ---- a maximum that goes on from m is the larger of m and that from +0

module _ (m : Float) where
  from-larger : (s : Float) (n : ℕ) (f : ℕ → Float) → largest_from (larger m s) n f ≡ larger m (largest_from s n f)
  unfolding largest_from fold
  from-larger s zero f = refl
  from-larger s (suc n) f = ap (λ (x : Float). larger x (f n)) (from-larger s n f) ∙ grouped m (largest_from s n f) (f n)

  abbrev rows_from : Float → ℕ → ℕ → (ℕ → ℕ → Float) → Float
  rows_from s rows columns f = fold rows (λ a l. largest_from l columns (f a)) s

  rows_from-larger : (s : Float) (rows columns : ℕ) (f : ℕ → ℕ → Float) → rows_from (larger m s) rows columns f ≡ larger m (rows_from s rows columns f)
  unfolding fold
  rows_from-larger s zero columns f = refl
  rows_from-larger s (suc rows) columns f =
      ap (λ (x : Float). largest_from x columns (f rows)) (rows_from-larger s rows columns f) ∙ from-larger (rows_from s rows columns f) columns (f rows)

-- by rows
module _ (m : Float) (h : FromZero m) (rows columns : ℕ) (f : ℕ → ℕ → Float) where
  pub rows-onward : fold rows (λ a l. largest_from l columns (f a)) m ≡ larger m (largest_in rows columns f)
  unfolding largest_in
  rows-onward = ap (λ (x : Float). fold rows (λ a l. largest_from l columns (f a)) x) (sym h) ∙ rows_from-larger m plus_zero rows columns f
