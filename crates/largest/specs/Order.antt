-- The order of all binary64 values: none is both below another and at least it, and where one is below another any number is above the
-- first or below the second. Assumes nothing.
use Rattle.std.specs.Prelude.{◌≡◌, ◌⊎◌, ◌||◌, ◌+◌, ◌*◌, ◌≤◌, ◌<◌, ◌≢◌}
use Rattle.lists.specs.Prelude.{refl, sym, ap, ◌∙◌, subst, inl, inr, ⊎_elim, ⊎_map, Bool, true, false, ℕ, zero-le, lt_of_le_of_lt}
use Rattle.lists.specs.Prelude.{lt_of_not-le, not-le_of_lt, eq-zero-or-pos, mul-pos, zero-mul, dec_le, arith, T, eqb, ltb→lt, eqb→eq, Float, nan, inf, fin, up, down, lt}
use Rattle.lists.specs.Prelude.{le, eq, ne, below, level, ltb-true, lt-ltb}
use Rattle.std.specs.Float.Ieee.Compare.{differs_from_itself}
use Rattle.std.specs.Float.Ieee.Fits.{down_pos, and_l, and_r}
use Rattle.std.specs.Float.Ieee.Positive.{first_pos, through}
use Rattle.lists.specs.Agreement.{never}

-- ---- never below and at least

pub never_both : (x y : Float) → lt x y ≡ true → T (le y x) → ⊥
unfolding lt le
never_both nan y h k = never h
never_both (inf s) nan h k = never h
never_both (inf true) (inf true) h k = never h
never_both (inf true) (inf false) h k = k
never_both (inf false) (inf t) h k = never h
never_both (inf true) (fin t n d) h k = k
never_both (inf false) (fin t n d) h k = never h
never_both (fin s m e) nan h k = never h
never_both (fin s m e) (inf true) h k = never h
never_both (fin s m e) (inf false) h k = k
never_both (fin s m e) (fin t n d) h k =
    let a = m * up e * down d in
    let b = n * up d * down e in
    signed s t a b h (or_split (below t b s a) (level t b s a) k)
  where
    or_split : (a b : Bool) → T (a || b) → T a ⊎ T b
    or_split true b t = inl tt
    or_split false b t = inr t

    signed : (s t : Bool) (a b : ℕ) → below s a t b ≡ true → T (below t b s a) ⊎ T (level t b s a) → ⊥
    signed false false a b h (inl k) = omega (arith, ltb-true a b h, ltb→lt b a k)
    signed false false a b h (inr k) = omega (arith, ltb-true a b h, eqb→eq b a (and_l (eqb b a) true k))
    signed false true a b h k = never h
    signed true false a b h (inl k) = k
    signed true false a b h (inr k) = omega (arith, ltb-true 0 (a + b) h, eqb→eq b a (and_l (eqb b a) (eqb b 0) k), eqb→eq b 0 (and_r (eqb b a) (eqb b 0) k))
    signed true true a b h (inl k) = omega (arith, ltb-true b a h, ltb→lt a b k)
    signed true true a b h (inr k) = omega (arith, ltb-true b a h, eqb→eq b a (and_l (eqb b a) true k))

pub never_both-below : (x y : Float) → lt x y ≡ true → lt y x ≢ true
unfolding le
never_both-below x y h k = never_both x y h (first (lt y x) (eq y x) k)
  where
    first : (a b : Bool) → a ≡ true → T (a || b)
    first true b e = tt
    first false b e = never e

-- ---- below one of two

-- of fractions: where x/p is below z/r, y/q is above x/p or below z/r
module _ (x p y q z r : ℕ) (P : 0 < p) (Q : 0 < q) (R : 0 < r) where
  fractions : x * r < z * p → (x * q < y * p) ⊎ (y * r < z * q)
  fractions h = go (dec_le (y * p) (x * q)) (dec_le (z * q) (y * r))
    where
      go : Dec (y * p ≤ x * q) → Dec (z * q ≤ y * r) → (x * q < y * p) ⊎ (y * r < z * q)
      go (no a) b = inl (lt_of_not-le a)
      go (yes a) (no b) = inr (lt_of_not-le b)
      go (yes a) (yes b) = absurd (not-le_of_lt h (through z y x r q p Q b a))

  above_zero : x * r < z * p → 0 < y * r + z * q
  above_zero h = let k : 0 < z * q = mul-pos (first_pos z p (lt_of_le_of_lt zero-le h)) Q in omega arith

  -- the same of -x/p and z/r, with a y/q that is not negative
  opposite : 0 < x * r + z * p → (0 < x * q + y * p) ⊎ (y * r < z * q)
  opposite h = go (eq-zero-or-pos x) (eq-zero-or-pos y)
    where
      go : (x ≡ 0) ⊎ (0 < x) → (y ≡ 0) ⊎ (0 < y) → (0 < x * q + y * p) ⊎ (y * r < z * q)
      go (inr a) b = inl (let k : 0 < x * q = mul-pos a Q in omega arith)
      go (inl a) (inr b) = inl (let k : 0 < y * p = mul-pos b P in omega arith)
      go (inl a) (inl b) =
          let u : x * r ≡ 0 = ap (λ (n : ℕ). n * r) a ∙ zero-mul r in
          let v : y * r ≡ 0 = ap (λ (n : ℕ). n * r) b ∙ zero-mul r in
          let k : 0 < z * q = mul-pos (first_pos z p (omega arith)) Q in
          inr (omega arith)

-- with signs
module _ (x p y q z r : ℕ) (P : 0 < p) (Q : 0 < q) (R : 0 < r) where
  abbrev Either : Bool → Bool → Bool → Type 0
  Either s t u = (below s (x * q) t (y * p) ≡ true) ⊎ (below t (y * r) u (z * q) ≡ true)

  signed : (s t u : Bool) → below s (x * r) u (z * p) ≡ true → Either s t u
  signed false false false h = ⊎_map (lt-ltb (x * q) (y * p)) (lt-ltb (y * r) (z * q)) (fractions x p y q z r P Q R (ltb-true (x * r) (z * p) h))
  signed false true false h = inr (lt-ltb 0 (y * r + z * q) (above_zero x p y q z r P Q R (ltb-true (x * r) (z * p) h)))
  signed false t true h = never h
  signed true false false h = ⊎_map (lt-ltb 0 (x * q + y * p)) (lt-ltb (y * r) (z * q)) (opposite x p y q z r P Q R (ltb-true 0 (x * r + z * p) h))
  signed true false true h = inl (lt-ltb 0 (x * q + y * p) (omega (arith, above_zero z r y q x p R Q P (ltb-true (z * p) (x * r) h))))
  signed true true false h = ⊎_elim (λ k. inr (lt-ltb 0 (y * r + z * q) (omega arith))) (λ k. inl (lt-ltb (y * p) (x * q) k)) (opposite z r y q x p R Q P (omega (arith, ltb-true 0 (x * r + z * p) h)))
  signed true true true h = ⊎_elim (λ k. inr (lt-ltb (z * q) (y * r) k)) (λ k. inl (lt-ltb (y * p) (x * q) k)) (fractions z r y q x p R Q P (ltb-true (z * p) (x * r) h))

infinity-below : {P : Type 0} (z : Float) → lt (inf false) z ≡ true → P
unfolding lt
infinity-below nan h = never h
infinity-below (inf s) h = never h
infinity-below (fin s m e) h = never h

-- where x is below z, any number y is above x or below z
pub between : (x y z : Float) → ne y y ≡ false → lt x z ≡ true → (lt x y ≡ true) ⊎ (lt y z ≡ true)
unfolding lt ne
between nan y z n h = never h
between (inf true) nan z n h = never (sym n)
between (inf true) (inf true) z n h = inr h
between (inf true) (inf false) z n h = inl refl
between (inf true) (fin t m e) z n h = inl refl
between (inf false) y z n h = infinity-below z h
between (fin s m e) nan z n h = never (sym n)
between (fin s m e) (inf true) nan n h = never h
between (fin s m e) (inf true) (inf true) n h = never h
between (fin s m e) (inf true) (inf false) n h = inr refl
between (fin s m e) (inf true) (fin u m'' e'') n h = inr refl
between (fin s m e) (inf false) z n h = inl refl
between (fin s m e) (fin t m' e') nan n h = never h
between (fin s m e) (fin t m' e') (inf true) n h = never h
between (fin s m e) (fin t m' e') (inf false) n h = inr refl
between (fin s m e) (fin t m' e') (fin u m'' e'') n h =
    signed (m * up e) (down e) (m' * up e') (down e') (m'' * up e'') (down e'') (down_pos e) (down_pos e') (down_pos e'') s t u h

at-most-nan : (x : Float) → T (le x nan) → ⊥
unfolding le
at-most-nan nan h = h
at-most-nan (inf s) h = h
at-most-nan (fin s m e) h = h

-- nothing is at most a NaN, and what is no NaN equals itself
pub number_at-least : (x y : Float) → T (le x y) → ne y y ≡ false
number_at-least x y h = go (ne y y) (differs_from_itself y)
  where
    go : (b : Bool) → (T b → y ≡ nan) → b ≡ false
    go true e = absurd (at-most-nan x (subst (λ (z : Float). T (le x z)) (e tt) h))
    go false e = refl

-- what is not above a number is not above a larger one
pub not-above : (x y z : Float) → T (le x y) → (lt z y ≢ true) → lt z x ≢ true
not-above x y z h k l = ⊎_elim k (λ (m : lt y x ≡ true). never_both y x m h) (between z y x (number_at-least x y h) l)

-- nothing is below a NaN
pub below_nan : (x : Float) → lt x nan ≡ false
unfolding lt
below_nan nan = refl
below_nan (inf s) = refl
below_nan (fin s m e) = refl
