-- Two values, lists or tests that are built by steps which agree below n are equal, and a test of all is a test of each. Assumes nothing.
use Rattle.std.specs.Prelude.{◌≡◌, ◌&&◌, ◌||◌, ◌<◌}
use Rattle.lists.specs.Prelude.{refl, sym, Bool, true, false, cond, List, ℕ, zero, suc, ⊎_elim, le_refl, le_of_suc-le-suc, eq-or-lt_of_le, arith}
use Rattle.lists.specs.Indexed.{fold, join, all_below}

pub never : {P : Type 0} → false ≡ true → P
never e = absurd (let z : ◌≡◌ {A = ℕ} 0 1 = cc in omega arith)

pub fold_agree : {A : Type 0} (n : ℕ) (f g : ℕ → A → A) (x y : A) → x ≡ y → ((k : ℕ) → k < n → (z : A) → f k z ≡ g k z) → fold n f x ≡ fold n g y
unfolding fold
fold_agree zero f g x y e h = e
fold_agree (suc n) f g x y e h = rw (fold_agree n f g x y e (λ k l. h k (omega arith)), h n (le_refl (suc n)))

pub join_agree : {A : Type 0} (n : ℕ) (f g : ℕ → List A) → ((k : ℕ) → k < n → f k ≡ g k) → join n f ≡ join n g
unfolding join
join_agree zero f g h = refl
join_agree (suc n) f g h = rw (join_agree n f g (λ k l. h k (omega arith)), h n (le_refl (suc n)))

pub all_agree : (n : ℕ) (p q : ℕ → Bool) → ((k : ℕ) → k < n → p k ≡ q k) → all_below n p ≡ all_below n q
unfolding all_below
all_agree zero p q h = refl
all_agree (suc n) p q h = rw (all_agree n p q (λ k l. h k (omega arith)), h n (le_refl (suc n)))

-- two flags that are both set
pub both : (x y : Bool) → x && y ≡ true → (x ≡ true) × (y ≡ true)
both true y h = (refl, h)
both false y h = never h

-- two flags of which neither is
pub neither : (x y : Bool) → x || y ≡ false → (x ≡ false) × (y ≡ false)
neither true y h = never (sym h)
neither false y h = (refl, h)

-- of two flags of which one is set, the second where the first is not
pub other : (x y : Bool) → x || y ≡ true → x ≡ false → y ≡ true
other true y h e = never (sym e)
other false y h e = h

-- a choice, each side under its own test
pub cond_agree : {X : Type 0} (b : Bool) (x x' y y' : X) → (b ≡ true → x ≡ x') → (b ≡ false → y ≡ y') → cond b x y ≡ cond b x' y'
cond_agree true x x' y y' p q = p refl
cond_agree false x x' y y' p q = q refl

-- what holds of all below n holds of each, and back
pub all-each : (n : ℕ) (p : ℕ → Bool) → all_below n p ≡ true → (k : ℕ) → k < n → p k ≡ true
unfolding all_below
all-each zero p h k l = absurd (omega arith)
all-each (suc n) p h k l =
    let parts = both (all_below n p) (p n) h in
    ⊎_elim (λ e. rw e parts.1) (λ less. all-each n p parts.0 k less) (eq-or-lt_of_le (le_of_suc-le-suc l))

pub each_all : (n : ℕ) (p : ℕ → Bool) → ((k : ℕ) → k < n → p k ≡ true) → all_below n p ≡ true
unfolding all_below
each_all zero p h = refl
each_all (suc n) p h = rw (each_all n p (λ k l. h k (omega arith)), h n (le_refl (suc n)))
