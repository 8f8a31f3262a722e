-- One more step of each recursion of specs/Indexed, at the code's `k + 1`, and one loop in place of two, one in the other. Assumes nothing.
use Rattle.std.specs.Prelude.{◌≡◌, ◌&&◌, ◌++◌, ◌+◌, ◌*◌, ◌/◌, ◌%◌}
use Rattle.lists.specs.Prelude.{refl, Bool, true, false, List, [], append_assoc, append-nil, ℕ, zero, suc, add-one, add-zero}
use Rattle.lists.specs.Prelude.{add-suc, zero-mul, suc-mul, digits_div, digits_mod, sym, ap, ◌∙◌, arith}
use Rattle.std.specs.List.{list_all, range_with_len}
use Rattle.lists.specs.Indexed.{fold, join, all_below}
use Rattle.lists.specs.Agreement.{join_agree, all_agree}

module _ {A : Type 0} (k : ℕ) where
  pub join_more : (f : ℕ → List A) → join (k + 1) f ≡ join k f ++ f k
  unfolding join
  join_more f = rw add-one

  pub fold_more : (f : ℕ → A → A) (x : A) → fold (k + 1) f x ≡ f k (fold k f x)
  unfolding fold
  fold_more f x = rw add-one

pub all_more : (k : ℕ) (p : ℕ → Bool) → all_below (k + 1) p ≡ all_below k p && p k
unfolding all_below
all_more k p = rw add-one

pub fold-none : {A : Type 0} (f : ℕ → A → A) (x : A) → fold 0 f x ≡ x
unfolding fold
fold-none f x = refl

pub all_none : (p : ℕ → Bool) → all_below 0 p ≡ true
unfolding all_below
all_none p = refl

module _ {A : Type 0} where
  pub join-add : (n m : ℕ) (f : ℕ → List A) → join (n + m) f ≡ join n f ++ join m (λ k. f (n + k))
  unfolding join
  join-add n zero f = rw (add-zero, append-nil)
  join-add n (suc m) f = rw (add-suc, join-add n m f, append_assoc)

  -- over all places of n rows of m
  pub join_flat : (n m : ℕ) (g : ℕ → ℕ → List A) → join (n * m) (λ p. g (p / m) (p % m)) ≡ join n (λ i. join m (g i))
  unfolding join
  join_flat zero m g = rw zero-mul
  join_flat (suc n) m g =
      rw (
        suc-mul,
        join-add (n * m) m (λ p. g (p / m) (p % m)),
        join_flat n m g,
        join_agree m (λ k. g ((n * m + k) / m) ((n * m + k) % m)) (g n) (λ k l. rw (digits_div n l, digits_mod n l)),
      )

and_assoc : (x y z : Bool) → (x && y) && z ≡ x && (y && z)
and_assoc true y z = refl
and_assoc false y z = refl

and-true : (x : Bool) → x && true ≡ x
and-true true = refl
and-true false = refl

pub all-add : (n m : ℕ) (f : ℕ → Bool) → all_below (n + m) f ≡ all_below n f && all_below m (λ k. f (n + k))
unfolding all_below
all-add n zero f = rw (add-zero, and-true)
all-add n (suc m) f = rw (add-suc, all-add n m f, and_assoc)

pub all_flat : (n m : ℕ) (g : ℕ → ℕ → Bool) → all_below (n * m) (λ p. g (p / m) (p % m)) ≡ all_below n (λ i. all_below m (g i))
unfolding all_below
all_flat zero m g = rw zero-mul
all_flat (suc n) m g =
    rw (
      suc-mul,
      all-add (n * m) m (λ p. g (p / m) (p % m)),
      all_flat n m g,
      all_agree m (λ k. g ((n * m + k) / m) ((n * m + k) % m)) (g n) (λ k l. rw (digits_div n l, digits_mod n l)),
    )

-- a test of each number of a range, as an iterator's `all` makes it
listed : (p : ℕ → Bool) (a n : ℕ) → list_all p (range_with_len a n) ≡ all_below n (λ k. p (a + k))
unfolding all_below
listed p a zero = refl
listed p a (suc n) =
    let q : ℕ → Bool = λ k. p (a + k) in
    let first : ◌≡◌ {A = ℕ} (suc n) (1 + n) = omega arith in
    sym
    (ap (λ (m : ℕ). all_below m q) first ∙ all-add 1 n q
    ∙ rw (add-zero, listed p (a + 1) n, all_agree n (λ k. p (a + (1 + k))) (λ k. p (a + 1 + k)) (λ k l. ap p (omega arith))))

pub all-listed : (p : ℕ → Bool) (n : ℕ) → list_all p (range_with_len 0 n) ≡ all_below n p
all-listed p n = listed p 0 n ∙ all_agree n (λ k. p (0 + k)) p (λ k l. ap p (omega arith))
