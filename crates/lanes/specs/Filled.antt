-- A loop that writes parts of one width, one after another, until one is not finite. Assumes nothing.
use Rattle.std.specs.Prelude.{◌≡◌, ◌&&◌, ◌++◌, ◌+◌, ◌-◌, ◌*◌, ◌≤◌, ◌<◌}
use Rattle.lists.specs.Prelude.{refl, sym, ap, ◌∙◌, Bool, true, false, List, append_assoc, append-nil, ℕ, zero, suc}
use Rattle.lists.specs.Prelude.{le_antisymm, add-zero, add-suc, arith, length, Float, put_mid}
use Rattle.lists.specs.Indexed.{all_below, join}
use Rattle.lists.specs.Agreement.{never}
use Rattle.lists.specs.Filling.{over, over_none, over-all, over-part}
use Rattle.lists.specs.Reading.{length-join}

-- ---- the first k parts, and m more

pub and-true : (x : Bool) → x && true ≡ x
and-true true = refl
and-true false = refl

and-false : (x : Bool) → x && false ≡ false
and-false true = refl
and-false false = refl

and_assoc : (x y z : Bool) → (x && y) && z ≡ x && (y && z)
and_assoc true y z = refl
and_assoc false y z = refl

module _ (k : ℕ) where
  pub join-add : {A : Type 0} (f : ℕ → List A) (m : ℕ) → join (k + m) f ≡ join k f ++ join m (λ c. f (k + c))
  unfolding join
  join-add f zero = rw add-zero (sym (append-nil (join k f)))
  join-add f (suc m) = rw (add-suc, join-add f m, append_assoc)

  pub all-add : (p : ℕ → Bool) (m : ℕ) → all_below (k + m) p ≡ all_below k p && all_below m (λ c. p (k + c))
  unfolding all_below
  all-add p zero = rw add-zero (sym (and-true (all_below k p)))
  all-add p (suc m) = rw (add-suc, all-add p m) (and_assoc (all_below k p) (all_below m (λ c. p (k + c))) (p (k + m)))

pub all_failed : (p : ℕ → Bool) (k m n : ℕ) → k + m ≤ n → all_below m (λ c. p (k + c)) ≡ false → all_below n p ≡ false
all_failed p k m n h e =
    let rest : ℕ = n - (k + m) in
    let at : n ≡ k + (m + rest) = omega arith in
    ap (λ (i : ℕ). all_below i p) at ∙ all-add k p (m + rest) ∙ ap (λ (x : Bool). all_below k p && x) (all-add m (λ c. p (k + c)) rest ∙ rw e) ∙ and-false (all_below k p)

-- ---- the loop

module _ (count : ℕ) (finite : ℕ → Bool) (part : ℕ → List Float) where
  -- k parts are finite and written
  pub record Filled (k : ℕ) (old new : List Float) : Type 0 where
    pub most : k ≤ count
    pub long : length new ≡ length old
    pub passed : all_below k finite ≡ true
    pub is : new ≡ over old (join k part)

  -- what the loop answers, and what it leaves where all are finite
  abbrev pub Answered : Bool → List Float → Type 0
  Answered r new = (r ≡ all_below count finite) × (r ≡ true → new ≡ join count part)

  pub filled_none : (xs : List Float) → Filled 0 xs xs
  unfolding all_below join
  filled_none xs = record { most = omega arith; long = refl; passed = refl; is = sym (over_none xs) }

  pub fails : (k m : ℕ) (new : List Float) → k + m ≤ count → all_below m (λ c. finite (k + c)) ≡ false → Answered false new
  fails k m new h e = (sym (all_failed finite k m count h e), λ g. never g)

  pub fails-one : (k : ℕ) (new : List Float) → k < count → finite k ≡ false → Answered false new
  unfolding all_below
  fails-one k new h e = fails k 1 new (omega arith) (ap finite (add-zero k) ∙ e)

  module _ (width : ℕ) (wide : (k : ℕ) → length (part k) ≡ width) (old : List Float) where
    long-parts : (k m : ℕ) → length (join m (λ c. part (k + c))) ≡ m * width
    long-parts k m = length-join m width (λ c. part (k + c)) (λ c h. wide (k + c))

    first-parts : (k : ℕ) → length (join k part) ≡ k * width
    first-parts k = length-join k width part (λ c h. wide c)

    -- m more parts, in their place
    pub filled_more : (k m w : ℕ) (mid ys : List Float) → Filled k old mid → k + m ≤ count → all_below m (λ c. finite (k + c)) ≡ true → ys ≡ join m (λ c. part (k + c)) → w ≡ m * width
        → length (put_mid (k * width) w mid ys) ≡ length mid → Filled (k + m) old (put_mid (k * width) w mid ys)
    filled_more k m w mid ys f h p e ew l =
        record {
          most = h;
          long = l ∙ f.long;
          passed = all-add k finite m ∙ rw f.passed p;
          is = rw (f.is, e, join-add k part m) (over-part old (join k part) (join m (λ c. part (k + c))) (k * width) w (first-parts k) (long-parts k m ∙ sym ew));
        }

    pub filled_next : (k w : ℕ) (mid ys : List Float) → Filled k old mid → k < count → finite k ≡ true → ys ≡ part k → w ≡ width
        → length (put_mid (k * width) w mid ys) ≡ length mid → Filled (k + 1) old (put_mid (k * width) w mid ys)
    unfolding all_below join
    filled_next k w mid ys f h p e ew l = filled_more k 1 w mid ys f (omega arith) (ap finite (add-zero k) ∙ p) (e ∙ ap part (sym (add-zero k))) (omega (arith, ew)) l

    -- at the end
    pub filled-all : (k : ℕ) (new : List Float) → Filled k old new → count ≤ k → length old ≡ count * width → Answered true new
    filled-all k new f h long =
        let e : k ≡ count = le_antisymm f.most h in
        (sym (ap (λ (i : ℕ). all_below i finite) (sym e) ∙ f.passed), λ g. f.is ∙ ap (λ (i : ℕ). over old (join i part)) e ∙ over-all old (join count part) (first-parts count ∙ sym long))
