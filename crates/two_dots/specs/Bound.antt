-- Two blocks by one split of the orbitals: within the first group equal where both are finite, across it zeros of either sign where finite,
-- within the second group free. +0, sum, scaling, conjugation and product keep that, so every sum over times does. Nothing is asked to be finite: 0 times
-- infinity is no zero, and what check 10 refuses says nothing. Assumes nothing.
use Rattle.std.specs.Prelude.{◌≡◌, ◌⊎◌, ◌+◌, ◌<◌}
use Rattle.lists.specs.Prelude.{refl, sym, ap, ap₂, ◌∙◌, inl, inr, Bool, true, false, ℕ, zero, suc, arith}
use Rattle.lists.specs.Indexed.{fold}
use Rattle.lists.specs.Agreement.{never}
use Rattle.complex.specs.declared.Complex.{Complex}
use Rattle.complex.specs.Arithmetic.{czero, cadd, cmul, conj, cfinite}
use Rattle.complex.specs.Sum.{sum_from}
use Rattle.complex.specs.Finite.{cadd-finite, cmul-finite, conj-finite}
use Rattle.complex.specs.Zeros.{Zeros, zero-zeros, cadd-zeros, cmul-zeros-left, cmul-zeros-right, conj-zeros}
use Rattle.complex.specs.MinusZero.{HeldParts, NoMinusZero, cmul-held, sum-never-minus-zero, cadd-nothing}
use Rattle.block.specs.Block.{Entries}
use Rattle.block.specs.Operations.{product}
use Rattle.two_time.specs.Relation.{Relation, Related, Kept}
use Rattle.two_dots.specs.Statement.{Split, ZeroAcross, SameFirst}

-- zeros of either sign, if finite: 0 times infinity is no zero
abbrev pub Nil : Complex → Type 0
Nil z = cfinite z ≡ true → Zeros z

-- two numbers at a row and a column, each in the first group (true) or the second
abbrev pub Bound : Bool → Bool → Complex → Complex → Type 0
Bound true true z z' = cfinite z ≡ true → cfinite z' ≡ true → z ≡ z'
Bound true false z z' = Nil z × Nil z'
Bound false true z z' = Nil z × Nil z'
Bound false false z z' = Unit

-- ---- what is nil

pub nil-zero : Nil czero
nil-zero f = zero-zeros

nil-add : (x y : Complex) → Nil x → Nil y → Nil (cadd x y)
nil-add x y h e f = let s = cadd-finite x y f in cadd-zeros x y (h s.0) (e s.1)

nil-left : (x y : Complex) → Nil x → Nil (cmul x y)
nil-left x y h f = let s = cmul-finite x y f in cmul-zeros-left x y (h s.0) s.1

nil-right : (x y : Complex) → Nil y → Nil (cmul x y)
nil-right x y h f = let s = cmul-finite x y f in cmul-zeros-right x y s.0 (h s.1)

nil-conj : (x : Complex) → Nil x → Nil (conj x)
nil-conj x h f = conj-zeros x (h (sym (conj-finite x) ∙ f))

-- a sum from +0 of what is nil is +0
nil-sum : (f : ℕ → Complex) (k : ℕ) → ((i : ℕ) → i < k → HeldParts (f i) × Nil (f i)) → cfinite (sum_from czero f 0 k) ≡ true → sum_from czero f 0 k ≡ czero
unfolding sum_from fold
nil-sum f zero h fin = refl
nil-sum f (suc k) h fin =
    let s = cadd-finite (sum_from czero f 0 k) (f (0 + k)) fin in
    cadd-nothing (sum_from czero f 0 k) (f (0 + k)) (sum-never-minus-zero f 0 k (λ i l. (h (0 + i) (omega arith)).0)) ((h (0 + k) (omega arith)).1 s.1)
    ∙ nil-sum f k (λ i l. h i (omega arith)) s.0

-- ---- one operation

pub bound_zero : (p q : Bool) → Bound p q czero czero
bound_zero true true = λ f f'. refl
bound_zero true false = (nil-zero, nil-zero)
bound_zero false true = (nil-zero, nil-zero)
bound_zero false false = tt

bound_add : (p q : Bool) (x x' y y' : Complex) → Bound p q x x' → Bound p q y y' → Bound p q (cadd x y) (cadd x' y')
bound_add true true x x' y y' h e = λ f f'. let s = cadd-finite x y f in let s' = cadd-finite x' y' f' in ap₂ cadd (h s.0 s'.0) (e s.1 s'.1)
bound_add true false x x' y y' h e = (nil-add x y h.0 e.0, nil-add x' y' h.1 e.1)
bound_add false true x x' y y' h e = (nil-add x y h.0 e.0, nil-add x' y' h.1 e.1)
bound_add false false x x' y y' h e = tt

bound_scale : (p q : Bool) (w x x' : Complex) → Bound p q x x' → Bound p q (cmul x w) (cmul x' w)
bound_scale true true w x x' h = λ f f'. ap (λ (z : Complex). cmul z w) (h (cmul-finite x w f).0 (cmul-finite x' w f').0)
bound_scale true false w x x' h = (nil-left x w h.0, nil-left x' w h.1)
bound_scale false true w x x' h = (nil-left x w h.0, nil-left x' w h.1)
bound_scale false false w x x' h = tt

pub bound_conj : (p q : Bool) (x x' : Complex) → Bound p q x x' → Bound q p (conj x) (conj x')
bound_conj true true x x' h = λ f f'. ap conj (h (sym (conj-finite x) ∙ f) (sym (conj-finite x') ∙ f'))
bound_conj true false x x' h = (nil-conj x h.0, nil-conj x' h.1)
bound_conj false true x x' h = (nil-conj x h.0, nil-conj x' h.1)
bound_conj false false x x' h = tt

pub bound_flip : (p q : Bool) (x x' : Complex) → Bound p q x x' → Bound p q x' x
bound_flip true true x x' h = λ f f'. sym (h f' f)
bound_flip true false x x' h = (h.1, h.0)
bound_flip false true x x' h = (h.1, h.0)
bound_flip false false x x' h = tt

-- ---- products

-- a term of a product: within the first group it may pass through the second, and is then nil in both
abbrev Loose : Bool → Bool → Complex → Complex → Type 0
Loose true true z z' = Bound true true z z' ⊎ (Nil z × Nil z')
Loose true false z z' = Nil z × Nil z'
Loose false true z z' = Nil z × Nil z'
Loose false false z z' = Unit

module _ (x x' y y' : Complex) where
  by_left : Nil x × Nil x' → Nil (cmul x y) × Nil (cmul x' y')
  by_left h = (nil-left x y h.0, nil-left x' y' h.1)

  by_right : Nil y × Nil y' → Nil (cmul x y) × Nil (cmul x' y')
  by_right h = (nil-right x y h.0, nil-right x' y' h.1)

  -- c is the group of the orbital between
  term : (p c q : Bool) → Bound p c x x' → Bound c q y y' → Loose p q (cmul x y) (cmul x' y')
  term true true true h e = inl (λ f f'. let s = cmul-finite x y f in let s' = cmul-finite x' y' f' in ap₂ cmul (h s.0 s'.0) (e s.1 s'.1))
  term true false true h e = inr (by_left h)
  term true true false h e = by_right e
  term true false false h e = by_left h
  term false true true h e = by_left h
  term false false true h e = by_right e
  term false c false h e = tt

add_loose : (p q : Bool) (z z' y y' : Complex) → NoMinusZero z → NoMinusZero z' → Bound p q z z' → Loose p q y y' → Bound p q (cadd z y) (cadd z' y')
add_loose true true z z' y y' c c' h (inl e) = bound_add true true z z' y y' h e
add_loose true true z z' y y' c c' h (inr e) =
    λ f f'. let s = cadd-finite z y f in let s' = cadd-finite z' y' f' in
    cadd-nothing z y c (e.0 s.1) ∙ h s.0 s'.0 ∙ sym (cadd-nothing z' y' c' (e.1 s'.1))
add_loose true false z z' y y' c c' h e = bound_add true false z z' y y' h e
add_loose false true z z' y y' c c' h e = bound_add false true z z' y y' h e
add_loose false false z z' y y' c c' h e = tt

sum_loose : (p q : Bool) (f f' : ℕ → Complex) (k : ℕ) → ((i : ℕ) → HeldParts (f i)) → ((i : ℕ) → HeldParts (f' i)) → ((i : ℕ) → i < k → Loose p q (f i) (f' i))
    → Bound p q (sum_from czero f 0 k) (sum_from czero f' 0 k)
unfolding sum_from fold
sum_loose p q f f' zero held held' h = bound_zero p q
sum_loose p q f f' (suc k) held held' h =
    add_loose p q (sum_from czero f 0 k) (sum_from czero f' 0 k) (f (0 + k)) (f' (0 + k))
    (sum-never-minus-zero f 0 k (λ i l. held (0 + i))) (sum-never-minus-zero f' 0 k (λ i l. held' (0 + i)))
    (sum_loose p q f f' k held held' (λ i l. h i (omega arith)))
    (h (0 + k) (omega arith))

-- the relation of a split of the orbitals
abbrev pub BySplit : Split → Relation
BySplit first a b z z' = Bound (first a) (first b) z z'

module _ (n : ℕ) (first : Split) where
  product_bound : (x x' y y' : Entries) → Related n (BySplit first) x x' → Related n (BySplit first) y y' → Related n (BySplit first) (product n x y) (product n x' y')
  unfolding product
  product_bound x x' y y' hx hy a b ha hb =
      sum_loose (first a) (first b) (λ k. cmul (x a k) (y k b)) (λ k. cmul (x' a k) (y' k b)) n (λ k. cmul-held (x a k) (y k b)) (λ k. cmul-held (x' a k) (y' k b))
      (λ k hk. term (x a k) (x' a k) (y k b) (y' k b) (first a) (first k) (first b) (hx a k ha hk) (hy k b hk hb))

  pub split-kept : Kept n (BySplit first)
  split-kept =
      record {
        none = λ a b. bound_zero (first a) (first b);
        sum = λ a b x x' y y' h e. bound_add (first a) (first b) x x' y y' h e;
        scale = λ a b w x x' h. bound_scale (first a) (first b) w x x' h;
        conjugate = λ a b x x' h. bound_conj (first a) (first b) x x' h;
        products = product_bound;
      }

-- an entry of a product each of whose terms has a nil factor is +0 where it is finite: a cross entry is
pub product-nil : (n : ℕ) (x y : Entries) (a b : ℕ) → ((k : ℕ) → k < n → Nil (x a k) ⊎ Nil (y k b)) → cfinite (product n x y a b) ≡ true → product n x y a b ≡ czero
unfolding product
product-nil n x y a b h = nil-sum (λ k. cmul (x a k) (y k b)) n (λ k hk. (cmul-held (x a k) (y k b), either-nil k (h k hk)))
  where
    either-nil : (k : ℕ) → Nil (x a k) ⊎ Nil (y k b) → Nil (cmul (x a k) (y k b))
    either-nil k (inl e) = nil-left (x a k) (y k b) e
    either-nil k (inr e) = nil-right (x a k) (y k b) e

-- ---- from what is given to the relation, and back to what is claimed

to_bound : (p q : Bool) (z z' : Complex) → ((p ≡ q → ⊥) → Zeros z) → ((p ≡ q → ⊥) → Zeros z') → (p ≡ true → q ≡ true → z ≡ z') → Bound p q z z'
to_bound true true z z' c c' e = λ f f'. e refl refl
to_bound true false z z' c c' e = (λ f. c (λ h. never (sym h)), λ f. c' (λ h. never (sym h)))
to_bound false true z z' c c' e = (λ f. c (λ h. never h), λ f. c' (λ h. never h))
to_bound false false z z' c c' e = tt

-- cross entries that are zeros in each block, and first-group entries that agree
pub bound_given : (first : Split) (n : ℕ) (x x' : Entries) → ZeroAcross first n x → ZeroAcross first n x' → SameFirst first n x x' → Related n (BySplit first) x x'
bound_given first n x x' c c' e a b ha hb = to_bound (first a) (first b) (x a b) (x' a b) (c a b ha hb) (c' a b ha hb) (e a b ha hb)

pub within_first : (p q : Bool) (z z' : Complex) → Bound p q z z' → p ≡ true → q ≡ true → cfinite z ≡ true → cfinite z' ≡ true → z ≡ z'
within_first true true z z' h e e' = h
within_first true false z z' h e e' = never e'
within_first false q z z' h e e' = never e

pub across_groups : (p q : Bool) (z z' : Complex) → Bound p q z z' → (p ≡ q → ⊥) → Nil z
across_groups true true z z' h e = absurd (e refl)
across_groups true false z z' h e = h.0
across_groups false true z z' h e = h.0
across_groups false false z z' h e = absurd (e refl)
