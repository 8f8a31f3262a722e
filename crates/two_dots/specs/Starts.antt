-- What G^< starts from, by a split: two starts are related where g0, G^R(t,0) and G^R(u,0) are, of one form, and of either form. A start made of a g0 that is
-- +0 in the first group and zeros across is +0 there, as the empty form's is. Assumes nothing.
use Rattle.std.specs.Prelude.{◌≡◌, ◌⊎◌, ◌<◌}
use Rattle.lists.specs.Prelude.{refl, sym, inl, inr, Bool, true, false, List, ℕ, Float}
use Rattle.lists.specs.Agreement.{never}
use Rattle.complex.specs.declared.Complex.{Complex}
use Rattle.complex.specs.Arithmetic.{czero, conj, cfinite}
use Rattle.complex.specs.Zeros.{Zeros, zero-zeros}
use Rattle.block.specs.Block.{Entries, entries_in}
use Rattle.block.specs.Operations.{product, adjoint, zeros}
use Rattle.two_time.specs.Layout.{read_as}
use Rattle.two_time.specs.Relation.{Related, adjoint-related}
use Rattle.two_time.specs.Start.{occupied_first, occupied_block}
use Rattle.transient_run.specs.Form.{Form, start_of, g0_of}
use Rattle.transient_run.specs.Form.Form.{empty, occupied}
use Rattle.two_dots.specs.Statement.{Split, ZeroAcross, SameFirst}
use Rattle.two_dots.specs.Bound.{Nil, Bound, BySplit, nil-zero, bound_zero, bound_conj, bound_flip, product-nil, split-kept, bound_given}

-- nil across the groups; nil but within the second; +0 but within the second, where finite
abbrev Apart : Bool → Bool → Complex → Type 0
Apart true true z = Unit
Apart true false z = Nil z
Apart false true z = Nil z
Apart false false z = Unit

abbrev Quiet : Bool → Bool → Complex → Type 0
Quiet true q z = Nil z
Quiet false true z = Nil z
Quiet false false z = Unit

abbrev Clear : Bool → Bool → Complex → Type 0
Clear true q z = cfinite z ≡ true → z ≡ czero
Clear false true z = cfinite z ≡ true → z ≡ czero
Clear false false z = Unit

apart : (p q : Bool) (z z' : Complex) → Bound p q z z' → Apart p q z'
apart true true z z' h = tt
apart true false z z' h = h.1
apart false true z z' h = h.1
apart false false z z' h = tt

nil : (z : Complex) → (cfinite z ≡ true → z ≡ czero) → Nil z
nil z h f = rw (h f) zero-zeros

quiet : (p q : Bool) (z : Complex) → Clear p q z → Quiet p q z
quiet true q z h = nil z h
quiet false true z h = nil z h
quiet false false z h = tt

clear_bound : (p q : Bool) (z : Complex) → Clear p q z → Bound p q czero z
clear_bound true true z h = λ f f'. sym (h f')
clear_bound true false z h = (nil-zero, nil z h)
clear_bound false true z h = (nil-zero, nil z h)
clear_bound false false z h = tt

-- a term of a product, c the group of the orbital between: one factor is nil
abbrev One : Bool → Bool → Complex → Complex → Type 0
One true q x y = Nil x ⊎ Nil y
One false true x y = Nil x ⊎ Nil y
One false false x y = Unit

by_right : (p c q : Bool) (x y : Complex) → Apart p c x → Quiet c q y → One p q x y
by_right true true q x y h e = inr e
by_right true false q x y h e = inl h
by_right false true true x y h e = inr e
by_right false false true x y h e = inr e
by_right false c false x y h e = tt

by_left : (p c q : Bool) (x y : Complex) → Quiet p c x → Apart c q y → One p q x y
by_left true c q x y h e = inl h
by_left false true true x y h e = inl h
by_left false false true x y h e = inr e
by_left false c false x y h e = tt

module _ (n : ℕ) where
  clear : (p q : Bool) (x y : Entries) (a b : ℕ) → ((k : ℕ) → k < n → One p q (x a k) (y k b)) → Clear p q (product n x y a b)
  clear true q x y a b h = product-nil n x y a b h
  clear false true x y a b h = product-nil n x y a b h
  clear false false x y a b h = tt

  module _ (first : Split) (g0 : Entries) (h0 : (a b : ℕ) → a < n → b < n → Quiet (first a) (first b) (g0 a b)) where
    -- x is G^R(t,0) and y G^R(u,0), each bound to another run's
    start-clear : (w x z y : Entries) → Related n (BySplit first) w x → Related n (BySplit first) z y
        → (a b : ℕ) → a < n → b < n → Clear (first a) (first b) (product n (product n x g0) (adjoint y) a b)
    unfolding adjoint
    start-clear w x z y hx hy a b ha hb =
        clear (first a) (first b) (product n x g0) (adjoint y) a b
        (λ k hk. by_left (first a) (first k) (first b) (product n x g0 a k) (conj (y b k))
        (quiet (first a) (first k) (product n x g0 a k)
        (clear (first a) (first k) x g0 a k (λ j hj. by_right (first a) (first j) (first k) (x a j) (g0 j k) (apart (first a) (first j) (w a j) (x a j) (hx a j ha hj)) (h0 j k hj hk))))
        (apart (first k) (first b) (conj (z b k)) (conj (y b k)) (bound_conj (first b) (first k) (z b k) (y b k) (hy b k hb hk))))

-- ---- both forms

-- a g0 that agrees with +0 in the first group and has zeros across it
quiet_given : (p q : Bool) (z : Complex) → ((p ≡ q → ⊥) → Zeros z) → (p ≡ true → q ≡ true → czero ≡ z) → Quiet p q z
quiet_given true true z c e = λ f. rw (sym (e refl refl)) zero-zeros
quiet_given true false z c e = λ f. c (λ h. never (sym h))
quiet_given false true z c e = λ f. c (λ h. never h)
quiet_given false false z c e = tt

module _ (n : ℕ) (first : Split) where
  -- the empty form against an occupied one, whose G^R(t,0) and G^R(u,0) are x and y, related to another run's w and z
  against_empty : (g0 w x z y : Entries) → ZeroAcross first n g0 → SameFirst first n zeros g0 → Related n (BySplit first) w x → Related n (BySplit first) z y
      → Related n (BySplit first) zeros (product n (product n x g0) (adjoint y))
  against_empty g0 w x z y c e hx hy a b ha hb =
      clear_bound (first a) (first b) _
      (start-clear n first g0 (λ i j hi hj. quiet_given (first i) (first j) (g0 i j) (c i j hi hj) (e i j hi hj)) w x z y hx hy a b ha hb)

  flipped : (x y : Entries) → Related n (BySplit first) x y → Related n (BySplit first) y x
  flipped x y h a b ha hb = bound_flip (first a) (first b) (x a b) (y a b) (h a b ha hb)

  module _ (capacity capacity' : ℕ) (retarded retarded' : List Float) (t u : ℕ)
      (row : Related n (BySplit first) (read_as capacity n retarded t 0) (read_as capacity' n retarded' t 0))
      (column : Related n (BySplit first) (read_as capacity n retarded u 0) (read_as capacity' n retarded' u 0)) where
    pub starts-related : (form form' : Form) → ZeroAcross first n (g0_of n form) → ZeroAcross first n (g0_of n form') → SameFirst first n (g0_of n form) (g0_of n form')
        → Related n (BySplit first) ((start_of form capacity n retarded).block t u) ((start_of form' capacity' n retarded').block t u)
    unfolding start_of g0_of occupied_first occupied_block
    starts-related empty empty c c' e = λ a b ha hb. bound_zero (first a) (first b)
    starts-related empty (occupied g0') c c' e = against_empty (entries_in n g0'.values) _ _ _ _ c' e row column
    starts-related (occupied g0) empty c c' e =
        flipped _ _ (against_empty (entries_in n g0.values) _ _ _ _ c (λ a b ha hb fa fb. sym (e a b ha hb fa fb)) (flipped _ _ row) (flipped _ _ column))
    starts-related (occupied g0) (occupied g0') c c' e =
        let kept = split-kept n first in
        kept.products _ _ _ _
        (kept.products _ _ (entries_in n g0.values) (entries_in n g0'.values) row (bound_given first n (entries_in n g0.values) (entries_in n g0'.values) c c' e))
        (adjoint-related n (BySplit first) kept _ _ column)
