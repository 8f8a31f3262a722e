-- Inside an interval a weight is half one step: from the point before, at least the start, to the point after, at most the end. Assumes nothing.
use Rattle.std.specs.Prelude.{◌≡◌, ◌||◌, ◌+◌, ◌-◌, ◌≤◌, ◌<◌}
use Rattle.lists.specs.Prelude.{refl, sym, Bool, true, false, cond, List, ℕ, min, max, arith, leb, ltb, eqb, Float, leb-false, ltb-false}
use Rattle.lists.specs.Prelude.{eqb-true, eqb-false}
use Rattle.lists.specs.Agreement.{never}
use Rattle.grid.specs.Weights.{half_step, interval_weight}

-- a choice of which each side is z
pub either : {X : Type 0} (b : Bool) (x y z : X) → (b ≡ true → x ≡ z) → (b ≡ false → y ≡ z) → cond b x y ≡ z
either true x y z f g = f refl
either false x y z f g = g refl

none-set : (x y z : Bool) → x || (y || z) ≡ false → (x ≡ false) × (y ≡ false) × (z ≡ false)
none-set false false z h = (refl, refl, h)
none-set false true z h = never (sym h)
none-set true y z h = never (sym h)

same_step : (times : List Float) (i j k l : ℕ) → i ≡ k → j ≡ l → half_step times i j ≡ half_step times k l
same_step times i j k l a b = cc

module _ (p s e : ℕ) where
  -- the test that refuses what lies outside failed
  pub inside : leb e s || (ltb p s || ltb e p) ≡ false → (s < e) × (s ≤ p) × (p ≤ e)
  inside h =
      let n = none-set (leb e s) (ltb p s) (ltb e p) h in
      (leb-false e s n.0, ltb-false p s n.1, ltb-false e p n.2)

  pub weight-inside : (times : List Float) (i j : ℕ) → leb e s || (ltb p s || ltb e p) ≡ false → i ≡ min (p + 1) e → j ≡ max (p - 1) s
      → half_step times i j ≡ interval_weight times p s e
  unfolding interval_weight
  weight-inside times i j h a b =
      let bounds = inside h in
      rw h
      (sym
      (either (eqb p s) _ _ _
      (λ t. let q : p ≡ s = eqb-true p s t in same_step times _ _ _ _ (omega arith) (omega arith))
      (λ t.
      let not_start : p ≡ s → ⊥ = eqb-false p s t in
      either (eqb p e) _ _ _
      (λ u. let q : p ≡ e = eqb-true p e u in same_step times _ _ _ _ (omega arith) (omega arith))
      (λ u. let not_end : p ≡ e → ⊥ = eqb-false p e u in same_step times _ _ _ _ (omega arith) (omega arith)))))
