-- Whether all that a Langreth product makes is finite, component by component. Assumes nothing.
use Rattle.std.specs.Prelude.{◌≡◌}
use Rattle.lists.specs.Prelude.{sym, ap, ap₂, ◌∙◌, Bool, true, false, and-true, and-false, List, ℕ, Float}
use Rattle.two_time.specs.declared.sums.Sums.TheVariants.{Full, Causal, AntiCausal}
use Rattle.two_time.specs.Layout.{read_as}
use Rattle.two_time.specs.Sums.{sums_of, sums_numbers, sums_finite}
use Rattle.langreth.specs.Calls.{Components, correlation, correlation_numbers, correlation_finite, product_finite}
use Rattle.langreth.specs.Added.{plus, numbers_finite, plus_laid, finite_laid}

-- one correlation: of a with b, plus of c with d
module _ (points n : ℕ) (times a b c d : List Float) where
  pub first-fails : sums_finite Full points n times a b ≡ false → false ≡ correlation_finite points n times a b c d
  unfolding correlation_finite
  first-fails e = rw e

  pub second-fails : sums_finite Full points n times c d ≡ false → false ≡ correlation_finite points n times a b c d
  unfolding correlation_finite
  second-fails e = rw (e, and-false)

  -- the two added
  pub both-added : {first second total : List Float} {ok : Bool} → sums_finite Full points n times a b ≡ true → sums_finite Full points n times c d ≡ true
      → first ≡ sums_numbers Full points n times a b → second ≡ sums_numbers Full points n times c d → ok ≡ numbers_finite (plus first second) → total ≡ plus first second
      → (ok ≡ correlation_finite points n times a b c d) × (total ≡ correlation_numbers points n times a b c d)
  unfolding correlation correlation_finite sums_numbers
  both-added f s e e' t h =
      let sums = ap₂ plus e e' ∙ plus_laid points n (sums_of Full points n times (read_as points n a) (read_as points n b)) (sums_of Full points n times (read_as points n c) (read_as points n d)) in
      (t ∙ ap numbers_finite sums ∙ finite_laid points n _ ∙ sym (rw (f, s)), h ∙ sums)

-- the four components
module _ (points n : ℕ) (times : List Float) (left right : Components) where
  pub lesser-fails : correlation_finite points n times left.retarded right.lesser left.lesser right.advanced ≡ false → false ≡ product_finite points n times left right
  unfolding product_finite
  lesser-fails e = rw (e, and-false, and-false)

  pub greater-fails : correlation_finite points n times left.retarded right.greater left.greater right.advanced ≡ false → false ≡ product_finite points n times left right
  unfolding product_finite
  greater-fails e = rw (e, and-false, and-false, and-false)

  pub retarded-fails : sums_finite Causal points n times left.retarded right.retarded ≡ false → false ≡ product_finite points n times left right
  unfolding product_finite
  retarded-fails e = rw e

  -- the last
  pub advanced_says : {ok : Bool} → correlation_finite points n times left.retarded right.lesser left.lesser right.advanced ≡ true
      → correlation_finite points n times left.retarded right.greater left.greater right.advanced ≡ true
      → sums_finite Causal points n times left.retarded right.retarded ≡ true → ok ≡ sums_finite AntiCausal points n times left.advanced right.advanced
      → ok ≡ product_finite points n times left right
  unfolding product_finite
  advanced_says l g c a = a ∙ sym (rw (l, g, c) (and-true _))
