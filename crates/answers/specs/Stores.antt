-- What a slice holds after a store at each of its places, and after none. Assumes nothing.
use Rattle.refusal.specs.declared.Refusal.{Refusal}
use Rattle.std.specs.Prelude.{Result, Ok, Err, ◌≡◌, ◌∷◌}
use Rattle.lists.specs.Prelude.{Bool, true, false, refl, ℕ, List, [], arith, length, set, Float, eq-eqb, ne_eqb}
use Rattle.matrix.specs.declared.DenseMatrix.{DenseMatrix}
use Rattle.answers.specs.Answer.{written, decision_byte, slices, block_written}

module _ {A : Type 0} where
  pub all-written : (items before : List A) → length before ≡ length items → items ≡ written items before
  unfolding written
  all-written items before h = rw (eq-eqb (length before) (length items) h)

  pub none_written : (items before : List A) → (length before ≡ length items → ⊥) → before ≡ written items before
  unfolding written
  none_written items before h = rw (ne_eqb (length before) (length items) h)

  pub one : (xs : List A) (a : A) → length xs ≡ 1 → set xs 0 a ≡ written (a ∷ []) xs
  unfolding written
  one [] a h = absurd (omega arith)
  one (x ∷ []) a h = refl
  one (x ∷ y ∷ xs) a h = absurd (omega arith)

  pub two : (xs : List A) (a b : A) → length xs ≡ 2 → set (set xs 0 a) 1 b ≡ a ∷ b ∷ []
  two [] a b h = absurd (omega arith)
  two (x ∷ []) a b h = absurd (omega arith)
  two (x ∷ y ∷ []) a b h = refl
  two (x ∷ y ∷ z ∷ xs) a b h = absurd (omega arith)

  pub three : (xs : List A) (a b c : A) → length xs ≡ 3 → set (set (set xs 0 a) 1 b) 2 c ≡ written (a ∷ b ∷ c ∷ []) xs
  unfolding written
  three [] a b c h = absurd (omega arith)
  three (x ∷ []) a b c h = absurd (omega arith)
  three (x ∷ y ∷ []) a b c h = absurd (omega arith)
  three (x ∷ y ∷ z ∷ []) a b c h = refl
  three (x ∷ y ∷ z ∷ w ∷ xs) a b c h = absurd (omega arith)

-- a decision leaves a slice of another length as it was
pub no_byte : (d : Result Bool Refusal) (xs : List ℕ) → (length xs ≡ 1 → ⊥) → xs ≡ decision_byte d xs
unfolding decision_byte
no_byte (Ok true) xs h = none_written (1 ∷ []) xs h
no_byte (Ok false) xs h = none_written (0 ∷ []) xs h
no_byte (Err r) xs h = refl

-- a block in slices of two and 512, and in others
module _ (x : DenseMatrix) (shape : List ℕ) (out : List Float) where
  pub block-fits : length shape ≡ 2 → length out ≡ 512 → slices (x.rows ∷ x.columns ∷ []) x.values ≡ block_written x shape out
  unfolding block_written
  block-fits s o = rw (eq-eqb (length shape) 2 s, eq-eqb (length out) 512 o)

  pub no-shape : (length shape ≡ 2 → ⊥) → slices shape out ≡ block_written x shape out
  unfolding block_written
  no-shape s = rw (ne_eqb (length shape) 2 s)

  pub no-values : length shape ≡ 2 → (length out ≡ 512 → ⊥) → slices shape out ≡ block_written x shape out
  unfolding block_written
  no-values s o = rw (eq-eqb (length shape) 2 s, ne_eqb (length out) 512 o)
