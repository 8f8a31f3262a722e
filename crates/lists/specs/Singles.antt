-- A slice that a loop writes over with one element a step. Assumes nothing.
use Rattle.std.specs.Prelude.{◌≡◌, ◌∷◌, ◌+◌, ◌≤◌, ◌<◌}
use Rattle.lists.specs.Prelude.{refl, sym, ◌∙◌, List, [], ℕ, zero, suc, mul-one, le_antisymm, add-one, length, set, replicate}
use Rattle.lists.specs.Prelude.{replicate-append-replicate}
use Rattle.lists.specs.Indexed.{join}
use Rattle.lists.specs.Reading.{length-join}
use Rattle.lists.specs.Steps.{join_more}
use Rattle.lists.specs.Filling.{over, over_none, over-one, over-all}

module _ {A : Type 0} where
  -- f 0, f 1, .., f (n - 1)
  abbrev pub singles : ℕ → (ℕ → A) → List A
  singles n f = join n (λ k. f k ∷ [])

  pub length-singles : (n : ℕ) (f : ℕ → A) → length (singles n f) ≡ n
  length-singles n f = length-join n 1 (λ k. f k ∷ []) (λ k l. refl) ∙ mul-one n

  module _ (d : List A) (f : ℕ → A) where
    pub singles-none : d ≡ over d (singles 0 f)
    unfolding join
    singles-none = sym (over_none d)

    pub singles-step : (i : ℕ) → i < length d → set (over d (singles i f)) i (f i) ≡ over d (singles (i + 1) f)
    singles-step i h = rw (over-one d (singles i f) i (f i) (length-singles i f) h, join_more)

    pub singles-end : {out : List A} (i : ℕ) → i ≤ length d → length d ≤ i → out ≡ over d (singles i f) → out ≡ singles (length d) f
    singles-end i le ge e =
        let at : i ≡ length d = le_antisymm le ge in
        e ∙ over-all d (singles i f) (length-singles i f ∙ at) ∙ rw at

  -- n times the same
  pub singles-same : (n : ℕ) (a : A) → singles n (λ k. a) ≡ replicate n a
  unfolding join
  singles-same zero a = refl
  singles-same (suc n) a = rw (singles-same n a) (replicate-append-replicate n 1 a ∙ rw add-one)
