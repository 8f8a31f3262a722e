-- A list that is joined of parts of one width, read by the part and the place in it. Assumes nothing.
use Rattle.std.specs.Prelude.{◌≡◌, ◌++◌, ◌+◌, ◌-◌, ◌*◌, ◌≤◌, ◌<◌}
use Rattle.lists.specs.Prelude.{sym, ap, subst, ◌∙◌, ⊎_elim, List, ℕ, zero, suc, le_refl, le_of_suc-le-suc, eq-or-lt_of_le}
use Rattle.lists.specs.Prelude.{zero-mul, suc-mul, dec_lt, arith, digits_lt, length, get_or, length-append, get_or-append, get_or-append-add}
use Rattle.lists.specs.Indexed.{join}

module _ {A : Type 0} where
  pub length-join : (n w : ℕ) (f : ℕ → List A) → ((k : ℕ) → k < n → length (f k) ≡ w) → length (join n f) ≡ n * w
  unfolding join
  length-join zero w f h = sym (zero-mul w)
  length-join (suc n) w f h = simp (length-append, length-join n w f (λ k l. h k (omega arith)), h n (le_refl (suc n)), suc-mul)

  pub get_or-join : (n w : ℕ) (f : ℕ → List A) (d : A) → ((k : ℕ) → k < n → length (f k) ≡ w) → (k j : ℕ) → k < n → j < w
      → get_or (join n f) (k * w + j) d ≡ get_or (f k) j d
  unfolding join
  get_or-join zero w f d h k j l m = absurd (omega arith)
  get_or-join (suc n) w f d h k j l m =
      let long : length (join n f) ≡ n * w = length-join n w f (λ i i<n. h i (omega arith)) in
      ⊎_elim
      (λ e. ap (λ (i : ℕ). get_or (join n f ++ f n) (i * w + j) d) e
      ∙ ap (λ (i : ℕ). get_or (join n f ++ f n) (i + j) d) (sym long)
      ∙ get_or-append-add (join n f) (f n) j d
      ∙ ap (λ (i : ℕ). get_or (f i) j d) (sym e))
      (λ less.
      let inside : k * w + j < length (join n f) = rw long (digits_lt less m) in
      get_or-append (join n f) (f n) d (k * w + j) inside ∙ get_or-join n w f d (λ i i<n. h i (omega arith)) k j less m)
      (eq-or-lt_of_le (le_of_suc-le-suc l))

  -- what holds of every element of every part holds of every element
  pub each_in_join : (P : A → Type 0) (n : ℕ) (f : ℕ → List A) (d : A) → ((k : ℕ) → k < n → (j : ℕ) → j < length (f k) → P (get_or (f k) j d))
      → (i : ℕ) → i < length (join n f) → P (get_or (join n f) i d)
  unfolding join
  each_in_join P zero f d h i l = absurd (omega arith)
  each_in_join P (suc n) f d h i l =
      elim (dec_lt i (length (join n f))) [
        | yes inside ↦ subst P (sym (get_or-append (join n f) (f n) d i inside)) (each_in_join P n f d (λ k hk. h k (omega arith)) i inside)
        | no outside ↦
            (let past : length (join n f) ≤ i = omega arith in
            let j : ℕ = i - length (join n f) in
            let at : i ≡ length (join n f) + j = omega arith in
            let fits : j < length (f n) = omega (arith, length-append (join n f) (f n)) in
            subst P (sym (ap (λ (m : ℕ). get_or (join n f ++ f n) m d) at ∙ get_or-append-add (join n f) (f n) j d)) (h n (le_refl (suc n)) j fits))
      ]
