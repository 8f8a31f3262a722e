-- A slice that a loop writes over from its start: what it holds after k steps, and at the end. Assumes nothing.
use Rattle.std.specs.Prelude.{◌≡◌, ◌∷◌, ◌++◌, ◌+◌, ◌-◌, ◌<◌}
use Rattle.lists.specs.Prelude.{refl, sym, ap, ◌∙◌, List, [], append_assoc, append-nil, ℕ, zero, suc, le_refl, not-suc-le-zero}
use Rattle.lists.specs.Prelude.{le_of_suc-le-suc, sub-zero, suc-sub-suc, zero-sub, le_of_lt, min-eq_left, arith, add-one, length, get_or, take, drop, set, replicate}
use Rattle.lists.specs.Prelude.{length-append, length-take, drop_of_length-le, take-suc, take_at, drop_at, drop-drop, put_mid}

module _ {A : Type 0} where
  -- d with xs written over its start
  unfoldable pub over : List A → List A → List A
  over d xs = xs ++ drop (length xs) d

  pub over_none : (d : List A) → over d [] ≡ d
  unfolding over
  over_none d = refl

  -- a write just past what is written
  over-next : (xs d : List A) (a : A) → length xs < length d → set (over d xs) (length xs) a ≡ over d (xs ++ (a ∷ []))
  unfolding over
  over-next [] [] a h = absurd (not-suc-le-zero h)
  over-next [] (y ∷ d) a h = refl
  over-next (x ∷ xs) [] a h = absurd (not-suc-le-zero h)
  over-next (x ∷ xs) (y ∷ d) a h = ap (λ (l : List A). x ∷ l) (over-next xs d a (le_of_suc-le-suc h))

  pub over-one : (d xs : List A) (n : ℕ) (a : A) → length xs ≡ n → n < length d → set (over d xs) n a ≡ over d (xs ++ (a ∷ []))
  over-one d xs n a e h = rw (← e) (over-next xs d a (omega arith))

  -- two writes
  pub over-two : (d xs : List A) (n : ℕ) (a b : A) → length xs ≡ n → n + 1 < length d → set (set (over d xs) n a) (n + 1) b ≡ over d (xs ++ (a ∷ b ∷ []))
  over-two d xs n a b e h =
      rw (over-one d xs n a e (omega arith), over-one d (xs ++ (a ∷ [])) (n + 1) b (simp length-append (omega arith)) h, append_assoc)

  -- all of d written over
  pub over-all : (d xs : List A) → length xs ≡ length d → over d xs ≡ xs
  unfolding over
  over-all d xs e = rw (e, drop_of_length-le d {i = length d} (le_refl (length d)), append-nil)

  drop-replicate : (k n : ℕ) (a : A) → drop k (replicate n a) ≡ replicate (n - k) a
  drop-replicate zero n a = rw sub-zero
  drop-replicate (suc k) zero a = rw zero-sub
  drop-replicate (suc k) (suc n) a = drop-replicate k n a ∙ ap (λ (m : ℕ). replicate m a) (sym (suc-sub-suc n k))

  -- written over n equal elements
  pub over-replicate : (n k : ℕ) (a : A) (xs : List A) → length xs ≡ k → over (replicate n a) xs ≡ xs ++ replicate (n - k) a
  unfolding over
  over-replicate n k a xs e = rw (drop-replicate, e)

  -- element i of xs copied after those before it
  pub over_copy : (d xs : List A) (i : ℕ) (z : A) → i < length xs → i < length d → set (over d (take i xs)) i (get_or xs i z) ≡ over d (take (i + 1) xs)
  over_copy d xs i z h l =
      over-one d (take i xs) i (get_or xs i z) (length-take i xs ∙ min-eq_left (le_of_lt h)) l ∙ ap (over d) (sym (ap (λ (k : ℕ). take k xs) (add-one i) ∙ take-suc xs i z h))

  -- a part written just past what is written
  pub over-part : (d xs ys : List A) (i k : ℕ) → length xs ≡ i → length ys ≡ k → put_mid i k (over d xs) ys ≡ over d (xs ++ ys)
  unfolding over
  over-part d xs ys i k ex ey =
      rw (take_at xs (drop (length xs) d) i ex, drop_at xs (drop (length xs) d) i ex, drop-drop, ex, ← ey, ← ex, ← length-append, append_assoc)
