-- Two functions added number by number, and whether every number of a list is finite. Assumes nothing.
use Rattle.std.specs.Prelude.{◌≡◌, ◌&&◌, ◌∷◌, ◌++◌, ◌+◌, ◌*◌, ◌≤◌, ◌<◌}
use Rattle.lists.specs.Prelude.{refl, sym, ap, ap₂, ◌∙◌, Bool, true, and-true, and_assoc, List, [], ℕ, zero, suc, le_refl}
use Rattle.lists.specs.Prelude.{le_of_suc-le-suc, not-suc-le-zero, add-zero, suc-ne-zero, suc_inj, add-one, arith, length, get_or, take, drop, set, take-suc, take_all}
use Rattle.lists.specs.Prelude.{length-take-le, get_or-append-add, get_or-drop, Float, nan}
use Rattle.lists.specs.Indexed.{join, all_below}
use Rattle.lists.specs.Reading.{length-join}
use Rattle.lists.specs.Filling.{over, over_none, over_copy, over-all}
use Rattle.complex.specs.Arithmetic.{add, finite, cadd, cfinite}
use Rattle.complex.specs.Numbers.{pair}
use Rattle.block.specs.Block.{Entries, lay_out}
use Rattle.block.specs.Operations.{added}
use Rattle.two_time.specs.Layout.{TwoTime, lay_out_all, everywhere}
use Rattle.block.specs.Length.{length-block}

-- each number of the first list plus that of the second: one binary64 sum
unfoldable pub plus : List Float → List Float → List Float
plus [] ys = []
plus (x ∷ xs) [] = []
plus (x ∷ xs) (y ∷ ys) = add x y ∷ plus xs ys

unfoldable pub numbers_finite : List Float → Bool
numbers_finite [] = true
numbers_finite (x ∷ xs) = finite x && numbers_finite xs

-- ---- a loop that adds the second list to the first in place, one number a step

pub length-plus : (xs ys : List Float) → length xs ≡ length ys → length (plus xs ys) ≡ length xs
unfolding plus
length-plus [] ys e = refl
length-plus (x ∷ xs) [] e = absurd (suc-ne-zero (length xs) e)
length-plus (x ∷ xs) (y ∷ ys) e = ap suc (length-plus xs ys (suc_inj e))

plus-at : (xs ys : List Float) (i : ℕ) → length xs ≡ length ys → i < length xs → get_or (plus xs ys) i nan ≡ add (get_or xs i nan) (get_or ys i nan)
unfolding plus
plus-at [] ys i e h = absurd (not-suc-le-zero h)
plus-at (x ∷ xs) [] i e h = absurd (suc-ne-zero (length xs) e)
plus-at (x ∷ xs) (y ∷ ys) zero e h = refl
plus-at (x ∷ xs) (y ∷ ys) (suc i) e h = plus-at xs ys i (suc_inj e) (le_of_suc-le-suc h)

-- the number just past what is written
past : (d xs : List Float) (i : ℕ) → length xs ≡ i → get_or (over d xs) i nan ≡ get_or d i nan
unfolding over
past d xs i e =
    rw (← e)
    (ap (λ (k : ℕ). get_or (xs ++ drop (length xs) d) k nan) (sym (add-zero (length xs)))
    ∙ get_or-append-add xs (drop (length xs) d) 0 nan
    ∙ get_or-drop (length xs) d 0 nan
    ∙ ap (λ (k : ℕ). get_or d k nan) (add-zero (length xs)))

finite-append : (xs ys : List Float) → numbers_finite (xs ++ ys) ≡ numbers_finite xs && numbers_finite ys
unfolding numbers_finite
finite-append [] ys = refl
finite-append (x ∷ xs) ys = ap (λ (b : Bool). finite x && b) (finite-append xs ys) ∙ sym (and_assoc (finite x) (numbers_finite xs) (numbers_finite ys))

-- before step i the first i sums are tested and written
pub record Summed (xs ys : List Float) (i : ℕ) (all : Bool) (out : List Float) : Type 0 where
  pub tested : all ≡ numbers_finite (take i (plus xs ys))
  pub written : out ≡ over xs (take i (plus xs ys))

module _ (xs ys : List Float) where
  pub summed-none : Summed xs ys 0 true xs
  unfolding numbers_finite
  summed-none = record { tested = refl; written = sym (over_none xs) }

  module _ (same : length xs ≡ length ys) where
    pub summed-next : (i : ℕ) (all f : Bool) (out : List Float) (z : Float) → Summed xs ys i all out → i < length xs
        → z ≡ add (get_or out i nan) (get_or ys i nan) → f ≡ finite z → Summed xs ys (i + 1) (all && f) (set out i z)
    unfolding numbers_finite
    summed-next i all f out z s h e t =
        let long : length (plus xs ys) ≡ length xs = length-plus xs ys same in
        let inside : i < length (plus xs ys) = omega arith in
        let here : z ≡ get_or (plus xs ys) i nan =
        e ∙ ap (λ (x : Float). add x (get_or ys i nan)) (ap (λ (l : List Float). get_or l i nan) s.written ∙ past xs (take i (plus xs ys)) i (length-take-le i (plus xs ys) (omega arith))) ∙ sym (plus-at xs ys i same h) in
        record {
          tested = rw (add-one, take-suc (plus xs ys) i nan inside, finite-append, and-true) (ap₂ ◌&&◌ s.tested (t ∙ ap finite here));
          written = rw (s.written, here) (over_copy xs (plus xs ys) i nan inside h);
        }

    pub summed-end : (i : ℕ) (all : Bool) (out : List Float) → Summed xs ys i all out → length xs ≤ i → (all ≡ numbers_finite (plus xs ys)) × (out ≡ plus xs ys)
    summed-end i all out s h =
        let long : length (plus xs ys) ≡ length xs = length-plus xs ys same in
        let whole : take i (plus xs ys) ≡ plus xs ys = take_all i (plus xs ys) (omega arith) in
        (s.tested ∙ ap numbers_finite whole, s.written ∙ ap (over xs) whole ∙ over-all xs (plus xs ys) long)

-- ---- of functions that are laid out these are the sums and the tests of their entries

plus-append : (xs ys xs' ys' : List Float) → length xs ≡ length ys → plus (xs ++ xs') (ys ++ ys') ≡ plus xs ys ++ plus xs' ys'
unfolding plus
plus-append [] [] xs' ys' e = refl
plus-append [] (y ∷ ys) xs' ys' e = absurd (suc-ne-zero (length ys) (sym e))
plus-append (x ∷ xs) [] xs' ys' e = absurd (suc-ne-zero (length xs) e)
plus-append (x ∷ xs) (y ∷ ys) xs' ys' e = ap (λ (l : List Float). add x y ∷ l) (plus-append xs ys xs' ys' (suc_inj e))

-- lists joined of parts of one width
plus-join : (n w : ℕ) (f g h : ℕ → List Float) → ((k : ℕ) → k < n → (length (f k) ≡ w) × (length (g k) ≡ w) × (plus (f k) (g k) ≡ h k))
    → plus (join n f) (join n g) ≡ join n h
unfolding join plus
plus-join zero w f g h p = refl
plus-join (suc n) w f g h p =
    let last = p n (le_refl (suc n)) in
    plus-append (join n f) (join n g) (f n) (g n)
    (length-join n w f (λ k l. (p k (omega arith)).0) ∙ sym (length-join n w g (λ k l. (p k (omega arith)).1)))
    ∙ ap₂ ◌++◌ (plus-join n w f g h (λ k l. p k (omega arith))) last.2

finite-join : (n : ℕ) (f : ℕ → List Float) (p : ℕ → Bool) → ((k : ℕ) → k < n → numbers_finite (f k) ≡ p k) → numbers_finite (join n f) ≡ all_below n p
unfolding join all_below numbers_finite
finite-join zero f p h = refl
finite-join (suc n) f p h = finite-append (join n f) (f n) ∙ ap₂ ◌&&◌ (finite-join n f p (λ k l. h k (omega arith))) (h n (le_refl (suc n)))

-- one block
plus-block : (n : ℕ) (x y : Entries) → plus (lay_out n n x) (lay_out n n y) ≡ lay_out n n (added x y)
unfolding lay_out plus added cadd
plus-block n x y =
    plus-join n (n * 2) _ _ _ (λ a ha. (
      length-join n 2 (λ b. pair (x a b)) (λ b hb. refl),
      length-join n 2 (λ b. pair (y a b)) (λ b hb. refl),
      plus-join n 2 (λ b. pair (x a b)) (λ b. pair (y a b)) (λ b. pair (cadd (x a b) (y a b))) (λ b hb. (refl, refl, refl)),
    ))

module _ (points n : ℕ) (f : TwoTime) where
  pub plus_laid : (g : TwoTime) → plus (lay_out_all points n f) (lay_out_all points n g) ≡ lay_out_all points n (λ t u. added (f t u) (g t u))
  unfolding lay_out_all
  plus_laid g =
      plus-join points (points * (2 * (n * n))) _ _ _ (λ t ht. (
        length-join points (2 * (n * n)) (λ u. lay_out n n (f t u)) (λ u hu. length-block n (f t u)),
        length-join points (2 * (n * n)) (λ u. lay_out n n (g t u)) (λ u hu. length-block n (g t u)),
        plus-join points (2 * (n * n)) _ _ _ (λ u hu. (length-block n (f t u), length-block n (g t u), plus-block n (f t u) (g t u))),
      ))

  pub finite_laid : numbers_finite (lay_out_all points n f) ≡ everywhere points n (λ t u a b. cfinite (f t u a b))
  unfolding lay_out_all lay_out everywhere numbers_finite cfinite
  finite_laid =
      finite-join points _ _ (λ t ht. finite-join points _ _ (λ u hu. finite-join n _ _ (λ a ha. finite-join n _ _ (λ b hb. ap (λ (c : Bool). finite (f t u a b).re && c) (and-true (finite (f t u a b).im))))))
