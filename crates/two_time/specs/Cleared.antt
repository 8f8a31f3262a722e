-- What is written at new places is gone once they are cleared: a slice cleared afterwards is the slice cleared before. Assumes nothing.
use Rattle.std.specs.Prelude.{◌≡◌, ◌⊎◌, ◌&&◌, ◌++◌, ◌+◌, ◌-◌, ◌*◌, ◌≤◌, ◌<◌}
use Rattle.lists.specs.Prelude.{refl, ap, ◌∙◌, ⊎_elim, Bool, true, false, cond, List, ℕ, add-mul, mul_assoc, mul_left_comm, arith}
use Rattle.lists.specs.Prelude.{length, get_or, take, drop, length-take-le, get_or-append, get_or-append-add, get_or-take, get_or-drop, leb, le-leb, eq-eqb, Float, put_mid, post_of}
use Rattle.block.specs.Operations.{zeros}
use Rattle.two_time.specs.Layout.{place, read_as, length_of}
use Rattle.two_time.specs.Calls.{all_fit, all_long}
use Rattle.two_time.specs.New.{is_new, written, cleared_new, fits_new}
use Rattle.two_time.specs.Written.{laid_agree}

-- ---- a list with its middle part replaced, elsewhere

module _ {A : Type 0} (a k : ℕ) (xs ys : List A) (d : A) (room : a + k ≤ length xs) (long : length ys ≡ k) where
  pub put_elsewhere : (i : ℕ) → (i < a) ⊎ (a + k ≤ i) → get_or (put_mid a k xs ys) i d ≡ get_or xs i d
  put_elsewhere i =
      ⊎_elim
      (λ l. get_or-append (take a xs) (ys ++ post_of a k xs) d i (omega (arith, first)) ∙ get_or-take a xs i d l)
      (λ l. let j : ℕ = i - (a + k) in
      let at : i ≡ length (take a xs) + (length ys + j) = omega (arith, first, long) in
      ap (λ (m : ℕ). get_or (put_mid a k xs ys) m d) at ∙ get_or-append-add (take a xs) (ys ++ post_of a k xs) (length ys + j) d
      ∙ get_or-append-add ys (post_of a k xs) j d ∙ get_or-drop k (drop a xs) j d ∙ get_or-drop a xs (k + j) d ∙ ap (λ (m : ℕ). get_or xs m d) (let e : a + (k + j) ≡ i = omega arith in e))
    where
      first : length (take a xs) ≡ a
      first = length-take-le a xs (omega arith)

-- ---- neighbouring blocks of a row

module _ (capacity n : ℕ) where
  -- where an entry stands, by rows and blocks
  pub place_is : (t u a b : ℕ) → place capacity n t u a b ≡ t * (capacity * (2 * (n * n))) + u * (2 * (n * n)) + 2 * (a * n + b)
  place_is t u a b =
      let q = t * capacity + u in
      let entry : ((q * n + a) * n + b) ≡ q * (n * n) + (a * n + b) = omega (arith, add-mul (q * n) a n, mul_assoc q n n) in
      let blocks : 2 * (q * (n * n)) ≡ q * (2 * (n * n)) = mul_left_comm 2 q (n * n) in
      let rows : q * (2 * (n * n)) ≡ t * (capacity * (2 * (n * n))) + u * (2 * (n * n)) = add-mul (t * capacity) u (2 * (n * n)) ∙ ap (λ (m : ℕ). m + u * (2 * (n * n))) (mul_assoc t capacity (2 * (n * n))) in
      omega arith

-- ---- cleared slices

module _ (capacity n old points : ℕ) where
  -- slices that agree where nothing is new are cleared alike
  pub cleared_alike : (xs ys : List Float) → ((t u a b : ℕ) → t < capacity → u < capacity → a < n → b < n → is_new old points t u ≡ false → read_as capacity n xs t u a b ≡ read_as capacity n ys t u a b)
      → cleared_new capacity n old points xs ≡ cleared_new capacity n old points ys
  unfolding written
  cleared_alike xs ys h = laid_agree capacity n _ _ (λ t u ht hu a b ha hb. by_flag t u a b (is_new old points t u) refl ht hu ha hb)
    where
      by_flag : (t u a b : ℕ) (c : Bool) → is_new old points t u ≡ c → t < capacity → u < capacity → a < n → b < n
          → cond c (λ (a b : ℕ). zeros a b) (read_as capacity n xs t u) a b ≡ cond c (λ (a b : ℕ). zeros a b) (read_as capacity n ys t u) a b
      by_flag t u a b true e ht hu ha hb = refl
      by_flag t u a b false e ht hu ha hb = h t u a b ht hu ha hb e

-- a slice of its length within the limits is cleared
pub fits_new_lem : (capacity n old points : ℕ) (xs : List Float) → leb old points && leb points capacity ≡ true → capacity ≤ 256 → n ≤ 16 → length xs ≡ length_of capacity n → fits_new capacity n old points xs ≡ true
unfolding all_fit all_long
fits_new_lem capacity n old points xs there hc hn long = rw (there, le-leb capacity 256 hc, le-leb n 16 hn, eq-eqb (length xs) (length_of capacity n) long)
