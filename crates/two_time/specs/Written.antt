-- Slices laid out for a capacity: any is laid out of what is read from it, new places are read back, and neighbouring blocks are written in their
-- place. Assumes nothing.
use Rattle.std.specs.Prelude.{◌≡◌, ◌⊎◌, ◌&&◌, ◌||◌, ◌∷◌, ◌++◌, ◌+◌, ◌-◌, ◌*◌, ◌/◌, ◌%◌, ◌≤◌, ◌<◌}
use Rattle.lists.specs.Prelude.{refl, sym, ap, ap₂, ◌∙◌, inl, inr, ⊎_elim, Bool, and-false, true, false, not, cond, List, [], append_assoc, ℕ, max}
use Rattle.lists.specs.Prelude.{div-add-mod', mul_comm, mul_assoc, add-zero, add-mul, mul-le-mul_right, dec_lt, arith, length, get_or, length-append, take_at, drop_at, ext_get_or, leb, ltb, ltb-true, ltb-false, lt-ltb, le-ltb, le-leb, lt-leb, Float, nan, put_mid}
use Rattle.lists.specs.Indexed.{join, all_below}
use Rattle.lists.specs.Agreement.{join_agree, all_agree, each_all}
use Rattle.lists.specs.Reading.{length-join, get_or-join}
use Rattle.lists.specs.Steps.{join-add, join_flat, all-add}
use Rattle.lists.specs.Singles.{singles, length-singles}
use Rattle.complex.specs.Numbers.{pair, entry_at}
use Rattle.block.specs.Block.{Entries, lay_out}
use Rattle.block.specs.Length.{length-block}
use Rattle.block.specs.Agreement.{Agree}
use Rattle.two_time.specs.Layout.{TwoTime, read_as, length_of, lay_out_all, everywhere}
use Rattle.two_time.specs.New.{is_new, written, every_new}
use Rattle.two_time.specs.ReadBack.{length-all}
use Rattle.two_time.specs.Places.{product-most, sized}
use Rattle.two_time.specs.Parts.{part-within, whole_length}

-- ---- a list by its numbers

-- every list is its own numbers, one after another
itself : (xs : List Float) → xs ≡ singles (length xs) (λ i. get_or xs i nan)
itself xs =
    ext_get_or nan xs (singles (length xs) (λ i. get_or xs i nan)) (sym (length-singles (length xs) _))
    (λ i h. let same : i ≡ i * 1 + 0 = omega arith in
    sym (ap (λ (m : ℕ). get_or (singles (length xs) (λ k. get_or xs k nan)) m nan) same ∙ get_or-join (length xs) 1 (λ k. get_or xs k nan ∷ []) nan (λ k l. refl) i 0 h (omega arith)))

-- n rows of m, by rows
by_rows : {A : Type 0} (n m : ℕ) (f : ℕ → List A) → join (n * m) f ≡ join n (λ i. join m (λ j. f (i * m + j)))
by_rows n m f = join_agree (n * m) f (λ p. f (p / m * m + p % m)) (λ p l. rw div-add-mod') ∙ join_flat n m (λ i j. f (i * m + j))

module _ (capacity n : ℕ) where
  -- a slice is laid out of what is read from it
  pub laid_read : (xs : List Float) → length xs ≡ length_of capacity n → lay_out_all capacity n (read_as capacity n xs) ≡ xs
  unfolding lay_out_all lay_out join
  laid_read xs long =
      let count = capacity * capacity * n * n in
      let number : ℕ → List Float = λ i. get_or xs i nan ∷ [] in
      let two : ℕ → List Float = λ q. join 2 (λ j. number (q * 2 + j)) in
      let doubled : length_of capacity n ≡ 2 * count = simp mul_assoc in
      let long' : length xs ≡ count * 2 = long ∙ doubled ∙ mul_comm 2 count in
      sym (itself xs ∙ ap (λ (k : ℕ). join k number) long' ∙ by_rows count 2 number
      ∙ join_agree count two (λ q. pair (entry_at xs (2 * q))) (λ q l. rw (mul_comm q 2, add-zero))
      ∙ by_rows (capacity * capacity * n) n (λ q. pair (entry_at xs (2 * q)))
      ∙ by_rows (capacity * capacity) n (λ i. join n (λ b. pair (entry_at xs (2 * (i * n + b)))))
      ∙ by_rows capacity capacity (λ i. join n (λ a. join n (λ b. pair (entry_at xs (2 * ((i * n + a) * n + b)))))))

  -- two functions that agree at all places are laid out alike
  pub laid_agree : (f g : TwoTime) → ((t u : ℕ) → t < capacity → u < capacity → Agree n (f t u) (g t u)) → lay_out_all capacity n f ≡ lay_out_all capacity n g
  unfolding lay_out_all lay_out
  laid_agree f g h = join_agree capacity _ _ (λ t ht. join_agree capacity _ _ (λ u hu. join_agree n _ _ (λ a ha. join_agree n _ _ (λ b hb. ap pair (h t u ht hu a b ha hb)))))

  -- a list with its middle part replaced
  put-at : {A : Type 0} (a c : ℕ) (p q s ys : List A) → length p ≡ a → length q ≡ c → put_mid a c (p ++ (q ++ s)) ys ≡ p ++ (ys ++ s)
  put-at a c p q s ys hp hq = rw (take_at p (q ++ s) a hp, drop_at p (q ++ s) a hp, drop_at q s c hq)

  -- neighbouring blocks of row t, from `from` on, written in their place
  module _ (f g g' : TwoTime) (t from m : ℕ) (ht : t < capacity) (fit : from + m ≤ capacity)
      (made : (u : ℕ) → from ≤ u → u < from + m → Agree n (f t u) (g' t u))
      (rest : (i u : ℕ) → i < capacity → u < capacity → ((i ≡ t) → (u < from) ⊎ (from + m ≤ u)) → Agree n (g i u) (g' i u)) where
    abbrev w : ℕ
    w = 2 * (n * n)

    abbrev block : TwoTime → ℕ → ℕ → List Float
    block x i u = lay_out n n (x i u)

    abbrev row : TwoTime → ℕ → List Float
    row x i = join capacity (block x i)

    same_block : (x y : Entries) → Agree n x y → lay_out n n x ≡ lay_out n n y
    unfolding lay_out
    same_block x y h = join_agree n _ _ (λ a ha. join_agree n _ _ (λ b hb. ap pair (h a b ha hb)))

    length-row : (x : TwoTime) (i : ℕ) → length (row x i) ≡ capacity * w
    length-row x i = length-join capacity w (block x i) (λ u hu. length-block n (x i u))

    abbrev before : TwoTime → List Float
    before x = join t (row x) ++ join from (block x t)

    abbrev within : TwoTime → List Float
    within x = join m (λ p. block x t (from + p))

    abbrev after : TwoTime → List Float
    after x = join (capacity - (from + m)) (λ p. block x t (from + (m + p))) ++ join (capacity - (t + 1)) (λ k. row x (t + (1 + k)))

    split-row : (x : TwoTime) → row x t ≡ join from (block x t) ++ (within x ++ join (capacity - (from + m)) (λ p. block x t (from + (m + p))))
    split-row x =
        let e : capacity ≡ from + (m + (capacity - (from + m))) = omega arith in
        ap (λ (k : ℕ). join k (block x t)) e ∙ join-add from (m + (capacity - (from + m))) (block x t)
        ∙ ap (λ (ys : List Float). join from (block x t) ++ ys) (join-add m (capacity - (from + m)) (λ p. block x t (from + p)))

    split : (x : TwoTime) → lay_out_all capacity n x ≡ before x ++ (within x ++ after x)
    unfolding lay_out_all join
    split x =
        let e : capacity ≡ t + (1 + (capacity - (t + 1))) = omega arith in
        let later : List Float = join (capacity - (t + 1)) (λ k. row x (t + (1 + k))) in
        let tail : List Float = join (capacity - (from + m)) (λ p. block x t (from + (m + p))) in
        ap (λ (k : ℕ). join k (row x)) e ∙ join-add t (1 + (capacity - (t + 1))) (row x)
        ∙ ap (λ (ys : List Float). join t (row x) ++ ys) (join-add 1 (capacity - (t + 1)) (λ k. row x (t + k)) ∙ ap (λ (k : ℕ). row x k ++ later) (add-zero t) ∙ ap (λ (ys : List Float). ys ++ later) (split-row x))
        ∙ simp append_assoc

    length_before : length (before g) ≡ t * (capacity * w) + from * w
    length_before =
        length-append (join t (row g)) (join from (block g t))
        ∙ ap₂ (λ (i j : ℕ). i + j) (length-join t (capacity * w) (row g) (λ i hi. length-row g i)) (length-join from w (block g t) (λ u hu. length-block n (g t u)))

    length-within : length (within g) ≡ m * w
    length-within = length-join m w (λ p. block g t (from + p)) (λ p hp. length-block n (g t (from + p)))

    pub put-blocks : put_mid (t * (capacity * w) + from * w) (m * w) (lay_out_all capacity n g) (join m (λ p. lay_out n n (f t (from + p)))) ≡ lay_out_all capacity n g'
    put-blocks =
        ap (λ (xs : List Float). put_mid (t * (capacity * w) + from * w) (m * w) xs (join m (λ p. lay_out n n (f t (from + p))))) (split g)
        ∙ put-at (t * (capacity * w) + from * w) (m * w) (before g) (within g) (after g) (join m (λ p. lay_out n n (f t (from + p)))) length_before length-within
        ∙ ap₂ (λ (xs ys : List Float). xs ++ ys)
        (ap₂ (λ (xs ys : List Float). xs ++ ys)
        (join_agree t (row g) (row g') (λ i hi. join_agree capacity (block g i) (block g' i) (λ u hu. same_block (g i u) (g' i u) (rest i u (omega arith) hu (λ e. absurd (omega arith))))))
        (join_agree from (block g t) (block g' t) (λ u hu. same_block (g t u) (g' t u) (rest t u ht (omega arith) (λ e. inl hu)))))
        (ap₂ (λ (xs ys : List Float). xs ++ ys)
        (join_agree m _ _ (λ p hp. same_block (f t (from + p)) (g' t (from + p)) (made (from + p) (omega arith) (omega arith))))
        (ap₂ (λ (xs ys : List Float). xs ++ ys)
        (join_agree (capacity - (from + m)) _ _ (λ p hp. same_block (g t (from + (m + p))) (g' t (from + (m + p))) (rest t (from + (m + p)) ht (omega arith) (λ e. inr (omega arith)))))
        (join_agree (capacity - (t + 1)) _ _ (λ k hk. join_agree capacity _ _ (λ u hu. same_block (g (t + (1 + k)) u) (g' (t + (1 + k)) u) (rest (t + (1 + k)) u (omega arith) hu (λ e. absurd (omega arith))))))))
        ∙ sym (split g')

-- ---- written slices

module _ (capacity n old points : ℕ) (f : TwoTime) (before : List Float) where
  pub length-written : length (written capacity n old points f before) ≡ length_of capacity n
  unfolding written
  length-written = length-all n capacity _

-- what is new, and what is not
module _ (old points t u : ℕ) where
  pub new_is : old ≤ max t u → t < points → u < points → is_new old points t u ≡ true
  unfolding is_new
  new_is h ht hu = rw (le-leb old (max t u) h, lt-ltb (max t u) points (omega arith))

  pub old-is : t < old → u < old → is_new old points t u ≡ false
  unfolding is_new
  old-is ht hu = rw (lt-leb old (max t u) (omega arith))

  pub past_is : points ≤ max t u → is_new old points t u ≡ false
  unfolding is_new
  past_is h = rw (le-ltb (max t u) points h) (and-false (leb old (max t u)))

-- ---- the new places by rows

-- the first new column of row t
abbrev pub first_new : ℕ → ℕ → ℕ
first_new old t = cond (ltb t old) old 0

module _ (old points t : ℕ) (within : old ≤ points) (ht : t < points) where
  first-within : (b : Bool) → ltb t old ≡ b → cond b old 0 ≤ points
  first-within true e = within
  first-within false e = omega arith

  pub first-most : first_new old t ≤ points
  first-most = first-within (ltb t old) refl

  -- a column is new from there on, and not before
  past : (b : Bool) → ltb t old ≡ b → (u : ℕ) → cond b old 0 ≤ u → u < points → is_new old points t u ≡ true
  past true e u h hu = new_is old points t u (omega arith) ht hu
  past false e u h hu = new_is old points t u (let l = ltb-false t old e in omega arith) ht hu

  pub from_first : (u : ℕ) → first_new old t ≤ u → u < points → is_new old points t u ≡ true
  from_first u = past (ltb t old) refl u

  before_it : (b : Bool) → ltb t old ≡ b → (u : ℕ) → u < cond b old 0 → is_new old points t u ≡ false
  before_it true e u h = old-is old points t u (ltb-true t old e) h
  before_it false e u h = absurd (omega arith)

  pub before-first : (u : ℕ) → u < first_new old t → is_new old points t u ≡ false
  before-first u = before_it (ltb t old) refl u

  -- a test of the new places of row t
  pub row_asked_lem : (q : ℕ → Bool) → all_below points (λ u. not (is_new old points t u) || q u) ≡ all_below (points - first_new old t) (λ p. q (first_new old t + p))
  row_asked_lem q =
      let from = first_new old t in
      let most = first-most in
      let e : points ≡ from + (points - from) = omega arith in
      let asked : ℕ → Bool = λ u. not (is_new old points t u) || q u in
      ap (λ (k : ℕ). all_below k asked) e ∙ all-add from (points - from) asked
      ∙ ap₂ ◌&&◌ (each_all from asked (λ u hu. rw (before-first u hu))) (all_agree (points - from) _ _ (λ p hp. rw (from_first (from + p) (omega arith) (omega arith))))

-- a run's places, from 0 on: all of them
module _ (points n : ℕ) where
  pub all_new : (t u : ℕ) → t < points → u < points → is_new 0 points t u ≡ true
  all_new t u ht hu = new_is 0 points t u (omega arith) ht hu

  pub every_new-all : (p : ℕ → ℕ → ℕ → ℕ → Bool) → every_new n 0 points p ≡ everywhere points n p
  unfolding every_new everywhere
  every_new-all p = all_agree points _ _ (λ t ht. all_agree points _ _ (λ u hu. rw (all_new t u ht hu)))

  pub written_all : (f : TwoTime) (before : List Float) → written points n 0 points f before ≡ lay_out_all points n f
  unfolding written
  written_all f before = laid_agree points n _ f (λ t u ht hu a b ha hb. rw (all_new t u ht hu))

-- ---- a slice that is written row by row

module _ (capacity n old points : ℕ) (f : TwoTime) (before : List Float) where
  -- the new places of the first `rows` rows are written
  abbrev pub up_to : ℕ → TwoTime
  up_to rows t u = cond (ltb t rows && is_new old points t u) (f t u) (read_as capacity n before t u)

  unfoldable pub written_to : ℕ → List Float
  written_to rows = lay_out_all capacity n (up_to rows)

  pub length-written_to : (rows : ℕ) → length (written_to rows) ≡ length_of capacity n
  unfolding written_to
  length-written_to rows = length-all n capacity (up_to rows)

  module _ (t : ℕ) (within : old ≤ points) (room : points ≤ capacity) (ht : t < points) where
    made : (u : ℕ) → first_new old t ≤ u → u < first_new old t + (points - first_new old t) → Agree n (f t u) (up_to (t + 1) t u)
    made u lo hi a b ha hb = let most = first-most old points t within ht in rw (lt-ltb t (t + 1) (omega arith), from_first old points t within ht u lo (omega arith))

    -- a row that is not written now is as it was
    rest : (i u : ℕ) → i < capacity → u < capacity → ((i ≡ t) → (u < first_new old t) ⊎ (first_new old t + (points - first_new old t) ≤ u)) → Agree n (up_to t i u) (up_to (t + 1) i u)
    rest i u hi hu h a b ha hb =
        elim (dec_lt i t) [
          | yes less ↦ rw (lt-ltb i t less, lt-ltb i (t + 1) (omega arith))
          | no not-less ↦ elim (dec_lt t i) [
            | yes more ↦ rw (le-ltb i t (omega arith), le-ltb i (t + 1) (omega arith))
            | no not_more ↦ (let e : i ≡ t = omega arith in rw (le-ltb i t (omega arith), lt-ltb i (t + 1) (omega arith), not-now e))
          ]
        ]
      where
        not-now : i ≡ t → is_new old points i u ≡ false
        not-now e =
            ⊎_elim
            (λ l. ap (λ (k : ℕ). is_new old points k u) e ∙ before-first old points t within ht u l)
            (λ l. let most = first-most old points t within ht in past_is old points i u (omega arith))
            (h e)

    -- row t, from its first new column to the points
    pub row_written : put_mid (t * (capacity * (2 * (n * n))) + first_new old t * (2 * (n * n))) ((points - first_new old t) * (2 * (n * n))) (written_to t) (join (points - first_new old t) (λ p. lay_out n n (f t (first_new old t + p))))
        ≡ written_to (t + 1)
    unfolding written_to
    row_written =
        let most = first-most old points t within ht in
        put-blocks capacity n f (up_to t) (up_to (t + 1)) t (first_new old t) (points - first_new old t) (omega arith) (omega arith) made rest

    -- the same by the names that code has
    pub row_step : (from k : ℕ) (xs ys : List Float) → from ≡ first_new old t → xs ≡ written_to t → ys ≡ join (points - from) (λ p. lay_out n n (f t (from + p))) → k ≡ (points - from) * (2 * (n * n))
        → put_mid (t * (capacity * (2 * (n * n))) + from * (2 * (n * n))) k xs ys ≡ written_to (t + 1)
    row_step from k xs ys ef ex ey ek = rw (ex, ey, ek, ef) row_written

  -- all rows
  pub written-rows : points ≤ capacity → written_to points ≡ written capacity n old points f before
  unfolding written_to written
  written-rows room = laid_agree capacity n _ _ (λ t u ht hu a b ha hb. by_row t u a b (ltb t points) refl)
    where
      by_row : (t u a b : ℕ) (c : Bool) → ltb t points ≡ c → cond (c && is_new old points t u) (f t u) (read_as capacity n before t u) a b ≡ cond (is_new old points t u) (f t u) (read_as capacity n before t u) a b
      by_row t u a b true e = refl
      by_row t u a b false e = rw (let l = ltb-false t points e in past_is old points t u (omega arith))

-- where a row's new places stand in the slice: every number on the way fits
pub record RowPart (capacity n points t from len : ℕ) : Type 0 where
  pub block : 2 * (n * n) ≤ 512
  pub square : n * n ≤ 256
  pub width : capacity * (2 * (n * n)) ≤ 131072
  pub start : t * (capacity * (2 * (n * n))) + from * (2 * (n * n)) ≤ t * (capacity * (2 * (n * n))) + points * (2 * (n * n))
  pub end : t * (capacity * (2 * (n * n))) + points * (2 * (n * n)) ≤ len
  pub all : len ≤ 33554432
  pub long : t * (capacity * (2 * (n * n))) + points * (2 * (n * n)) - (t * (capacity * (2 * (n * n))) + from * (2 * (n * n))) ≡ (points - from) * (2 * (n * n))

pub row-part : (capacity n points t from len : ℕ) → capacity ≤ 256 → n ≤ 16 → points ≤ capacity → t < points → from ≤ points → len ≡ length_of capacity n → RowPart capacity n points t from len
row-part capacity n points t from len hc hn room ht hf e =
    let w = 2 * (n * n) in
    let square = product-most n n hn hn in
    let block : w ≤ 512 = omega arith in
    let width = product-most capacity w hc block in
    let k : ℕ = points - from in
    let split : points ≡ from + k = omega arith in
    let parts : points * w ≡ from * w + k * w = ap (λ (m : ℕ). m * w) split ∙ add-mul from k w in
    let row = part-within {q = t} {k = capacity} (capacity * w) (omega arith) in
    let fit = mul-le-mul_right w room in
    record {
      block = block;
      square = square;
      width = width;
      start = omega arith;
      end = omega (arith, whole_length capacity n);
      all = omega (arith, (sized capacity n hc hn).all);
      long = omega arith;
    }
