-- Row t of G from K and the rows of G before it, as they stand in a list; what a loop over groups has written of it. Assumes nothing.
use Rattle.std.specs.Prelude.{Ok, Err, ◌≡◌, ◌||◌, ◌∷◌, ◌++◌, ◌+◌, ◌-◌, ◌*◌, ◌≤◌, ◌<◌}
use Rattle.lists.specs.Prelude.{refl, sym, ap, ap₂, ◌∙◌, inl, inr, cond, List, [], append_assoc, ℕ}
use Rattle.lists.specs.Prelude.{mul-le-mul_right, mul_assoc, mul_left_comm, add-mul, zero-mul, add-zero, arith, digits_lt, ltb, eqb, length, get_or, take, drop, length-append, length-drop, length-replicate}
use Rattle.lists.specs.Prelude.{get_or-append, length-take-le, get_or-take, get_or-drop, take_at, drop_at, drop-drop, ext_get_or, Float, nan, post_of, mid_of, put_mid}
use Rattle.lists.specs.Indexed.{all_below, join}
use Rattle.lists.specs.Agreement.{all_agree, join_agree}
use Rattle.lists.specs.Reading.{length-join}
use Rattle.lists.specs.Steps.{join-add}
use Rattle.complex.specs.declared.Complex.{Complex}
use Rattle.complex.specs.Arithmetic.{plus_zero, czero, cfinite}
use Rattle.complex.specs.Numbers.{pair}
use Rattle.block.specs.Block.{lay_out}
use Rattle.block.specs.Length.{length-block}
use Rattle.two_time.specs.Summed.{Summed}
use Rattle.two_time.specs.declared.sums.SumError.TheVariants.{Overflow, Unfit}
use Rattle.two_time.specs.Layout.{place, read_as, length_of}
use Rattle.two_time.specs.Sums.{dyson_terms}
use Rattle.two_time.specs.WeightedSum.{weighted_sum, finite_sum}
use Rattle.two_time.specs.Agreement.{AgreeTerms, weighted_agree}
use Rattle.two_time.specs.OneTest.{one_test}
use Rattle.two_time.specs.Calls.{size_checks}
use Rattle.two_time.specs.Outcome.{SumsOutcome, summed_answer, summed_out}
use Rattle.two_time.specs.New.{cleared_new}
use Rattle.two_time.specs.Parts.{part-within, whole_length}
use Rattle.two_time.specs.Written.{new_is}
use Rattle.two_time.specs.Cleared.{put_elsewhere}
use Rattle.two_time.proofs.Cleared.{cleared-blocks}
use Rattle.groups.specs.Forward.{forward_sum, forward_entry, forward_block, forward_finite, row_at}
use Rattle.groups.specs.Groups.{forward_numbers, forward_group}

-- ---- a list with a part written

module _ {A : Type 0} where
  -- before the part it is as it was
  pub put-below : (a k i : ℕ) (xs ys : List A) (d : A) → a ≤ length xs → i < a → get_or (put_mid a k xs ys) i d ≡ get_or xs i d
  put-below a k i xs ys d h l =
      get_or-append (take a xs) (ys ++ post_of a k xs) d i (omega (arith, length-take-le a xs h)) ∙ get_or-take a xs i d l

  -- one part after another
  pub put-put : (a k m : ℕ) (xs ys zs : List A) → a ≤ length xs → length ys ≡ k → put_mid (a + k) m (put_mid a k xs ys) zs ≡ put_mid a (k + m) xs (ys ++ zs)
  put-put a k m xs ys zs h l =
      let first : length (take a xs) ≡ a = length-take-le a xs h in
      let both : length (take a xs ++ ys) ≡ a + k = length-append (take a xs) ys ∙ ap₂ (λ (i j : ℕ). i + j) first l in
      let split : put_mid a k xs ys ≡ (take a xs ++ ys) ++ post_of a k xs = sym (append_assoc (take a xs) ys (post_of a k xs)) in
      ap (λ (w : List A). put_mid (a + k) m w zs) split
      ∙ ap₂ (λ (u v : List A). u ++ (zs ++ drop m v)) (take_at (take a xs ++ ys) (post_of a k xs) (a + k) both) (drop_at (take a xs ++ ys) (post_of a k xs) (a + k) both)
      ∙ ap (λ (v : List A). (take a xs ++ ys) ++ (zs ++ v)) (drop-drop m k (drop a xs))
      ∙ append_assoc (take a xs) ys (zs ++ drop (k + m) (drop a xs))
      ∙ ap (λ (v : List A). take a xs ++ v) (sym (append_assoc ys zs (drop (k + m) (drop a xs))))

-- ---- the loop over groups

pub row_is : (points n t : ℕ) → row_at points n t ≡ 2 * (t * points * n * n)
row_is points n t =
    sym (mul_assoc t points (2 * (n * n))) ∙ mul_left_comm (t * points) 2 (n * n) ∙ ap (λ (m : ℕ). 2 * m) (sym (mul_assoc (t * points) n n))

-- an entry of an earlier row stands before it
pub earlier : (points n t s u c e : ℕ) → s < t → u < points → c < n → e < n → place points n s u c e + 1 < row_at points n t
earlier points n t s u c e hs hu hc he =
    let h : ((s * points + u) * n + c) * n + e < t * points * n * n = digits_lt (digits_lt (digits_lt hs hu) hc) he in
    omega (arith, row_is points n t)

module _ (points n : ℕ) (times free kernel retarded : List Float) (t : ℕ) (ht : t < points) (room : row_at points n t ≤ length retarded) (k : ℕ) (ys now : List Float)
    (is : now ≡ put_mid (row_at points n t) k retarded ys) where
  -- an earlier row is read as it was
  read_below : (s u c e : ℕ) → s < t → u < points → c < n → e < n → read_as points n now s u c e ≡ read_as points n retarded s u c e
  read_below s u c e hs hu hc he =
      let at = place points n s u c e in
      let h = earlier points n t s u c e hs hu hc he in
      let number : (i : ℕ) → i < row_at points n t → get_or now i nan ≡ get_or retarded i nan = λ i l. ap (λ (w : List Float). get_or w i nan) is ∙ put-below (row_at points n t) k i retarded ys nan room l in
      λ j. record { re = number at (omega arith) j; im = number (at + 1) h j }

  module _ (u a b : ℕ) (hu : u < points) (ha : a < n) (hb : b < n) where
    agreeing : AgreeTerms n (dyson_terms times (read_as points n free) (read_as points n kernel) (read_as points n now) t u) (dyson_terms times (read_as points n free) (read_as points n kernel) (read_as points n retarded) t u)
    agreeing =
        record {
          from = refl;
          count = refl;
          start = λ c e hc he. refl;
          weight = λ s lo hi. refl;
          left = λ s lo hi c e hc he. refl;
          right = λ s lo hi c e hc he. read_below s u c e (omega arith) hu hc he;
        }

    -- so the sum is that over the list as it was
    same_sum : weighted_sum n (dyson_terms times (read_as points n free) (read_as points n kernel) (read_as points n now) t u) a b ≡ weighted_sum n (forward_sum points n times free kernel retarded t u) a b
    same_sum = weighted_agree n _ _ agreeing a b ha hb

    same_test : finite_sum n (dyson_terms times (read_as points n free) (read_as points n kernel) (read_as points n now) t u) a b ≡ finite_sum n (forward_sum points n times free kernel retarded t u) a b
    same_test =
        one_test n (dyson_terms times (read_as points n free) (read_as points n kernel) (read_as points n now) t u) a b
        ∙ ap (λ (z : Complex). eqb (t - u) 0 || cfinite z) same_sum ∙ sym (one_test n (forward_sum points n times free kernel retarded t u) a b)

  -- and so are its test and its block
  pub same-finite : (u : ℕ) → u < points → forward_finite points n times free kernel now t u ≡ forward_finite points n times free kernel retarded t u
  unfolding forward_finite
  same-finite u hu = all_agree n _ _ (λ a ha. all_agree n _ _ (λ b hb. same_test u a b hu ha hb))

  pub same_block : (u : ℕ) → u < points → forward_block points n times free kernel now t u ≡ forward_block points n times free kernel retarded t u
  unfolding lay_out forward_entry
  same_block u hu = join_agree n _ _ (λ a ha. join_agree n _ _ (λ b hb. ap (λ (z : Complex). pair (cond (ltb t u) czero z)) (same_sum u a b hu ha hb)))

pub length-forward : (points n : ℕ) (times free kernel retarded : List Float) (t k : ℕ) → length (join k (forward_block points n times free kernel retarded t)) ≡ k * (2 * (n * n))
length-forward points n times free kernel retarded t k = length-join k (2 * (n * n)) _ (λ u h. length-block n (forward_entry points n times free kernel retarded t u))

-- one more group is written
pub forward-more : (points n : ℕ) (times free kernel retarded : List Float) (t u m w : ℕ) → row_at points n t ≤ length retarded → w ≡ m * (2 * (n * n))
    → put_mid (row_at points n t + u * (2 * (n * n))) w (put_mid (row_at points n t) (u * (2 * (n * n))) retarded (join u (forward_block points n times free kernel retarded t))) (join m (λ p. forward_block points n times free kernel retarded t (u + p)))
    ≡ put_mid (row_at points n t) ((u + m) * (2 * (n * n))) retarded (join (u + m) (forward_block points n times free kernel retarded t))
forward-more points n times free kernel retarded t u m w room e =
    let v = 2 * (n * n) in
    let f = forward_block points n times free kernel retarded t in
    ap (λ (i : ℕ). put_mid (row_at points n t + u * v) i (put_mid (row_at points n t) (u * v) retarded (join u f)) (join m (λ p. f (u + p)))) e
    ∙ put-put (row_at points n t) (u * v) (m * v) retarded (join u f) (join m (λ p. f (u + p))) room (length-forward points n times free kernel retarded t u)
    ∙ ap₂ (λ (i : ℕ) (ys : List Float). put_mid (row_at points n t) i retarded ys) (sym (add-mul u m v)) (sym (join-add u m f))

-- ---- what is written within a part is gone once the part is written

module _ {A : Type 0} (a k at m : ℕ) (xs zs ys : List A) (d : A) (room : a + k ≤ length xs) (from : a ≤ at) (to : at + m ≤ a + k) (long : length zs ≡ m) where
  same-long : length (put_mid at m xs zs) ≡ length xs
  same-long =
      length-append (take at xs) (zs ++ post_of at m xs) ∙ ap₂ (λ (i j : ℕ). i + j) (length-take-le at xs (omega arith)) (length-append zs (post_of at m xs) ∙ ap₂ (λ (i j : ℕ). i + j) long (length-drop m (drop at xs) ∙ ap (λ (i : ℕ). i - m) (length-drop at xs)))
      ∙ (let e : at + (m + (length xs - at - m)) ≡ length xs = omega arith in e)

  first-same : take a (put_mid at m xs zs) ≡ take a xs
  first-same =
      ext_get_or d _ _ (length-take-le a (put_mid at m xs zs) (omega (arith, same-long)) ∙ sym (length-take-le a xs (omega arith)))
      (λ i h. let l : i < a = omega (arith, length-take-le a (put_mid at m xs zs) (omega (arith, same-long))) in
      get_or-take a (put_mid at m xs zs) i d l ∙ put_elsewhere at m xs zs d (omega arith) long i (inl (omega arith)) ∙ sym (get_or-take a xs i d l))

  last-same : drop k (drop a (put_mid at m xs zs)) ≡ drop k (drop a xs)
  last-same =
      ext_get_or d _ _ (length-drop k (drop a (put_mid at m xs zs)) ∙ ap (λ (i : ℕ). i - k) (length-drop a (put_mid at m xs zs) ∙ ap (λ (i : ℕ). i - a) same-long ∙ sym (length-drop a xs)) ∙ sym (length-drop k (drop a xs)))
      (λ i h. get_or-drop k (drop a (put_mid at m xs zs)) i d ∙ get_or-drop a (put_mid at m xs zs) (k + i) d
      ∙ put_elsewhere at m xs zs d (omega arith) long (a + (k + i)) (inr (omega arith)) ∙ sym (get_or-drop a xs (k + i) d) ∙ sym (get_or-drop k (drop a xs) i d))

  pub put-within : put_mid a k (put_mid at m xs zs) ys ≡ put_mid a k xs ys
  put-within = ap₂ (λ (p q : List A). p ++ (ys ++ q)) first-same last-same

-- whatever a group leaves, it leaves in its place
module _ (points n : ℕ) (times free kernel xs : List Float) (t u places : ℕ) (ys : List Float) (room : row_at points n t + (t + 1) * (2 * (n * n)) ≤ length xs) (under : u + places ≤ t + 1) where
  abbrev w : ℕ
  w = 2 * (n * n)

  abbrev at : ℕ
  at = row_at points n t + u * w

  inside : at + places * w ≤ row_at points n t + (t + 1) * w
  inside = omega (arith, add-mul u places w, mul-le-mul_right w under)

  abbrev part : List Float
  part = mid_of at (places * w) xs

  part-long : length part ≡ places * w
  part-long = length-take-le (places * w) (drop at xs) (omega (arith, length-drop at xs, inside))

  left-long : (answer : Summed) → length (summed_out answer (forward_numbers points n times free kernel xs t u places) part) ≡ places * w
  unfolding summed_out
  left-long (Ok tt) = length-join places w _ (λ p hp. length-block n (forward_entry points n times free kernel xs t (u + p)))
  left-long (Err Overflow) = length-replicate (length part) plus_zero ∙ part-long
  left-long (Err Unfit) = part-long

  pub group_within : put_mid (row_at points n t) ((t + 1) * w) (forward_group points n times free kernel xs t u places).out ys ≡ put_mid (row_at points n t) ((t + 1) * w) xs ys
  unfolding forward_group
  group_within =
      let answer = (forward_group points n times free kernel xs t u places).answer in
      put-within (row_at points n t) ((t + 1) * w) at (places * w) xs (summed_out answer (forward_numbers points n times free kernel xs t u places) part) ys nan room (omega arith) inside (left-long answer)

-- ---- the row

module _ (points n : ℕ) (times free kernel retarded : List Float) (t : ℕ) where
  -- `forward_row`: the slice with row t to the diagonal in its place, +0 there where something is not finite
  unfoldable pub forward_row : SumsOutcome
  forward_row =
      let answer = summed_answer (size_checks points n (ltb t points) (free ∷ kernel ∷ retarded ∷ [])) (all_below (t + 1) (forward_finite points n times free kernel retarded t)) in
      let count = (t + 1) * (2 * (n * n)) in
      record { answer = answer; out = put_mid (row_at points n t) count retarded (summed_out answer (join (t + 1) (forward_block points n times free kernel retarded t)) (mid_of (row_at points n t) count retarded)) }

-- row t to the diagonal lies within the row, and the row within the slice
pub to_diagonal : (points v t : ℕ) → t < points → (t + 1) * v ≤ points * v
to_diagonal points v t h = mul-le-mul_right v (let g : t + 1 ≤ points = omega arith in g)

-- whatever is left of row t is left at new places
module _ (capacity n : ℕ) (times free kernel retarded : List Float) (t old points : ℕ) (new : old ≤ t) (ht : t < points) (room : points ≤ capacity) (long : length retarded ≡ length_of capacity n) where
  abbrev width : ℕ
  width = (t + 1) * (2 * (n * n))

  row_fits : row_at capacity n t + width ≤ length retarded
  row_fits = omega (arith, to_diagonal capacity (2 * (n * n)) t (omega arith), part-within {q = t} {k = capacity} (capacity * (2 * (n * n))) (omega arith), whole_length capacity n)

  mid_long : length (mid_of (row_at capacity n t) width retarded) ≡ width
  mid_long = length-take-le width (drop (row_at capacity n t) retarded) (omega (arith, length-drop (row_at capacity n t) retarded, row_fits))

  row-left : (answer : Summed) → length (summed_out answer (join (t + 1) (forward_block capacity n times free kernel retarded t)) (mid_of (row_at capacity n t) width retarded)) ≡ width
  unfolding summed_out
  row-left (Ok tt) = length-forward capacity n times free kernel retarded t (t + 1)
  row-left (Err Overflow) = length-replicate (length (mid_of (row_at capacity n t) width retarded)) plus_zero ∙ mid_long
  row-left (Err Unfit) = mid_long

  pub row_hidden : cleared_new capacity n old points (forward_row capacity n times free kernel retarded t).out ≡ cleared_new capacity n old points retarded
  unfolding forward_row
  row_hidden =
      let w = 2 * (n * n) in
      let at : row_at capacity n t ≡ t * (capacity * w) + 0 * w = sym (ap (λ (k : ℕ). t * (capacity * w) + k) (zero-mul w) ∙ add-zero (t * (capacity * w))) in
      let answer = (forward_row capacity n times free kernel retarded t).answer in
      let part = summed_out answer (join (t + 1) (forward_block capacity n times free kernel retarded t)) (mid_of (row_at capacity n t) width retarded) in
      ap (λ (k : ℕ). cleared_new capacity n old points (put_mid k width retarded part)) at
      ∙ cleared-blocks capacity n old points t 0 (t + 1) retarded part (omega arith) (omega arith) (λ u lo hi. new_is old points t u (omega arith) ht (omega arith)) long (row-left answer)
