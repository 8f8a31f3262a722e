-- What is written at new places is gone once they are cleared: a slice cleared afterwards is the slice cleared before. Assumes nothing.
use Rattle.std.specs.Prelude.{◌≡◌, ◌⊎◌, ◌&&◌, ◌+◌, ◌-◌, ◌*◌, ◌≤◌, ◌<◌}
use Rattle.lists.specs.Prelude.{sym, ap, ◌∙◌, inl, inr, ⊎_elim, Bool, true, false, true≢false, cond, and-false, List, ℕ, add-mul, mul-le-mul_right, dec_lt, arith, digits_lt}
use Rattle.lists.specs.Prelude.{length, get_or, ltb, Float, nan, put_mid}
use Rattle.two_time.specs.Layout.{TwoTime, place, read_as, length_of}
use Rattle.two_time.specs.New.{is_new, written, cleared_new}
use Rattle.two_time.specs.Parts.{part-within, whole_length}
use Rattle.two_time.specs.Written.{first_new, first-most, from_first, up_to, written_to}
use Rattle.two_time.specs.Cleared.{put_elsewhere, place_is, cleared_alike}
use Rattle.two_time.proofs.ReadBack.{read_back}
use Rattle.two_time.proofs.Written.{read-written}

-- ---- neighbouring blocks of a row

module _ (capacity n : ℕ) where
  -- blocks of row t from `from` on, m of them: another block is read as it was
  module _ (t from m : ℕ) (xs ys : List Float) (ht : t < capacity) (fit : from + m ≤ capacity) (room : length xs ≡ length_of capacity n) (long : length ys ≡ m * (2 * (n * n))) where
    abbrev w : ℕ
    w = 2 * (n * n)

    abbrev at : ℕ
    at = t * (capacity * w) + from * w

    inside : at + m * w ≤ length xs
    inside = omega (arith, add-mul from m w, mul-le-mul_right w fit, part-within {q = t} {k = capacity} (capacity * w) ht, whole_length capacity n)

    -- its numbers stand before or after
    apart : (i u a b : ℕ) → u < capacity → a < n → b < n → ((i ≡ t) → (u < from) ⊎ (from + m ≤ u)) → (place capacity n i u a b + 1 < at) ⊎ (at + m * w ≤ place capacity n i u a b)
    apart i u a b hu ha hb h =
        let r : a * n + b < n * n = digits_lt ha hb in
        let p = place_is capacity n i u a b in
        let block = part-within {q = u} {k = capacity} w hu in
        elim (dec_lt i t) [
          | yes less ↦ inl (omega (arith, part-within {q = i} {k = t} (capacity * w) less))
          | no not-less ↦ elim (dec_lt t i) [
            | yes more ↦ inr (omega (arith, part-within {q = t} {k = i} (capacity * w) more, add-mul from m w, mul-le-mul_right w fit))
            | no not_more ↦ (let e : i ≡ t = omega arith in let same : i * (capacity * w) ≡ t * (capacity * w) = ap (λ (k : ℕ). k * (capacity * w)) e in
                ⊎_elim (λ l. inl (omega (arith, part-within {q = u} {k = from} w l))) (λ l. inr (omega (arith, add-mul from m w, mul-le-mul_right w l))) (h e))
          ]
        ]

    pub read_elsewhere : (i u a b : ℕ) → u < capacity → a < n → b < n → ((i ≡ t) → (u < from) ⊎ (from + m ≤ u)) → read_as capacity n (put_mid at (m * w) xs ys) i u a b ≡ read_as capacity n xs i u a b
    read_elsewhere i u a b hu ha hb h =
        let p = place capacity n i u a b in
        let sides = apart i u a b hu ha hb h in
        let number : (k : ℕ) → (k < at) ⊎ (at + m * w ≤ k) → get_or (put_mid at (m * w) xs ys) k nan ≡ get_or xs k nan = put_elsewhere at (m * w) xs ys nan inside long in
        let first : get_or (put_mid at (m * w) xs ys) p nan ≡ get_or xs p nan = number p (⊎_elim (λ l. inl (omega arith)) (λ l. inr l) sides) in
        let second : get_or (put_mid at (m * w) xs ys) (p + 1) nan ≡ get_or xs (p + 1) nan = number (p + 1) (⊎_elim (λ l. inl l) (λ l. inr (omega arith)) sides) in
        λ j. record { re = first j; im = second j }

-- ---- cleared slices

module _ (capacity n old points : ℕ) where
  module _ (f : TwoTime) (before : List Float) where
    pub cleared_to : (rows : ℕ) → cleared_new capacity n old points (written_to capacity n old points f before rows) ≡ cleared_new capacity n old points before
    unfolding written_to
    cleared_to rows =
        cleared_alike capacity n old points (written_to capacity n old points f before rows) before
        (λ t u a b ht hu ha hb e. read_back n capacity (up_to capacity n old points f before rows) t u a b ht hu ha hb ∙ ap (λ (c : Bool). cond c (f t u) (read_as capacity n before t u) a b) (ap (λ (c : Bool). ltb t rows && c) e ∙ and-false (ltb t rows)))

    pub cleared-written : cleared_new capacity n old points (written capacity n old points f before) ≡ cleared_new capacity n old points before
    cleared-written =
        cleared_alike capacity n old points (written capacity n old points f before) before
        (λ t u a b ht hu ha hb e. read-written capacity n old points f before t u a b ht hu ha hb ∙ ap (λ (c : Bool). cond c (f t u) (read_as capacity n before t u) a b) e)

  -- whatever is written at neighbouring new places of row t
  pub cleared-blocks : (t from m : ℕ) (xs ys : List Float) → t < capacity → from + m ≤ capacity → ((u : ℕ) → from ≤ u → u < from + m → is_new old points t u ≡ true) → length xs ≡ length_of capacity n
      → length ys ≡ m * (2 * (n * n)) → cleared_new capacity n old points (put_mid (t * (capacity * (2 * (n * n))) + from * (2 * (n * n))) (m * (2 * (n * n))) xs ys) ≡ cleared_new capacity n old points xs
  cleared-blocks t from m xs ys ht fit new room long =
      cleared_alike capacity n old points _ xs (λ i u a b hi hu ha hb e. read_elsewhere capacity n t from m xs ys ht fit room long i u a b hu ha hb (λ same. sides i u same e))
    where
      sides : (i u : ℕ) → i ≡ t → is_new old points i u ≡ false → (u < from) ⊎ (from + m ≤ u)
      sides i u same e =
          elim (dec_lt u from) [
            | yes l ↦ inl l
            | no l ↦ elim (dec_lt u (from + m)) [
              | yes k ↦ absurd (true≢false (sym (new u (omega arith) k) ∙ ap (λ (j : ℕ). is_new old points j u) (sym same) ∙ e))
              | no k ↦ inr (omega arith)
            ]
          ]

  -- whatever is written at row t's new places
  module _ (t from k : ℕ) (xs ys : List Float) (within : old ≤ points) (fit : points ≤ capacity) (ht : t < points) (ef : from ≡ first_new old t) (ek : k ≡ (points - from) * (2 * (n * n)))
      (room : length xs ≡ length_of capacity n) (long : length ys ≡ k) where
    pub cleared-part : cleared_new capacity n old points (put_mid (t * (capacity * (2 * (n * n))) + from * (2 * (n * n))) k xs ys) ≡ cleared_new capacity n old points xs
    cleared-part =
        let most : from ≤ points = rw ef (first-most old points t within ht) in
        ap (λ (m : ℕ). cleared_new capacity n old points (put_mid (t * (capacity * (2 * (n * n))) + from * (2 * (n * n))) m xs ys)) ek
        ∙ cleared-blocks t from (points - from) xs ys (omega arith) (omega arith) (λ u lo hi. from_first old points t within ht u (let g : first_new old t ≤ u = omega (arith, ef) in g) (omega arith)) room (long ∙ ek)
