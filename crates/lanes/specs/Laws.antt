-- A list of 512 numbers is its lanes. Assumes nothing.
use Rattle.std.specs.Prelude.{◌≡◌, ◌∷◌, ◌++◌, ◌+◌, ◌-◌, ◌*◌, ◌/◌, ◌%◌, ◌≤◌, ◌<◌}
use Rattle.lists.specs.Prelude.{refl, sym, ap, ◌∙◌, List, [], ℕ, div-add-mod', mod-lt, dec_lt, arith, length, get_or}
use Rattle.lists.specs.Prelude.{length-append, get_or-append, ext_get_or, get_or-append-add, Float, nan, lt-ltb, le-ltb}
use Rattle.lists.specs.Indexed.{join}
use Rattle.lists.specs.Reading.{length-join, get_or-join}
use Rattle.complex.specs.declared.Complex.{Complex}
use Rattle.lanes.specs.Lanes.{lane_at, lanes_of, with_lanes}

-- a row of parts
module _ (f : ℕ → Float) where
  abbrev parts : List Float
  parts = join 16 (λ c. f c ∷ [])

  parts-long : length parts ≡ 16
  parts-long = length-join 16 1 (λ c. f c ∷ []) (λ c h. refl)

  part_at : (c : ℕ) → c < 16 → get_or parts c nan ≡ f c
  part_at c h = ap (λ (i : ℕ). get_or parts i nan) (let e : c ≡ c * 1 + 0 = omega arith in e) ∙ get_or-join 16 1 (λ c. f c ∷ []) nan (λ k l. refl) c 0 h (omega arith)

-- the numbers of a list of lanes
module _ (f : ℕ → ℕ → Complex) where
  abbrev row : ℕ → List Float
  row a = parts (λ c. (f a c).re) ++ parts (λ c. (f a c).im)

  row-long : (a : ℕ) → length (row a) ≡ 32
  row-long a = length-append (parts (λ c. (f a c).re)) (parts (λ c. (f a c).im)) ∙ rw (parts-long (λ c. (f a c).re), parts-long (λ c. (f a c).im))

  pub lanes-long : length (lanes_of f) ≡ 512
  unfolding lanes_of
  lanes-long = length-join 16 32 row (λ a h. row-long a)

  in_row : (a j : ℕ) → a < 16 → j < 32 → get_or (lanes_of f) (32 * a + j) nan ≡ get_or (row a) j nan
  unfolding lanes_of
  in_row a j ha hj = ap (λ (i : ℕ). get_or (join 16 row) i nan) (let e : 32 * a + j ≡ a * 32 + j = omega arith in e) ∙ get_or-join 16 32 row nan (λ k l. row-long k) a j ha hj

  module _ (a c : ℕ) (ha : a < 16) (hc : c < 16) where
    re_at : get_or (lanes_of f) (32 * a + c) nan ≡ (f a c).re
    re_at =
        in_row a c ha (omega arith) ∙ get_or-append (parts (λ c. (f a c).re)) (parts (λ c. (f a c).im)) nan c (omega (arith, parts-long (λ c. (f a c).re)))
        ∙ part_at (λ c. (f a c).re) c hc

    im_at : get_or (lanes_of f) (32 * a + (c + 16)) nan ≡ (f a c).im
    im_at =
        in_row a (c + 16) ha (omega arith)
        ∙ ap (λ (i : ℕ). get_or (row a) i nan) (let e : c + 16 ≡ length (parts (λ c. (f a c).re)) + c = omega (arith, parts-long (λ c. (f a c).re)) in e)
        ∙ get_or-append-add (parts (λ c. (f a c).re)) (parts (λ c. (f a c).im)) c nan ∙ part_at (λ c. (f a c).im) c hc

    pub lane_of : lane_at (lanes_of f) a c ≡ f a c
    lane_of = λ i. record { re = re_at i; im = im_at i }

  -- a list with these lanes is that list
  pub lanes_are : (xs : List Float) → length xs ≡ 512 → ((a c : ℕ) → a < 16 → c < 16 → lane_at xs a c ≡ f a c) → xs ≡ lanes_of f
  lanes_are xs long h = ext_get_or nan xs (lanes_of f) (long ∙ sym lanes-long) (λ i l. ap (λ (k : ℕ). get_or xs k nan) (at i) ∙ number (i / 32) (i % 32) (row_of i (omega arith)) (let l : i % 32 < 32 = mod-lt i (omega arith) in l) ∙ sym (ap (λ (k : ℕ). get_or (lanes_of f) k nan) (at i)))
    where
      at : (i : ℕ) → i ≡ 32 * (i / 32) + i % 32
      at i = omega (arith, div-add-mod' i 32)

      row_of : (i : ℕ) → i < 512 → i / 32 < 16
      row_of i l = omega (arith, at i)

      number : (a j : ℕ) → a < 16 → j < 32 → get_or xs (32 * a + j) nan ≡ get_or (lanes_of f) (32 * a + j) nan
      number a j ha hj =
          elim (dec_lt j 16) [
            | yes l ↦ ap (λ (z : Complex). z.re) (h a j ha l) ∙ sym (re_at a j ha l)
            | no l ↦ (let e : j ≡ j - 16 + 16 = omega arith in
                ap (λ (k : ℕ). get_or xs (32 * a + k) nan) e ∙ ap (λ (z : Complex). z.im) (h a (j - 16) ha (omega arith)) ∙ sym (im_at a (j - 16) ha (omega arith))
                ∙ sym (ap (λ (k : ℕ). get_or (lanes_of f) (32 * a + k) nan) e))
          ]

-- some lanes are given, and the others are as they were
module _ (n count : ℕ) (f : ℕ → ℕ → Complex) (old : List Float) where
  pub with_made : (a c : ℕ) → n ≤ 16 → count ≤ 16 → a < n → c < count → lane_at (with_lanes n count f old) a c ≡ f a c
  with_made a c hn hc ha hb = lane_of _ a c (omega arith) (omega arith) ∙ rw (lt-ltb a n ha, lt-ltb c count hb)

  pub with_lanes_lem : (new : List Float) → length new ≡ 512
      → ((a c : ℕ) → a < n → c < count → lane_at new a c ≡ f a c)
      → ((a c : ℕ) → a < n → count ≤ c → c < 16 → lane_at new a c ≡ lane_at old a c)
      → ((a c : ℕ) → n ≤ a → a < 16 → c < 16 → lane_at new a c ≡ lane_at old a c) → new ≡ with_lanes n count f old
  with_lanes_lem new long made beyond kept =
      lanes_are _ new long (λ a c ha hc.
      elim (dec_lt a n) [
        | yes l ↦ elim (dec_lt c count) [
          | yes m ↦ made a c l m ∙ rw (lt-ltb a n l, lt-ltb c count m)
          | no m ↦ beyond a c l (omega arith) hc ∙ rw (lt-ltb a n l, le-ltb c count (let h : count ≤ c = omega arith in h))
        ]
        | no l ↦ kept a c (omega arith) ha hc ∙ rw (le-ltb a n (let h : n ≤ a = omega arith in h))
      ])
