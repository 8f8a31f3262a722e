-- Rows of lanes as parts of one list, and a loop that changes them in place, one a step. Assumes nothing.
use Rattle.std.specs.Prelude.{◌≡◌, ◌++◌, ◌+◌, ◌-◌, ◌*◌, ◌≤◌, ◌<◌}
use Rattle.lists.specs.Prelude.{refl, sym, ap, subst, ◌∙◌, List, ⊎_elim, ℕ, dec_lt, eq-or-lt_of_le, le_antisymm, arith, length, get_or}
use Rattle.lists.specs.Prelude.{take, drop, replicate, length-drop, get_or-replicate, get_or-append, length-take-le, get_or-take, get_or-drop, get_or-append-add, Float, nan}
use Rattle.lists.specs.Prelude.{mid_of, post_of, put_mid, same_len_mid}
use Rattle.complex.specs.declared.Complex.{Complex}
use Rattle.complex.specs.Arithmetic.{czero, plus_zero}
use Rattle.lanes.specs.Lanes.{lane_at, with_lanes}
use Rattle.lanes.specs.Laws.{with_lanes_lem}
use Rattle.rows.specs.Numbers.{number_at, Mapped}

apart : (b a : ℕ) → (b < a → ⊥) → (b ≡ a → ⊥) → a < b
apart b a l ne = ⊎_elim (λ e. absurd (ne (sym e))) (λ h. h) (eq-or-lt_of_le (let w : a ≤ b = omega arith in w))

-- the width of row a, as a part from its start to its end
pub width : (a : ℕ) → 32 * a + 32 - 32 * a ≡ 32
width a = omega arith

-- row a by itself, and the rows with another in its place; w is the width as it is said
module _ (xs : List Float) (a w : ℕ) (e : w ≡ 32) (long : length xs ≡ 512) (h : a < 16) where
  at_part : (j : ℕ) → j < 32 → get_or (mid_of (32 * a) w xs) j nan ≡ get_or xs (32 * a + j) nan
  at_part j k = get_or-take w (drop (32 * a) xs) j nan (omega arith) ∙ get_or-drop (32 * a) xs j nan

  pub part_lane : (c : ℕ) → c < 16 → number_at (mid_of (32 * a) w xs) c ≡ lane_at xs a c
  part_lane c l = rw (at_part c (omega arith), at_part (c + 16) (omega arith))

  pub part_length : length (mid_of (32 * a) w xs) ≡ 32
  part_length = length-take-le w (drop (32 * a) xs) (omega (arith, length-drop (32 * a) xs)) ∙ e

  module _ (ys : List Float) (ly : length ys ≡ 32) where
    abbrev put : List Float
    put = put_mid (32 * a) w xs ys

    pub put-length : length put ≡ 512
    put-length = same_len_mid (32 * a) w xs ys (ly ∙ sym part_length) ∙ long

    before-long : length (take (32 * a) xs) ≡ 32 * a
    before-long = length-take-le (32 * a) xs (omega arith)

    put-here : (j : ℕ) → j < 32 → get_or put (32 * a + j) nan ≡ get_or ys j nan
    put-here j k =
        ap (λ (m : ℕ). get_or put (m + j) nan) (sym before-long) ∙ get_or-append-add (take (32 * a) xs) (ys ++ post_of (32 * a) w xs) j nan
        ∙ get_or-append ys (post_of (32 * a) w xs) nan j (omega arith)

    put-before : (j : ℕ) → j < 32 * a → get_or put j nan ≡ get_or xs j nan
    put-before j k = get_or-append (take (32 * a) xs) (ys ++ post_of (32 * a) w xs) nan j (omega (arith, before-long)) ∙ get_or-take (32 * a) xs j nan k

    put-after : (j : ℕ) → get_or put (32 * a + (32 + j)) nan ≡ get_or xs (32 * a + (32 + j)) nan
    put-after j =
        ap (λ (m : ℕ). get_or put (m + (32 + j)) nan) (sym before-long) ∙ get_or-append-add (take (32 * a) xs) (ys ++ post_of (32 * a) w xs) (32 + j) nan
        ∙ ap (λ (m : ℕ). get_or (ys ++ post_of (32 * a) w xs) (m + j) nan) (sym ly) ∙ get_or-append-add ys (post_of (32 * a) w xs) j nan
        ∙ get_or-drop w (drop (32 * a) xs) j nan ∙ ap (λ (m : ℕ). get_or (drop (32 * a) xs) (m + j) nan) e ∙ get_or-drop (32 * a) xs (32 + j) nan

    pub put_lane : (c : ℕ) → c < 16 → lane_at put a c ≡ number_at ys c
    put_lane c l = rw (put-here c (omega arith), put-here (c + 16) (omega arith))

    other : (b j : ℕ) → j < 32 → (b ≡ a → ⊥) → get_or put (32 * b + j) nan ≡ get_or xs (32 * b + j) nan
    other b j k ne =
        elim (dec_lt b a) [
          | yes l ↦ put-before (32 * b + j) (omega arith)
          | no l ↦
              (let m : ℕ = 32 * b + j - (32 * a + 32) in
              let past : a < b = apart b a l ne in
              let e : 32 * b + j ≡ 32 * a + (32 + m) = omega arith in
              ap (λ (i : ℕ). get_or put i nan) e ∙ put-after m ∙ ap (λ (i : ℕ). get_or xs i nan) (sym e))
        ]

    pub put_other : (b c : ℕ) → c < 16 → (b ≡ a → ⊥) → lane_at put b c ≡ lane_at xs b c
    put_other b c l ne = rw (other b c (omega arith) ne, other b (c + 16) (omega arith) ne)

-- rows of +0
pub lane_zero : (a c : ℕ) → a < 16 → c < 16 → lane_at (replicate 512 plus_zero) a c ≡ czero
lane_zero a c ha hc = rw (get_or-replicate 512 (32 * a + c) plus_zero nan (omega arith), get_or-replicate 512 (32 * a + (c + 16)) plus_zero nan (omega arith))

-- the first `lanes` lanes of the first a rows are what f makes of the old ones, and the others are the old ones
pub record Rowed (f : ℕ → ℕ → Complex → Complex) (lanes a : ℕ) (old new : List Float) : Type 0 where
  pub long : length new ≡ 512
  pub made : (b c : ℕ) → b < a → c < lanes → lane_at new b c ≡ f b c (lane_at old b c)
  pub beyond : (b c : ℕ) → b < a → lanes ≤ c → c < 16 → lane_at new b c ≡ lane_at old b c
  pub kept : (b c : ℕ) → a ≤ b → c < 16 → lane_at new b c ≡ lane_at old b c

-- what holds of the last row and of those before it
up_to : (P : ℕ → Type 0) (a b : ℕ) → b < a + 1 → P a → (b < a → P b) → P b
up_to P a b h last before = ⊎_elim (λ e. subst P (sym e) last) before (eq-or-lt_of_le (let l : b ≤ a = omega arith in l))

module _ (f : ℕ → ℕ → Complex → Complex) (lanes : ℕ) where
  pub rowed_none : (xs : List Float) → length xs ≡ 512 → Rowed f lanes 0 xs xs
  rowed_none xs h = record { long = h; made = λ b c l m. absurd (omega arith); beyond = λ b c l m k. refl; kept = λ b c l m. refl }

  -- one more row, in its place
  module _ (a w : ℕ) (old mid ys : List Float) (r : Rowed f lanes a old mid) (h : a < 16) (few : lanes ≤ 16) (e : w ≡ 32) (m : Mapped (f a) lanes (mid_of (32 * a) w mid) ys) where
    abbrev new : List Float
    new = put_mid (32 * a) w mid ys

    row-long : length ys ≡ 32
    row-long = m.long ∙ part_length mid a w e r.long h

    here : (c : ℕ) → c < 16 → lane_at new a c ≡ number_at ys c
    here = put_lane mid a w e r.long h ys row-long

    other_row : (b c : ℕ) → c < 16 → (b ≡ a → ⊥) → lane_at new b c ≡ lane_at mid b c
    other_row = put_other mid a w e r.long h ys row-long

    was : (c : ℕ) → c < 16 → number_at (mid_of (32 * a) w mid) c ≡ lane_at old a c
    was c l = part_lane mid a w e r.long h c l ∙ r.kept a c (omega arith) l

    pub rowed_next : Rowed f lanes (a + 1) old new
    rowed_next =
        record {
          long = put-length mid a w e r.long h ys row-long;
          made = λ b c l k.
              let lane : c < 16 = omega arith in
              up_to (λ (i : ℕ). lane_at new i c ≡ f i c (lane_at old i c)) a b l
              (here c lane ∙ m.made c k ∙ ap (f a c) (was c lane))
              (λ less. other_row b c lane (λ eq. omega arith) ∙ r.made b c less k);
          beyond = λ b c l k lane.
              up_to (λ (i : ℕ). lane_at new i c ≡ lane_at old i c) a b l
              (here c lane ∙ m.kept c k lane ∙ was c lane)
              (λ less. other_row b c lane (λ eq. omega arith) ∙ r.beyond b c less k lane);
          kept = λ b c l lane. other_row b c lane (λ eq. omega arith) ∙ r.kept b c (omega arith) lane;
        }

  -- all rows
  pub rowed_all : (a n : ℕ) (old new : List Float) → a ≤ n → n ≤ a → Rowed f lanes a old new → new ≡ with_lanes n lanes (λ b c. f b c (lane_at old b c)) old
  rowed_all a n old new l h r =
      let e : a ≡ n = le_antisymm l h in
      with_lanes_lem n lanes (λ b c. f b c (lane_at old b c)) old new r.long (λ b c i j. r.made b c (omega arith) j) (λ b c i j k. r.beyond b c (omega arith) j k) (λ b c i j k. r.kept b c (omega arith) k)
