-- What it says that a term fits. Assumes nothing.
use Rattle.std.specs.Prelude.{◌≡◌, ◌&&◌, ◌+◌, ◌*◌, ◌≤◌, ◌<◌}
use Rattle.lists.specs.Prelude.{refl, sym, ◌∙◌, Bool, true, false, List, ℕ, arith, leb, eqb, length, Float, leb-true, le-leb, eqb-true, eq-eqb}
use Rattle.lists.specs.Agreement.{both}
use Rattle.lanes.specs.Lanes.{lane_at}
use Rattle.lanes.specs.Laws.{lanes-long, with_made}
use Rattle.terms.specs.declared.Term.{Term}
use Rattle.rows.specs.Rows.{stepped, packed_product, is_ranged, has_block, packed_fits, packed_totals}
use Rattle.rows.specs.Ranges.{Ranged, ranged_when, when_ranged}

-- a block lies in the left factor only if its first number does
module _ (left : List Float) (i n : ℕ) where
  abbrev begins : Bool
  begins = leb n 16 && (leb (length left) 33554432 && leb i (length left))

  pub begun : begins ≡ true → (n ≤ 16) × (length left ≤ 33554432) × (i ≤ length left)
  begun h =
      let p = both (leb n 16) _ h in
      let q = both (leb (length left) 33554432) _ p.1 in
      (leb-true _ _ p.0, leb-true _ _ q.0, leb-true _ _ q.1)

  pub block-begun : begins ≡ true → leb (i + 2 * (n * n)) (length left) ≡ has_block left i n
  unfolding has_block
  block-begun h = let b = begun h in rw (le-leb _ _ b.0, le-leb _ _ b.1)

  pub block_none : begins ≡ false → false ≡ has_block left i n
  unfolding has_block
  block_none h = by_flag (has_block left i n) refl
    where
      by_flag : (f : Bool) → has_block left i n ≡ f → false ≡ f
      by_flag false e = refl
      by_flag true e =
          let p = both (leb n 16) _ e in
          let q = both (leb (length left) 33554432) _ p.1 in
          let inside = leb-true (i + 2 * (n * n)) (length left) q.1 in
          sym h ∙ rw (p.0, q.0, le-leb i (length left) (omega arith))

module _ (left : List Float) (i n : ℕ) (rows : List Float) (term : Term) (totals : List Float) where
  pub record Fits : Type 0 where
    pub ranged : Ranged term
    pub few : n ≤ 16
    pub short : length left ≤ 33554432
    pub inside : i + 2 * (n * n) ≤ length left
    pub rows_long : length rows ≡ 512
    pub totals_long : length totals ≡ 512

  pub fits_when : packed_fits left i n rows term totals ≡ true → Fits
  unfolding packed_fits has_block
  fits_when h =
      let p = both (is_ranged term) _ h in
      let q = both (has_block left i n) _ p.1 in
      let r = both (leb n 16) _ q.0 in
      let s = both (leb (length left) 33554432) _ r.1 in
      let t = both (eqb (length rows) 512) _ q.1 in
      record { ranged = ranged_when term p.0; few = leb-true _ _ r.0; short = leb-true _ _ s.0; inside = leb-true _ _ s.1; rows_long = eqb-true _ _ t.0; totals_long = eqb-true _ _ t.1 }

  module _ (f : Fits) where
    when_fits : packed_fits left i n rows term totals ≡ true
    unfolding packed_fits has_block
    when_fits = rw (when_ranged term f.ranged, le-leb _ _ f.few, le-leb _ _ f.short, le-leb _ _ f.inside, eq-eqb _ _ f.rows_long, eq-eqb _ _ f.totals_long)

    -- the totals of a term that fits
    pub totals_length : length (packed_totals left i n rows term totals) ≡ 512
    unfolding packed_totals
    totals_length = rw when_fits (lanes-long _)

    pub totals_lane : (a c : ℕ) → a < n → c < term.lanes → lane_at (packed_totals left i n rows term totals) a c ≡ stepped term c (packed_product n left i rows a c) (lane_at totals a c)
    unfolding packed_totals
    totals_lane a c ha hc = rw when_fits (with_made n term.lanes _ totals a c f.few f.ranged.few ha hc)
