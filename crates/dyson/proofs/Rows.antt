-- Forward substitution row by row: the rows before t are finite and written. Assumes nothing.
use Rattle.std.specs.Prelude.{is_ok, Ok, Err, ◌≡◌, ◌&&◌, ◌∷◌, ◌+◌, ◌*◌, ◌≤◌, ◌<◌}
use Rattle.lists.specs.Prelude.{sym, ap, ap₂, ◌∙◌, Bool, true, false, cond, List, [], ℕ, le_antisymm, arith, ltb, length, Float, lt-ltb, le-leb, put_mid, mid_of}
use Rattle.lists.specs.Indexed.{all_below}
use Rattle.lists.specs.Agreement.{never}
use Rattle.refusal.specs.Verdict.{pass}
use Rattle.two_time.specs.declared.sums.SumError.{SumError}
use Rattle.two_time.specs.Summed.{Summed}
use Rattle.two_time.specs.Layout.{read_as, length_of}
use Rattle.two_time.specs.New.{cleared_new, fits_new}
use Rattle.two_time.specs.Calls.{size_checks}
use Rattle.two_time.specs.Outcome.{by_flag}
use Rattle.two_time.specs.SizeChecks.{SizesPassed, sizes_pass}
use Rattle.two_time.specs.Lengths.{lengths, none-asked, also_asked}
use Rattle.two_time.specs.Cleared.{fits_new_lem}
use Rattle.two_time.proofs.Cleared.{cleared-written}
use Rattle.groups.specs.Forward.{row_at}
use Rattle.sums.specs.Forward.{forward_row, row_hidden}
use Rattle.dyson.specs.Retarded.{new_retarded, new_retarded_finite}
use Rattle.dyson.specs.Rows.{Substitution, retarded, rows_to, row_asked, rows_none, rows-read, row_finite-is, next_row, rows_all, asked-all, early-asked, one_lost}

abbrev pub given : ℕ → ℕ → ℕ → ℕ → List Float → List Float → List Float → List Float → Substitution
given capacity n old points times free kernel held = record { capacity = capacity; orbitals = n; old = old; points = points; times = times; free = free; kernel = kernel; held = held }

-- before step t
pub record Before (g : Substitution) (t : ℕ) (out : List Float) : Type 0 where
  pub asked : all_below t (row_asked g) ≡ true
  pub written : out ≡ rows_to g t

module _ (capacity n old points : ℕ) (times free kernel held : List Float)
    (z : (old ≤ points) × (points ≤ capacity) × SizesPassed capacity n true (free ∷ kernel ∷ held ∷ [])) where
  abbrev g : Substitution
  g = given capacity n old points times free kernel held

  abbrev cleared : List Float → List Float
  cleared = cleared_new capacity n old points

  -- what the call says of its answer and its slice
  abbrev Says : Bool → List Float → Type 0
  Says ok after =
      (ok ≡ new_retarded_finite capacity n old points times free kernel held)
      × (ok ≡ true → after ≡ new_retarded capacity n old points times free kernel held)
      × (cleared after ≡ cleared held)

  pub before-first : {out : List Float} → out ≡ cond (fits_new capacity n old points held) (cleared held) held → Before g old out
  before-first e =
      let long = lengths z.2 in
      record {
        asked = early-asked g z.0 z.1;
        written = e ∙ (rw (fits_new_lem capacity n old points held (ap₂ ◌&&◌ (le-leb _ _ z.0) (le-leb _ _ z.1)) z.2.points-most z.2.orbitals-most long.1.1.0)) ∙ rows_none g z.0 z.1;
      }

  module _ {t : ℕ} {out : List Float} (b : Before g t out) where
    -- cleared, the slice is what it was
    hidden : cleared out ≡ cleared held
    unfolding rows_to
    hidden = ap cleared b.written ∙ cleared-written capacity n old points _ held

    pub after-last : t ≤ points → points ≤ t → Says true out
    after-last le ge =
        let e : t ≡ points = le_antisymm le ge in (
          sym (asked-all g z.0 z.1 ∙ ap (λ (k : ℕ). all_below k (row_asked g)) (sym e) ∙ b.asked),
          (λ h. b.written ∙ ap (rows_to g) e ∙ rows_all g z.0 z.1),
          hidden,
        )

    module _ (from : old ≤ t) (to : t < points) (kept : length out ≡ length held) {answer : Summed} {after : List Float}
        (e : let made = forward_row capacity n times free kernel out t in (answer ≡ made.answer) × (after ≡ made.out)) where
      long : length out ≡ length_of capacity n
      long = let l = lengths z.2 in kept ∙ l.1.1.0

      -- checks 1 to 3 of this step
      checks : size_checks capacity n (ltb t capacity) (free ∷ kernel ∷ out ∷ []) ≡ pass
      checks =
          let l = lengths z.2 in
          let w : SizesPassed capacity n true (free ∷ kernel ∷ out ∷ []) = also_asked l.0 (also_asked l.1.0 (also_asked long (none-asked z.2))) in
          rw (lt-ltb t capacity (omega (arith, to, z.1))) (sizes_pass _ w w.long)

      -- the rows before are read as G's
      rows : (s u c d : ℕ) → s < t → u ≤ s → c < n → d < n → read_as capacity n out s u c d ≡ retarded g s u c d
      rows s u c d hs hu hc hd =
          ap (λ (xs : List Float). read_as capacity n xs s u c d) b.written
          ∙ rows-read g z.0 z.1 t (omega (arith, to)) s u c d hs hu hc hd

      pub row-made : answer ≡ Ok tt → Before g (t + 1) after
      unfolding forward_row
      row-made h =
          let told = by_flag _ _ checks _ e.0 true (ap is_ok (sym h)) in
          let next = next_row g z.0 z.1 t from to out _ b.asked b.written told.0
          (e.1 ∙ ap (λ (ys : List Float). put_mid (row_at capacity n t) ((t + 1) * (2 * (n * n))) out ys) (told.1 _ (mid_of (row_at capacity n t) ((t + 1) * (2 * (n * n))) out))) in
          record { asked = next.0; written = next.1 }

      pub row-lost : {x : SumError} → answer ≡ Err x → {ok : Bool} → ok ≡ false → Says ok after
      unfolding forward_row
      row-lost h f =
          let lost = (by_flag _ _ checks _ e.0 false (ap is_ok (sym h))).0 in (
            f ∙ sym (one_lost g z.0 z.1 t from to (sym (row_finite-is g z.0 z.1 t from out rows) ∙ lost)),
            (λ k. never (sym f ∙ k)),
            ap cleared e.1 ∙ row_hidden capacity n times free kernel out t old points from to z.1 long ∙ hidden,
          )
