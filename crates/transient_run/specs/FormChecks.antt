-- The checks of a form's block: what it says that they pass, and that they refuse by no 10. Assumes nothing.
use Rattle.std.specs.Prelude.{◌≡◌, ◌&&◌, ◌+◌, ◌*◌, ◌≤◌, ◌<◌}
use Rattle.lists.specs.Prelude.{refl, sym, ap, ap₂, ◌∙◌, ⊎_elim, Bool, true, false, List, ℕ, zero, suc, le_refl, le_trans, le_of_eq, le_of_suc-le-suc, eq-or-lt_of_le, dec_lt, arith, leb, le-leb, leb-true, eqb, eqb-true, length, get_or, get_or-eq_default, Float, nan}
use Rattle.lists.specs.Agreement.{both, never}
use Rattle.complex.specs.Arithmetic.{finite}
use Rattle.refusal.specs.Verdict.{pass, Verdict, by, ask, ◌then◌, ask_all}
use Rattle.refusal.specs.Checks.{large_enough, not_empty, within_limits, within_block, fitting, within_capacity, finite_at, finite_entries}
use Rattle.refusal.specs.Agreement.{ask_pass, then-pass, then-agree, then-after}
use Rattle.refusal.specs.Unchanged.{Keeping, passed, ask_keeping, then-keeping, all_keeping}
use Rattle.matrix.specs.declared.DenseMatrix.{DenseMatrix}
use Rattle.matrix.specs.Dense.{count_of}
use Rattle.two_time.specs.Layout.{length_of}
use Rattle.two_time.specs.Calls.{all_long, all_fit, block_sizes, capacity_checks}
use Rattle.two_time.specs.SizeChecks.{limited}
use Rattle.two_time.specs.Places.{product-most}
use Rattle.two_time.specs.Start.{holds_block}
use Rattle.transient_run.specs.Form.{Form, form_sizes, form_entries, Small, HoldsBlock}
use Rattle.transient_run.specs.Form.Form.{empty, occupied}

-- the block is n by n
abbrev pub Square : ℕ → Form → Type 0
Square n empty = Unit {0}
Square n (occupied g0) = (g0.rows ≡ n) × (g0.columns ≡ n)

-- every question that passes
pub asked-each : (n : ℕ) (f : ℕ → Verdict) → ask_all n f ≡ pass → (k : ℕ) → k < n → f k ≡ pass
unfolding ask_all
asked-each zero f e k l = absurd (omega arith)
asked-each (suc n) f e k l =
    let t = then-pass (ask_all n f) (f n) e in
    ⊎_elim (λ same. ap f same ∙ t.1) (λ less. asked-each n f t.0 k less) (eq-or-lt_of_le (le_of_suc-le-suc l))

-- a slice whose first numbers are finite has so many
pub finite-long : (operand count : ℕ) (xs : List Float) → finite_entries operand xs count ≡ pass → count ≤ length xs
unfolding finite_entries finite
finite-long operand count xs e =
    elim (dec_lt (length xs) count) [
      | yes short ↦ (let at = asked-each count (λ i. finite_at operand xs i) e (length xs) short in
          never (sym (ap finite (get_or-eq_default xs nan (le_refl (length xs)))) ∙ ask_pass (finite (get_or xs (length xs) nan)) _ at))
      | no long ↦ omega arith
    ]

-- a block that is n by n is small
pub square-small : (n : ℕ) → n ≤ 16 → (form : Form) → Square n form → Small form
square-small n most empty s = tt
square-small n most (occupied g0) s = (le_trans (le_of_eq s.0) most, le_trans (le_of_eq s.1) most)

module _ (capacity points n : ℕ) where
  abbrev plain : Bool → Verdict
  plain fits = large_enough points n then within_limits capacity n then fitting fits then within_capacity points capacity

  -- checks 1, 2, 3 and 16 of the functions pass too, and the block is n by n
  pub sizes-plain : (form : Form) (fits : Bool) → form_sizes form capacity points n fits ≡ pass → (plain fits ≡ pass) × Square n form
  unfolding form_sizes fitting
  sizes-plain empty fits e = (e, tt)
  sizes-plain (occupied g0) fits e =
      let a = then-pass _ _ e in
      let b = then-pass _ _ a.1 in
      let c = then-pass _ _ b.1 in
      let f = both fits (eqb g0.rows n && eqb g0.columns n) (ask_pass _ (by 3) c.0) in
      let s = both (eqb g0.rows n) (eqb g0.columns n) f.1 in (
        then-after _ _ (then-pass _ _ a.0).0 ∙ then-after _ _ (then-pass _ _ b.0).0
            ∙ then-agree (ask fits (by 3)) (ask (fits && (eqb g0.rows n && eqb g0.columns n)) (by 3)) _ _ (rw (f.0, f.1)) (λ p. refl) ∙ b.1,
        (eqb-true _ _ s.0, eqb-true _ _ s.1),
      )

  -- what lies beside the slices has its length, and other slices that have theirs pass too
  pub sizes-there : (form : Form) (there : Bool) (slices : List (List Float)) → form_sizes form capacity points n (there && all_long (length_of capacity n) slices) ≡ pass → there ≡ true
  unfolding fitting
  sizes-there form there slices e = (both there _ (ask_pass _ (by 3) (then-pass _ _ (then-pass _ _ (then-pass _ _ (sizes-plain form _ e).0).1).1).0)).0

  pub sizes-again : (form : Form) (fits fits' : Bool) → form_sizes form capacity points n fits ≡ pass → fits' ≡ true → form_sizes form capacity points n fits' ≡ pass
  unfolding fitting
  sizes-again form fits fits' e h =
      ap (form_sizes form capacity points n) (h ∙ sym (ask_pass fits (by 3) (then-pass _ _ (then-pass _ _ (then-pass _ _ (sizes-plain form fits e).0).1).1).0)) ∙ e

  -- as the code asks them, with the limits of the capacity and of n in check 3 too
  pub sizes-by : (form : Form) (slices : List (List Float)) (there all : Bool) {v : Verdict} → all ≡ all_fit capacity n slices → v ≡ form_sizes form capacity points n (there && all)
      → v ≡ form_sizes form capacity points n (there && all_long (length_of capacity n) slices)
  unfolding form_sizes all_fit
  sizes-by empty slices there all h e =
      let limits = within_limits capacity n in
      let room = within_capacity points capacity in
      let asked : Verdict = fitting (there && all_fit capacity n slices) then room in
      let told : Verdict = fitting (there && all_long (length_of capacity n) slices) then room in
      e ∙ rw h (then-agree (large_enough points n) _ (limits then asked) (limits then told) refl
      (λ l. then-agree limits _ asked told refl (λ m. let most = limited capacity n m in rw (le-leb _ _ most.0, le-leb _ _ most.1))))
  sizes-by (occupied g0) slices there all h e =
      let some : Verdict = large_enough points n then not_empty g0.rows g0.columns in
      let limits : Verdict = within_limits capacity n then within_block g0.rows g0.columns in
      let room = within_capacity points capacity in
      let square = eqb g0.rows n && eqb g0.columns n in
      let asked : Verdict = fitting ((there && all_fit capacity n slices) && square) then room in
      let told : Verdict = fitting ((there && all_long (length_of capacity n) slices) && square) then room in
      e ∙ rw h (then-agree some _ (limits then asked) (limits then told) refl
      (λ l. then-agree limits _ asked told refl
      (λ m. let most = limited capacity n (then-pass (within_limits capacity n) (within_block g0.rows g0.columns) m).0 in rw (le-leb _ _ most.0, le-leb _ _ most.1))))

  pub sizes_keeping : (form : Form) (fits : Bool) → Keeping (form_sizes form capacity points n fits)
  unfolding form_sizes large_enough not_empty within_limits within_block fitting within_capacity
  sizes_keeping empty fits = then-keeping (ask_keeping _ _ refl) (then-keeping (ask_keeping _ _ refl) (then-keeping (ask_keeping _ _ refl) (ask_keeping _ _ refl)))
  sizes_keeping (occupied g0) fits =
      then-keeping (then-keeping (ask_keeping _ _ refl) (ask_keeping _ _ refl))
      (then-keeping (then-keeping (ask_keeping _ _ refl) (ask_keeping _ _ refl)) (then-keeping (ask_keeping _ _ refl) (ask_keeping _ _ refl)))

  -- then the points are at most 256, and the block is small
  pub sizes-small : (form : Form) (fits : Bool) → form_sizes form capacity points n fits ≡ pass → (points ≤ 256) × Small form
  unfolding within_capacity
  sizes-small form fits e =
      let p = sizes-plain form fits e in
      let a = then-pass _ _ (then-pass _ _ p.0).1 in
      let most = limited capacity n a.0 in
      let within = leb-true points capacity (ask_pass _ (by 16) (then-pass _ _ a.1).1) in
      (le_trans within most.0, square-small n most.1 form p.1)

pub entries_keeping : (form : Form) → Keeping (form_entries form)
unfolding form_entries finite_entries
entries_keeping empty = passed
entries_keeping (occupied g0) = all_keeping _ _ (λ i. ask_keeping _ _ refl)

-- where check 7 passes the slice holds the block
pub entries_hold : (n : ℕ) → n ≤ 16 → (form : Form) → Square n form → form_entries form ≡ pass → HoldsBlock n form
unfolding form_entries holds_block
entries_hold n most empty s e = tt
entries_hold n most (occupied g0) s e =
    let long = finite-long 3 (count_of g0) g0.values e in
    let square : 2 * (g0.rows * g0.columns) ≡ 2 * (n * n) = ap₂ (λ (a b : ℕ). 2 * (a * b)) s.0 s.1 in
    rw (le-leb n 16 most, le-leb (2 * (n * n)) (length g0.values) (omega arith))
