-- Document 02, L5: "With g0 at +0 the bits are those of the old form." A call with an n by n block of +0, and the same call of the empty form: where neither is
-- refused by 17 their slices are the same and so are their answers, but for the count that an accepted call carries. Appends onto any contents too.
-- Assumes nothing.
use Rattle.std.specs.Prelude.{Result, Ok, Err, ◌≡◌, ◌&&◌, ◌∷◌, ◌+◌, ◌*◌, ◌≤◌, ◌<◌}
use Rattle.lists.specs.Prelude.{refl, sym, ap, ap₂, ◌∙◌, Bool, true, false, and-true, List, [], ℕ, suc, arith, digits_lt, eq-eqb, le-leb, eqb, length, get_or, Float, nan}
use Rattle.std.specs.Float.Ieee as Ieee
use Rattle.lists.specs.Agreement.{both}
use Rattle.complex.specs.Arithmetic.{plus_zero, finite}
use Rattle.refusal.specs.declared.Refusal.{Refusal}
use Rattle.refusal.specs.Verdict.{pass, Verdict, by, ask, ◌then◌, zeroed}
use Rattle.refusal.specs.Checks.{large_enough, not_empty, within_limits, within_block, finite_at, finite_entries, counter_holds}
use Rattle.refusal.specs.Agreement.{then-pass, then-agree, then-end, all_asked}
use Rattle.block.specs.Block.{entries_in}
use Rattle.block.specs.Operations.{zeros}
use Rattle.block.specs.Agreement.{Agree}
use Rattle.matrix.specs.declared.DenseMatrix.{DenseMatrix}
use Rattle.matrix.specs.Dense.{count_of}
use Rattle.grid.specs.Calls.{grid_checks}
use Rattle.two_time.specs.Layout.{read_as}
use Rattle.two_time.specs.New.{cleared_new}
use Rattle.two_time.specs.Calls.{point_entries, point_operands}
use Rattle.two_time.specs.SizeChecks.{large, limited}
use Rattle.two_time.specs.Start.{new_lesser_numbers, new_lesser_finite}
use Rattle.two_time.specs.Started.{empty-numbers, empty-finite, zero-numbers, zero-finite}
use Rattle.two_time.specs.Factors.{FiniteBlock}
use Rattle.dyson.specs.Calls.{solved_new_finite}
use Rattle.transient_run.specs.Products.{formed}
use Rattle.transient_run.specs.Form.{Form, form_sizes, form_entries, start_of, start_products}
use Rattle.transient_run.specs.Form.Form.{empty, occupied}
use Rattle.transient_run.specs.Calls.{Run, Outcome, counter_of, run_of, retarded_made, lesser_made, made_finite, checks_of, worked, transient_run, append_point}
use Rattle.transient_run.specs.Checks.{sizes_asked, checks-passed}
use Rattle.transient_run.specs.Ends.{checks-end, work-end, overflow-end}
use Rattle.transient_run.specs.Column.{first_block, retarded-column}

-- an n by n block whose numbers are +0
pub record ZeroBlock (n : ℕ) (g0 : DenseMatrix) : Type 0 where
  pub rows : g0.rows ≡ n
  pub columns : g0.columns ≡ n
  pub numbers : (i : ℕ) → i < 2 * (n * n) → get_or g0.values i nan ≡ plus_zero

-- the same call of another form
abbrev pub with_form : Run → Form → Run
with_form r form =
    run_of form r.session r.desk (record { points = r.points; capacity = r.capacity; orbitals = r.orbitals }) r.tolerance r.times r.free r.self_energy r.lesser_self_energy r.retarded r.lesser
    r.kernel r.lesser_advanced

-- an outcome that carries another count
unfoldable pub carrying : ℕ → Result ℕ Refusal → Result ℕ Refusal
carrying count (Ok k) = Ok count
carrying count (Err x) = Err x

abbrev pub recounted : ℕ → Outcome → Outcome
recounted count o = record { answer = carrying count o.answer; retarded = o.retarded; lesser = o.lesser; kernel = o.kernel; lesser_advanced = o.lesser_advanced }

-- a question that passes where the one before it does
then-also : (x y : Verdict) → (x ≡ pass → y ≡ pass) → (x then y) ≡ x
then-also x y h = then-agree x x y pass refl h ∙ then-end x

-- lines 1 and 2 of an n by n block
block-some : (points n : ℕ) → large_enough points n ≡ pass → not_empty n n ≡ pass
unfolding not_empty ask
block-some points n e = rw (le-leb 1 n (large points n e).1)

block-most : (capacity n : ℕ) → within_limits capacity n ≡ pass → within_block n n ≡ pass
unfolding within_block ask
block-most capacity n e = rw (le-leb n 16 (limited capacity n e).1)

module _ (n : ℕ) (g0 : DenseMatrix) (zero : ZeroBlock n g0) where
  entries-zero : Agree n (entries_in n g0.values) zeros
  entries-zero a b ha hb =
      let at = 2 * (a * n + b) in
      let inside : at + 1 < 2 * (n * n) = omega (arith, digits_lt ha hb) in
      λ i. record { re = zero.numbers at (omega arith) i; im = zero.numbers (at + 1) inside i }

  entries_pass : form_entries (occupied g0) ≡ pass
  unfolding form_entries finite_entries finite ask Ieee.of_bits
  entries_pass =
      let square : count_of g0 ≡ 2 * (n * n) = ap₂ (λ (a b : ℕ). 2 * (a * b)) zero.rows zero.columns in
      all_asked (count_of g0) (λ i. finite_at 3 g0.values i) (λ i l. rw (zero.numbers i (omega arith)))

  sizes-same : (capacity points : ℕ) (fits : Bool) → form_sizes (occupied g0) capacity points n fits ≡ form_sizes empty capacity points n fits
  unfolding form_sizes
  sizes-same capacity points fits =
      rw (zero.rows, zero.columns, then-also (large_enough points n) (not_empty n n) (block-some points n), then-also (within_limits capacity n) (within_block n n) (block-most capacity n), eq-eqb n n refl, and-true fits)

module _ (old points : ℕ) (r : Run) (g0 : DenseMatrix) (zero : ZeroBlock r.orbitals g0) (later : 2 ≤ points → old < points)
    (room : counter_holds (counter_of r.session r.desk) (formed 2 old points) ≡ pass) (room' : counter_holds (counter_of r.session r.desk) (formed 0 old points) ≡ pass) where
  abbrev n : ℕ
  n = r.orbitals

  abbrev filled : Run
  filled = with_form r (occupied g0)

  abbrev bare : Run
  bare = with_form r empty

  checks-same : checks_of old points filled ≡ checks_of old points bare
  unfolding checks_of start_products
  checks-same = rw (sizes-same n g0 zero r.capacity points, entries_pass n g0 zero, room, room') (unfold form_entries in refl)

  -- where the checks pass and K and G^R are finite, G^R(t,0) is
  module _ (passed : checks_of old points bare ≡ pass) (solved : solved_new_finite r.capacity n old points r.times r.free r.self_energy r.retarded r.kernel ≡ true) where
    column : (t : ℕ) → t < points → FiniteBlock n (read_as r.capacity n (retarded_made old points bare) t 0)
    unfolding checks_of point_operands
    column =
        let z = checks-passed points bare old passed in
        let operands = point_operands r.capacity points n 0 (r.free ∷ r.self_energy ∷ r.lesser_self_energy ∷ []) in
        let after = (then-pass (grid_checks points r.times) _ (then-pass (sizes_asked points bare) _ passed).1).1 in
        let entries = (then-pass operands (form_entries empty) (then-pass (operands then form_entries empty) _ after).0).0 in
        retarded-column old points bare (later z.0) z.1 solved
        (λ _. first_block r.capacity points n 0 r.free (let least = z.0 in omega arith) (then-pass (point_entries r.capacity points n 0 r.free) _ entries).0)

    lesser-same : lesser_made old points filled ≡ lesser_made old points bare
    unfolding start_of
    lesser-same =
        zero-numbers r.capacity n old points r.times _ _ g0.values (entries-zero n g0 zero) column r.lesser
        ∙ sym (empty-numbers r.capacity n old points r.times _ _ r.lesser)

  finite-same : checks_of old points bare ≡ pass → made_finite old points filled ≡ made_finite old points bare
  unfolding made_finite start_of
  finite-same passed = by_flag (solved_new_finite r.capacity n old points r.times r.free r.self_energy r.retarded r.kernel) refl
    where
      by_flag : (ok : Bool) → solved_new_finite r.capacity n old points r.times r.free r.self_energy r.retarded r.kernel ≡ ok → made_finite old points filled ≡ made_finite old points bare
      by_flag false e = rw e
      by_flag true e =
          rw (zero-finite r.capacity n old points r.times _ _ g0.values (entries-zero n g0 zero) (column passed e)) (rw (empty-finite r.capacity n old points r.times))

  -- what is finite on the way begins with K and G^R
  solved-of : made_finite old points bare ≡ true → solved_new_finite r.capacity n old points r.times r.free r.self_energy r.retarded r.kernel ≡ true
  unfolding made_finite
  solved-of e = (both _ _ e).0

  pub zero-start : (clear : List Float → List Float) → worked old points filled clear ≡ recounted (formed 2 old points) (worked old points bare clear)
  unfolding carrying start_products
  zero-start clear = by-checks (checks_of old points bare) refl
    where
      by-work : checks_of old points bare ≡ pass → (ok : Bool) → made_finite old points bare ≡ ok → worked old points filled clear ≡ recounted (formed 2 old points) (worked old points bare clear)
      by-work passed true e =
          work-end old points filled clear (checks-same ∙ passed) (finite-same passed ∙ e) ∙ rw (work-end old points bare clear passed e, lesser-same passed (solved-of e))
      by-work passed false e = overflow-end old points filled clear (checks-same ∙ passed) (finite-same passed ∙ e) ∙ rw (overflow-end old points bare clear passed e)

      by-checks : (v : Verdict) → checks_of old points bare ≡ v → worked old points filled clear ≡ recounted (formed 2 old points) (worked old points bare clear)
      by-checks (Ok tt) e = by-work e (made_finite old points bare) refl
      by-checks (Err x) e = checks-end old points filled clear x (checks-same ∙ e) ∙ rw (checks-end old points bare clear x e)

-- `transient_run_occupied` and `append_point_occupied` beside `transient_run` and `append_point`
module _ (r : Run) (g0 : DenseMatrix) (zero : ZeroBlock r.orbitals g0) where
  abbrev Room : ℕ → ℕ → ℕ → Type 0
  Room start old points = counter_holds (counter_of r.session r.desk) (formed start old points) ≡ pass

  pub zero-run : Room 2 0 r.points → Room 0 0 r.points → transient_run (with_form r (occupied g0)) ≡ recounted (formed 2 0 r.points) (transient_run (with_form r empty))
  unfolding transient_run
  zero-run room room' = zero-start 0 r.points r g0 zero (λ l. omega arith) room room' zeroed

  pub zero-append : Room 2 r.points (suc r.points) → Room 0 r.points (suc r.points)
      → append_point (with_form r (occupied g0)) ≡ recounted (formed 2 r.points (suc r.points)) (append_point (with_form r empty))
  unfolding append_point
  zero-append room room' = zero-start r.points (suc r.points) r g0 zero (λ l. omega arith) room room' (cleared_new r.capacity r.orbitals r.points (suc r.points))
