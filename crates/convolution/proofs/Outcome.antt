-- The outcome of a convolution, by its questions in their order and then by its sums. Assumes nothing.
use Rattle.std.specs.Prelude.{is_ok, Ok, Err, ◌≡◌, ◌&&◌, ◌∷◌}
use Rattle.lists.specs.Prelude.{refl, sym, ap, ◌∙◌, Bool, true, false, cond, List, [], ℕ, eqb, length, Float}
use Rattle.refusal.specs.declared.Refusal.{Refusal}
use Rattle.refusal.specs.Verdict.{pass, Verdict, by, ◌then◌, zeroed}
use Rattle.refusal.specs.Checks.{large_enough, within_limits, fitting, finite_entries}
use Rattle.refusal.specs.Outcome as Outcome
use Rattle.grid.specs.Calls.{grid_checks}
use Rattle.two_time.specs.declared.sums.Sums.{Sums}
use Rattle.two_time.specs.declared.sums.SumError.{SumError}
use Rattle.two_time.specs.Summed.{Summed}
use Rattle.two_time.specs.Sums.{sums_numbers, sums_finite}
use Rattle.two_time.specs.Calls.{all_fit, size_checks, operand_checks, input_checks}
use Rattle.two_time.specs.Outcome.{summed, sums_said}
use Rattle.two_time.specs.Checks.{inputs_keeping, inputs-sizes}
use Rattle.two_time.specs.SizeChecks.{sizes_asked_lem, fits_more}
use Rattle.two_time.specs.Lengths.{others-asked}
use Rattle.convolution.specs.Calls.{convolved_by}

module _ (sums : Sums) (points orbitals : ℕ) (times left right out : List Float) where
  -- the answer and the output are the definition's
  abbrev Leaves : Verdict → List Float → Type 0
  Leaves answer after = (answer ≡ (convolved_by sums points orbitals times left right out).answer) × (after ≡ (convolved_by sums points orbitals times left right out).out)

  abbrev checks : Verdict
  checks = input_checks points orbitals times (left ∷ right ∷ []) (out ∷ [])

  abbrev made : List Float
  made = sums_numbers sums points orbitals times left right

  refused : {answer : Verdict} {q : Refusal} → answer ≡ Err q → checks ≡ Err q → Leaves answer out
  unfolding convolved_by
  refused {answer} {q} h p = let k = Outcome.unchanged zeroed (h ∙ sym p) _ (inputs_keeping _ _ _ _ _) q h in (k.answered, k.slice made out)

  module _ (p : checks ≡ pass) {answer : Summed} {after : List Float} (e : let s = summed sums points orbitals times left right out in (answer ≡ s.answer) × (after ≡ s.out)) where
    said : (ok : Bool) → ok ≡ is_ok answer → (sums_finite sums points orbitals times left right ≡ ok) × (after ≡ cond ok made (zeroed out))
    said ok h =
        let z = inputs-sizes points orbitals times (left ∷ right ∷ []) (out ∷ []) p in
        sums_said sums points orbitals times left right out (others-asked z (left ∷ right ∷ out ∷ []) z.long) e.0 e.1 ok h

    accepted : answer ≡ Ok tt → Leaves pass after
    unfolding convolved_by
    accepted h =
        let t = said true (ap is_ok (sym h)) in
        let k = Outcome.accepted zeroed (sym p) _ refl t.0 in
        (k.answered, t.1 ∙ k.slice made out)

    overflowed : {x : SumError} → answer ≡ Err x → Leaves (Err (by 10)) after
    unfolding convolved_by
    overflowed h =
        let t = said false (ap is_ok (sym h)) in
        let k = Outcome.overflowed zeroed (sym p) _ refl t.0 in
        (k.answered, t.1 ∙ k.slice made out)

  -- checks 1 to 3, and what the others say after them
  module _ {left_fits right_fits out_fits : Bool} {sizes : Verdict}
      (l : left_fits ≡ all_fit points orbitals (left ∷ [])) (r : right_fits ≡ all_fit points orbitals (right ∷ [])) (o : out_fits ≡ all_fit points orbitals (out ∷ []))
      (s : sizes ≡ (large_enough points orbitals then within_limits points orbitals then fitting (eqb (length times) points && (left_fits && (right_fits && out_fits))))) where
    asked : sizes ≡ size_checks points orbitals (eqb (length times) points) (left ∷ right ∷ out ∷ [])
    asked = sizes_asked_lem points orbitals (left ∷ right ∷ out ∷ []) (eqb (length times) points) _ _ (fits_more _ _ _ _ _ _ l (fits_more _ _ _ _ _ _ r o)) s

    module _ {answer : Verdict} {q : Refusal} (h : answer ≡ Err q) where
      pub by-sizes : sizes ≡ Err q → Leaves answer out
      unfolding input_checks
      by-sizes e = refused h (rw (sym asked ∙ e))

      module _ (p : sizes ≡ pass) where
        pub by-grid : grid_checks points times ≡ Err q → Leaves answer out
        unfolding input_checks
        by-grid e = refused h (rw (sym asked ∙ p, e))

        module _ (g : grid_checks points times ≡ pass) where
          pub by-left : finite_entries 0 left (length left) ≡ Err q → Leaves answer out
          unfolding input_checks operand_checks
          by-left e = refused h (rw (sym asked ∙ p, g, e))

          pub by-right : finite_entries 0 left (length left) ≡ pass → finite_entries 1 right (length right) ≡ Err q → Leaves answer out
          unfolding input_checks operand_checks
          by-right f e = refused h (rw (sym asked ∙ p, g, f, e))

    module _ (p : sizes ≡ pass) (g : grid_checks points times ≡ pass) (f : finite_entries 0 left (length left) ≡ pass) (f' : finite_entries 1 right (length right) ≡ pass)
        {made' : Summed} {after : List Float} (e : let s = summed sums points orbitals times left right out in (made' ≡ s.answer) × (after ≡ s.out)) where
      passed : checks ≡ pass
      unfolding input_checks operand_checks
      passed = rw (sym asked ∙ p, g, f, f')

      pub made-finite : made' ≡ Ok tt → Leaves pass after
      made-finite = accepted passed e

      pub made_lost : {x : SumError} → made' ≡ Err x → {answer : Verdict} → answer ≡ Err (by 10) → Leaves answer after
      made_lost h a = let k = overflowed passed e h in (a ∙ k.0, k.1)
