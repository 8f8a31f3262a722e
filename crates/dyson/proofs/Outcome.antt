-- The outcome of a Dyson call, by its questions in their order and then by its work. Assumes nothing.
use Rattle.std.specs.Prelude.{is_ok, Ok, Err, ◌≡◌, ◌&&◌, ◌∷◌}
use Rattle.lists.specs.Prelude.{refl, sym, ap, ◌∙◌, Bool, true, false, cond, List, [], ℕ, eqb, length, Float}
use Rattle.refusal.specs.declared.Refusal.{Refusal}
use Rattle.refusal.specs.Verdict.{pass, Verdict, by, ◌then◌, zeroed}
use Rattle.refusal.specs.Checks.{large_enough, within_limits, fitting, finite_entries}
use Rattle.refusal.specs.Outcome as Outcome
use Rattle.grid.specs.Calls.{grid_checks}
use Rattle.two_time.specs.declared.sums.SumError.{SumError}
use Rattle.two_time.specs.Summed.{Summed}
use Rattle.two_time.specs.Calls.{all_fit, size_checks, operand_checks, input_checks}
use Rattle.two_time.specs.SizeChecks.{sizes_asked_lem}
use Rattle.support.specs.Support.{check_inputs}
use Rattle.dyson.specs.Calls.{Equation, equation_of, kernel_of, retarded_of, solved_finite, solved_retarded, checks_before, dyson_verdict, dyson_with_tolerance}
use Rattle.dyson.specs.Checks.{checks_are, checks_keeping, checks-passed, solved_said}

module _ (points orbitals : ℕ) (tolerance : Float) (times free self_energy retarded kernel : List Float) where
  abbrev q : Equation
  q = equation_of points orbitals times free self_energy

  abbrev inputs : Verdict
  inputs = input_checks points orbitals times (free ∷ self_energy ∷ []) (retarded ∷ kernel ∷ [])

  abbrev checks : Verdict
  checks = checks_before q tolerance [] (retarded ∷ kernel ∷ [])

  -- the answer and the two slices are the definition's
  abbrev Leaves : Verdict → List Float → List Float → Type 0
  Leaves answer retarded' kernel' =
      let solved = dyson_with_tolerance points orbitals tolerance times free self_energy retarded kernel in
      (answer ≡ solved.answer) × (retarded' ≡ solved.retarded) × (kernel' ≡ solved.kernel)

  refused : {answer : Verdict} {r : Refusal} → answer ≡ Err r → checks ≡ Err r → Leaves answer retarded kernel
  unfolding dyson_with_tolerance dyson_verdict
  refused h p = let e = Outcome.unchanged zeroed (h ∙ sym p) (solved_finite q) (checks_keeping _ _ _ _) _ h in (e.answered, e.slice _ _, e.slice _ _)

  module _ (p : checks ≡ pass) {answer : Summed} {retarded' kernel' : List Float}
      (e : let solved = solved_retarded q retarded kernel in (answer ≡ solved.answer) × (retarded' ≡ solved.retarded) × (kernel' ≡ solved.kernel)) where
    said : (ok : Bool) → ok ≡ is_ok answer
        → (solved_finite q ≡ ok) × (retarded' ≡ cond ok (retarded_of q) (zeroed retarded)) × (kernel' ≡ cond ok (kernel_of q) (zeroed kernel))
    said ok h = solved_said q retarded kernel (checks-passed q tolerance [] (retarded ∷ kernel ∷ []) p) e ok h

    accepted : answer ≡ Ok tt → Leaves pass retarded' kernel'
    unfolding dyson_with_tolerance dyson_verdict
    accepted h =
        let m = said true (ap is_ok (sym h)) in
        let k = Outcome.accepted zeroed (sym p) _ refl m.0 in
        (k.answered, m.1 ∙ k.slice _ _, m.2 ∙ k.slice _ _)

    overflowed : {x : SumError} → answer ≡ Err x → Leaves (Err (by 10)) retarded' kernel'
    unfolding dyson_with_tolerance dyson_verdict
    overflowed h =
        let m = said false (ap is_ok (sym h)) in
        let k = Outcome.overflowed zeroed (sym p) _ refl m.0 in
        (k.answered, m.1 ∙ k.slice _ _, m.2 ∙ k.slice _ _)

  -- checks 1 to 3, and what the others say after them
  module _ {fits : Bool} {sizes : Verdict} (f : fits ≡ all_fit points orbitals (free ∷ self_energy ∷ retarded ∷ kernel ∷ []))
      (s : sizes ≡ (large_enough points orbitals then within_limits points orbitals then fitting (eqb (length times) points && fits))) where
    asked : sizes ≡ size_checks points orbitals (eqb (length times) points) (free ∷ self_energy ∷ retarded ∷ kernel ∷ [])
    asked = sizes_asked_lem _ _ _ _ _ _ f s

    by-inputs : {r : Refusal} → inputs ≡ Err r → checks ≡ Err r
    by-inputs e = rw e

    module _ {answer : Verdict} {r : Refusal} (h : answer ≡ Err r) where
      pub by-sizes : sizes ≡ Err r → Leaves answer retarded kernel
      unfolding input_checks
      by-sizes e = refused h (rw (sym asked ∙ e))

    module _ (p : sizes ≡ pass) where
      module _ {answer : Verdict} {r : Refusal} (h : answer ≡ Err r) where
        pub by-grid : grid_checks points times ≡ Err r → Leaves answer retarded kernel
        unfolding input_checks
        by-grid e = refused h (rw (sym asked ∙ p, e))

      module _ (g : grid_checks points times ≡ pass) where
        module _ {answer : Verdict} {r : Refusal} (h : answer ≡ Err r) where
          pub by-free : finite_entries 0 free (length free) ≡ Err r → Leaves answer retarded kernel
          unfolding input_checks operand_checks
          by-free e = refused h (rw (sym asked ∙ p, g, e))

          pub by-self_energy : finite_entries 0 free (length free) ≡ pass → finite_entries 1 self_energy (length self_energy) ≡ Err r → Leaves answer retarded kernel
          unfolding input_checks operand_checks
          by-self_energy d e = refused h (rw (sym asked ∙ p, g, d, e))

        module _ (d : finite_entries 0 free (length free) ≡ pass) (d' : finite_entries 1 self_energy (length self_energy) ≡ pass) where
          passed : inputs ≡ pass
          unfolding input_checks operand_checks
          passed = rw (sym asked ∙ p, g, d, d')

          -- checks 8 and 9
          supported : {v : Verdict} → check_inputs points points orbitals free self_energy tolerance ≡ v → checks ≡ v
          supported {v} e = sym (checks_are q tolerance [] (retarded ∷ kernel ∷ []) {i = inputs} {s = v} {v = v} refl (sym e) (rw passed))

          pub by-support : {answer : Verdict} {r : Refusal} → answer ≡ Err r → check_inputs points points orbitals free self_energy tolerance ≡ Err r → Leaves answer retarded kernel
          by-support h e = refused h (supported e)

          module _ (w : check_inputs points points orbitals free self_energy tolerance ≡ pass) {made : Summed} {retarded' kernel' : List Float}
              (e : let solved = solved_retarded q retarded kernel in (made ≡ solved.answer) × (retarded' ≡ solved.retarded) × (kernel' ≡ solved.kernel)) where
            pub made-finite : made ≡ Ok tt → Leaves pass retarded' kernel'
            made-finite = accepted (supported w) e

            pub made_lost : {x : SumError} → made ≡ Err x → {answer : Verdict} → answer ≡ Err (by 10) → Leaves answer retarded' kernel'
            made_lost h a = let k = overflowed (supported w) e h in (a ∙ k.0, k.1, k.2)
