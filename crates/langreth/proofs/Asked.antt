-- Checks 1 to 7 of a product, question by question. Assumes nothing.
use Rattle.std.specs.Prelude.{Ok, Err, ◌≡◌, ◌&&◌, ◌∷◌, ◌++◌, ◌+◌}
use Rattle.lists.specs.Prelude.{sym, ap, ◌∙◌, Bool, List, [], ℕ, suc, arith, eqb, length, Float}
use Rattle.refusal.specs.declared.Refusal.{Refusal}
use Rattle.refusal.specs.Verdict.{pass, Verdict, ◌then◌}
use Rattle.refusal.specs.Checks.{large_enough, within_limits, fitting, finite_entries}
use Rattle.refusal.specs.Agreement.{then-end}
use Rattle.grid.specs.Calls.{grid_checks}
use Rattle.two_time.specs.Calls.{all_fit, size_checks, operand_checks, input_checks}
use Rattle.two_time.specs.SizeChecks.{sizes_asked_lem}
use Rattle.langreth.specs.Calls.{Components, listed}
use Rattle.langreth.specs.Checks.{fits-append, operands-append}

-- 7, of the four components of one side
module _ (first : ℕ) (x : Components) where
  abbrev at : ℕ → List Float → Verdict
  at k xs = finite_entries k xs (length xs)

  abbrev entries : Verdict
  entries = operand_checks first (listed x)

  abbrev Each : Verdict
  Each = at first x.retarded then at (first + 1) x.advanced then at (first + 2) x.lesser then at (first + 3) x.greater

  each-asked : entries ≡ Each
  unfolding operand_checks
  each-asked =
      let one : suc first ≡ first + 1 = omega arith in
      let two : suc (suc first) ≡ first + 2 = omega arith in
      let three : suc (suc (suc first)) ≡ first + 3 = omega arith in
      ap (λ (v : Verdict). at first x.retarded then at (suc first) x.advanced then at (suc (suc first)) x.lesser then v) (then-end (at (suc (suc (suc first))) x.greater))
      ∙ ap (λ (k : ℕ). at first x.retarded then at k x.advanced then at (suc (suc first)) x.lesser then at (suc (suc (suc first))) x.greater) one
      ∙ ap (λ (k : ℕ). at first x.retarded then at (first + 1) x.advanced then at k x.lesser then at (suc (suc (suc first))) x.greater) two
      ∙ ap (λ (k : ℕ). at first x.retarded then at (first + 1) x.advanced then at (first + 2) x.lesser then at k x.greater) three

  module _ {v : Verdict} where
    pub by-retarded : {r : Refusal} → v ≡ Err r → at first x.retarded ≡ Err r → v ≡ entries
    by-retarded h e = h ∙ sym (each-asked ∙ rw e)

    module _ (p : at first x.retarded ≡ pass) where
      pub by-advanced : {r : Refusal} → v ≡ Err r → at (first + 1) x.advanced ≡ Err r → v ≡ entries
      by-advanced h e = h ∙ sym (each-asked ∙ rw (p, e))

      module _ (q : at (first + 1) x.advanced ≡ pass) where
        pub by-lesser : {r : Refusal} → v ≡ Err r → at (first + 2) x.lesser ≡ Err r → v ≡ entries
        by-lesser h e = h ∙ sym (each-asked ∙ rw (p, q, e))

        pub by-greater : at (first + 2) x.lesser ≡ pass → v ≡ at (first + 3) x.greater → v ≡ entries
        by-greater e h = h ∙ sym (each-asked ∙ rw (p, q, e))

module _ (points orbitals : ℕ) (times : List Float) (left right : Components) (slices : List (List Float)) where
  abbrev inputs : Verdict
  inputs = input_checks points orbitals times (listed left ++ listed right) slices

  module _ {left_fits right_fits fits : Bool} {sizes : Verdict}
      (l : left_fits ≡ all_fit points orbitals (listed left)) (r : right_fits ≡ all_fit points orbitals (listed right)) (o : fits ≡ all_fit points orbitals slices)
      (s : sizes ≡ (large_enough points orbitals then within_limits points orbitals then fitting (eqb (length times) points && (left_fits && (right_fits && fits))))) where
    asked : sizes ≡ size_checks points orbitals (eqb (length times) points) (listed left ++ (listed right ++ slices))
    asked =
        sizes_asked_lem points orbitals (listed left ++ (listed right ++ slices)) (eqb (length times) points) _ _
        (fits-append points orbitals (listed left) (listed right ++ slices) _ _ l (fits-append points orbitals (listed right) slices _ _ r o)) s

    -- with 7 of the left and then of the right
    inputs-are : inputs ≡ (sizes then grid_checks points times then operand_checks 0 (listed left) then operand_checks 4 (listed right))
    unfolding input_checks
    inputs-are =
        ap (λ (v : Verdict). v then grid_checks points times then operand_checks 0 (listed left ++ listed right)) (sym asked)
        ∙ ap (λ (v : Verdict). sizes then grid_checks points times then v) (sym (operands-append 0 (listed left) (listed right)))

    module _ {v : Verdict} where
      pub by-sizes : {q : Refusal} → v ≡ Err q → sizes ≡ Err q → v ≡ inputs
      by-sizes h e = h ∙ sym (inputs-are ∙ rw e)

      module _ (p : sizes ≡ pass) where
        pub by-grid : {q : Refusal} → v ≡ Err q → grid_checks points times ≡ Err q → v ≡ inputs
        by-grid h e = h ∙ sym (inputs-are ∙ rw (p, e))

        module _ (g : grid_checks points times ≡ pass) where
          pub by-left : {q : Refusal} → v ≡ Err q → operand_checks 0 (listed left) ≡ Err q → v ≡ inputs
          by-left h e = h ∙ sym (inputs-are ∙ rw (p, g, e))

          pub by-right : operand_checks 0 (listed left) ≡ pass → v ≡ operand_checks 4 (listed right) → v ≡ inputs
          by-right e h = h ∙ sym (inputs-are ∙ rw (p, g, e))
