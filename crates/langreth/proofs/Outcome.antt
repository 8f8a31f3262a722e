-- How a Langreth product ends: refused, accepted, or 10 with all four outputs cleared. Assumes nothing.
use Rattle.std.specs.Prelude.{Err, ◌≡◌, ◌++◌}
use Rattle.lists.specs.Prelude.{refl, sym, ap, ◌∙◌, Bool, true, false, List, ℕ, length, replicate, Float}
use Rattle.complex.specs.Arithmetic.{plus_zero}
use Rattle.refusal.specs.declared.Refusal.{Refusal}
use Rattle.refusal.specs.Verdict.{pass, Verdict, by, zeroed}
use Rattle.refusal.specs.Outcome as Outcome
use Rattle.two_time.specs.Calls.{input_checks}
use Rattle.two_time.specs.SizeChecks.{SizesPassed}
use Rattle.two_time.specs.Lengths.{others-asked}
use Rattle.two_time.specs.Checks.{cleared, inputs_keeping, inputs-sizes}
use Rattle.langreth.specs.Calls.{Components, components_of, listed, product_of, product_finite, product_verdict, langreth_product}

module _ (points orbitals : ℕ) (times : List Float) (left right out : Components) where
  -- the answer and the outputs are the definition's
  abbrev Leaves : Verdict → Components → Type 0
  Leaves answer after =
      let product = langreth_product points orbitals times left right out in
      (answer ≡ product.answer) × (after.retarded ≡ product.out.retarded) × (after.advanced ≡ product.out.advanced) × (after.lesser ≡ product.out.lesser) × (after.greater ≡ product.out.greater)

  abbrev checks : Verdict
  checks = input_checks points orbitals times (listed left ++ listed right) (listed out)

  module _ {verdict : Verdict} (asked : verdict ≡ checks) where
    pub refused : {answer : Verdict} {r : Refusal} → answer ≡ Err r → verdict ≡ Err r → Leaves answer out
    unfolding langreth_product product_verdict
    refused h p =
        let e = Outcome.unchanged zeroed (h ∙ sym p ∙ asked) (product_finite points orbitals times left right) (inputs_keeping _ _ _ _ _) _ h in
        (e.answered, e.slice _ _, e.slice _ _, e.slice _ _, e.slice _ _)

    module _ (p : verdict ≡ pass) where
      pub work-asks : SizesPassed points orbitals true (listed left ++ listed right ++ listed out)
      work-asks = let z = inputs-sizes points orbitals times (listed left ++ listed right) (listed out) (sym asked ∙ p) in others-asked z _ z.long

      module _ {ok : Bool} {after : Components} (w : (ok ≡ product_finite points orbitals times left right) × (ok ≡ true → after ≡ product_of points orbitals times left right)) where
        pub accepted : ok ≡ true → Leaves pass after
        unfolding langreth_product product_verdict
        accepted h =
            let e = Outcome.accepted zeroed asked (product_finite points orbitals times left right) p (sym w.0 ∙ h) in
            let made = w.1 h in (
              e.answered,
              ap (λ (x : Components). x.retarded) made ∙ e.slice _ _,
              ap (λ (x : Components). x.advanced) made ∙ e.slice _ _,
              ap (λ (x : Components). x.lesser) made ∙ e.slice _ _,
              ap (λ (x : Components). x.greater) made ∙ e.slice _ _,
            )

        -- each output kept its length, and is cleared
        abbrev Cleared : List Float → List Float → List Float → Type 0
        Cleared cleared worked before = (cleared ≡ replicate (length worked) plus_zero) × (length worked ≡ length before)

        pub overflowed : ok ≡ false → {answer : Verdict} → answer ≡ Err (by 10) → {end : Components}
            → Cleared end.retarded after.retarded out.retarded → Cleared end.advanced after.advanced out.advanced
            → Cleared end.lesser after.lesser out.lesser → Cleared end.greater after.greater out.greater → Leaves answer end
        unfolding langreth_product product_verdict
        overflowed h a r v l g =
            let e = Outcome.overflowed zeroed asked (product_finite points orbitals times left right) p (sym w.0 ∙ h) in (
              a ∙ e.answered,
              cleared r.0 r.1 ∙ e.slice _ _,
              cleared v.0 v.1 ∙ e.slice _ _,
              cleared l.0 l.1 ∙ e.slice _ _,
              cleared g.0 g.1 ∙ e.slice _ _,
            )
