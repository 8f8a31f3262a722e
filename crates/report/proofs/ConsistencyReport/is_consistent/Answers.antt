-- All seven are asked.
use Rattle.std.proofs.Common.{rules, ◌≡◌, ◌&&◌, ◌∷◌, Bool, true, false, Result, Ok}
use Rattle.std.specs.List.{list_all}
use Rattle.std.proofs.lemmas.Iterator.{YieldsList-from_slice}
use Rattle.std.proofs.lemmas.Iterator.Search.{all_from_yields_List}
use Rattle.lists.specs.Prelude.{refl, sym, ◌∙◌, [], Float, le, and-true}
use borrow.Author.Tests.{tests}
use Rattle.refusal.specs.declared.Refusal.{Refusal}
use Rattle.refusal.specs.Verdict.{pass, decide}
use Rattle.report.specs.Calls.{residuals_of, is_consistent}
use Rattle.report.proofs.ConsistencyReport.is_consistent.Goals as goal

decided : (a b : Bool) → a ≡ b → ◌≡◌ {A = Result Bool Refusal} (Ok a) (decide pass b)
unfolding decide
decided true b e = rw (← e) refl
decided false b e = rw (← e) refl

seven : (p : Float → Bool) (a b c d e f g : Float) → list_all p (a ∷ b ∷ c ∷ d ∷ e ∷ f ∷ g ∷ []) ≡ p a && (p b && (p c && (p d && (p e && (p f && p g)))))
seven p a b c d e f g = rw (and-true (p g)) refl

pub returns : goal.returns
unfolding is_consistent
returns c =
    let x = c.args in
    let s = x.self in
    let all = all_from_yields_List (λ r. le r x.tolerance) _ _ c.all.result c.all.ensures.ran (YieldsList-from_slice (residuals_of s) (c.iter.ensures.rest ∙ c.residuals.ensures)) (λ i b q k. search (rules, tests)) in
    rw (sym c.valid_tolerance.ensures ∙ c.in_ok-valid_tolerance.was)
    (decided c.all.result _ (all ∙ seven (λ r. le r x.tolerance) s.retarded_causality s.advanced_causality s.advanced_adjoint s.lesser_antihermiticity s.greater_antihermiticity s.spectral_identity s.equal_time))
