-- One more answer, and all of them.
use Rattle.std.proofs.Common.{rules, ◌≡◌, ◌+◌, ◌≤◌, ◌<◌, Result, Ok, Err}
use Rattle.std.specs.Result.{result_unwrap_or}
use Rattle.lists.specs.Prelude.{refl, sym, ap, ◌∙◌, Bool, true, false, cond, eqb, List, ℕ, le_trans, le_of_eq, arith, length, set, Float}
use Rattle.lists.specs.Filling.{over}
use Rattle.lists.specs.Singles.{singles, singles-none, singles-step, singles-end}
use Rattle.complex.specs.Arithmetic.{plus_zero}
use Rattle.refusal.specs.declared.Refusal.{Refusal}
use Rattle.observables.specs.declared.Observed.TheVariants.{NotReal, Refused as NotObserved}
use Rattle.observables.specs.Calls.{observed_number}
use Rattle.observables.specs.Measured.{outcome}
use Rattle.flows.specs.Calls.{flow_of}
use Rattle.flows.proofs.fill.Goals as goal

-- +0 on a refusal
refused : (b : Bool) (x : Float) (r : Refusal) → plus_zero ≡ flow_of (cond b (NotReal x) (NotObserved r))
unfolding flow_of
refused true x r = refl
refused false x r = refl

flow_outcome : (m : Result Float Refusal) → result_unwrap_or m plus_zero ≡ flow_of (outcome m)
unfolding outcome flow_of
flow_outcome (Ok x) = refl
flow_outcome (Err r) = refused (eqb r.number 14) r.part r

step : {A : Type 0} (d xs : List A) (f : ℕ → A) (k : ℕ) {x : A} → xs ≡ over d (singles k f) → x ≡ f k → k < length d → set xs k x ≡ over d (singles (k + 1) f)
step d xs f k e h l = rw (e, h) (singles-step d f k l)

ended : {A : Type 0} {n k : ℕ} {out : List A} (d : List A) (f : ℕ → A) → length d ≡ n → k ≤ n → n ≤ k → out ≡ over d (singles k f) → out ≡ singles n f
ended {A} {n} {k} d f e le ge h = singles-end d f k (le_trans le (le_of_eq (sym e))) (le_trans (le_of_eq e) ge) h ∙ ap (λ (m : ℕ). singles m f) e

pub loop-k-init : goal.loop-k-init
loop-k-init c = (singles-none _ _, singles-none _ _)

pub loop-k-preserved : goal.loop-k-preserved
loop-k-preserved c =
    let long = c.requires.flows_len in
    let under = c.loop-k-test.true in (
      step _ _ _ c.loop-k.k c.loop-k.invariant.0 (c.unwrap_or.ensures ∙ flow_outcome _ ∙ ap flow_of c.answer_to-answer.ensures) (omega (arith, long.0, under)),
      step _ _ _ c.loop-k.k c.loop-k.invariant.1 (c.number.ensures ∙ ap observed_number c.answer_to-answer.ensures) (omega (arith, long.1, under)),
    )

pub returns : goal.returns
returns c =
    let long = c.requires.flows_len in
    let most = c.loop-k.auto.k-end in
    (ended _ _ long.0 most c.loop-k-test.false c.loop-k.invariant.0, ended _ _ long.1 most c.loop-k-test.false c.loop-k.invariant.1)
