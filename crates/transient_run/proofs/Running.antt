-- How a run and an append end, by the answer of their work. Assumes nothing.
use Rattle.std.specs.Prelude.{Result, Ok, Err, ◌≡◌, ◌+◌}
use Rattle.lists.specs.Prelude.{sym, ap, ◌∙◌, true, false, ℕ, List, eqb, length, replicate, Float}
use Rattle.complex.specs.Arithmetic.{plus_zero}
use Rattle.refusal.specs.declared.Refusal.{Refusal}
use Rattle.refusal.specs.Verdict.{zeroed}
use Rattle.two_time.specs.Checks.{cleared as cleared-to}
use Rattle.transient_run.specs.Calls.{Run, Outcome, worked, transient_run}
use Rattle.transient_run.specs.Ends.{accepted_alike, refused_alike, ten_end, answers, retardeds, lessers, kernels, lesser_advanceds}
use Rattle.transient_run.proofs.Working.{cleared}

-- the answer and the slices are an outcome's
abbrev pub Is : Outcome → Result ℕ Refusal → List Float → List Float → List Float → List Float → Type 0
Is made answer retarded lesser kernel lesser_advanced =
    (answer ≡ made.answer) × (retarded ≡ made.retarded) × (lesser ≡ made.lesser) × (kernel ≡ made.kernel) × (lesser_advanced ≡ made.lesser_advanced)

pub is-also : {o p : Outcome} → o ≡ p → {answer : Result ℕ Refusal} {g l k a : List Float} → Is o answer g l k a → Is p answer g l k a
is-also e h = (h.0 ∙ answers e, h.1 ∙ retardeds e, h.2 ∙ lessers e, h.3 ∙ kernels e, h.4 ∙ lesser_advanceds e)

pub is-at : {o : Outcome} {answer answer' : Result ℕ Refusal} {g g' l l' k k' a a' : List Float}
    → answer' ≡ answer → g' ≡ g → l' ≡ l → k' ≡ k → a' ≡ a → Is o answer g l k a → Is o answer' g' l' k' a'
is-at e e₀ e₁ e₂ e₃ h = (e ∙ h.0, e₀ ∙ h.1, e₁ ∙ h.2, e₂ ∙ h.3, e₃ ∙ h.4)

module _ (r : Run) {answer : Result ℕ Refusal} {g l k a : List Float} (o : Is (worked 0 r.points r (cleared 0 r)) answer g l k a) where
  pub run-accepted : {count : ℕ} → answer ≡ Ok count → Is (transient_run r) answer g l k a
  unfolding transient_run
  run-accepted h = is-also (accepted_alike 0 r.points r (cleared 0 r) zeroed (sym o.0 ∙ h)) o

  pub run_refused : {x : Refusal} → answer ≡ Err x → eqb x.number 10 ≡ false → Is (transient_run r) answer g l k a
  unfolding transient_run
  run_refused {x} h n = is-also (refused_alike 0 r.points r (cleared 0 r) zeroed x (sym o.0 ∙ h) n) o

  -- each slice kept its length, and is cleared
  abbrev Cleared : List Float → List Float → List Float → Type 0
  Cleared after solved before = (after ≡ replicate (length solved) plus_zero) × (length solved ≡ length before)

  pub run-ten : {x : Refusal} → answer ≡ Err x → eqb x.number 10 ≡ true → {g' l' k' a' : List Float}
      → Cleared g' g r.retarded → Cleared l' l r.lesser → Cleared k' k r.kernel → Cleared a' a r.lesser_advanced → Is (transient_run r) answer g' l' k' a'
  unfolding transient_run
  run-ten {x} h n c₀ c₁ c₂ c₃ =
      let end = sym (ten_end 0 r.points r (cleared 0 r) zeroed x (sym o.0 ∙ h) n) in
      (h ∙ answers end, cleared-to c₀.0 c₀.1 ∙ retardeds end, cleared-to c₁.0 c₁.1 ∙ lessers end, cleared-to c₂.0 c₂.1 ∙ kernels end, cleared-to c₃.0 c₃.1 ∙ lesser_advanceds end)
