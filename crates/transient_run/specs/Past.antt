-- Points past every capacity: an append is refused before its work, and by the same number however many there are. Assumes nothing.
use Rattle.std.specs.Prelude.{Ok, Err, ◌≡◌, ◌&&◌, ◌+◌, ◌≤◌, ◌<◌}
use Rattle.lists.specs.Prelude.{refl, sym, ap, ◌∙◌, Bool, true, false, List, ℕ, suc, min, min-eq_left, min-eq_right, dec_lt, arith, add-one, leb, leb-true, le-leb, eqb, Float}
use Rattle.refusal.specs.declared.Refusal.{Refusal}
use Rattle.refusal.specs.Verdict.{Verdict, by, ask, ◌then◌}
use Rattle.refusal.specs.Checks.{large_enough, not_empty, within_limits, within_block, fitting, within_capacity, desk_known}
use Rattle.refusal.specs.Agreement.{ask_pass, then-pass, then-agree, then-refused}
use Rattle.two_time.specs.New.{cleared_new}
use Rattle.two_time.specs.SizeChecks.{limited}
use Rattle.transient_run.specs.Form.{Form, form_sizes}
use Rattle.transient_run.specs.Form.Form.{empty, occupied}
use Rattle.transient_run.specs.Calls.{Run, Outcome, solved, made_finite, checks_of, verdict_of, worked, append_point}
use Rattle.transient_run.specs.Checks.{all_lent, sizes_asked, sizes_said}
use Rattle.transient_run.specs.Ends.{checks-end}

-- 16 of points past the capacity
past : (points capacity : ℕ) → capacity < points → within_capacity points capacity ≡ Err (by 16)
unfolding within_capacity ask
past points capacity h = rw (no (leb points capacity) (λ e. let l = leb-true points capacity e in omega arith))
  where
    no : (b : Bool) → (b ≡ true → ⊥) → b ≡ false
    no true g = absurd (g refl)
    no false g = refl

-- two counts past 256 are alike
sizes_alike : (form : Form) (capacity p q n : ℕ) (fits : Bool) → 256 < p → 256 < q → form_sizes form capacity p n fits ≡ form_sizes form capacity q n fits
unfolding form_sizes large_enough
sizes_alike empty capacity p q n fits hp hq =
    let few = ask (true && leb 1 n) (by 1) in
    let limits = within_limits capacity n in
    let asked : ℕ → Verdict = λ points. fitting fits then within_capacity points capacity in
    rw (le-leb 2 p (omega arith), le-leb 2 q (omega arith))
    (then-agree few _ (limits then asked p) (limits then asked q) refl (λ a. then-agree limits _ (asked p) (asked q) refl
    (λ b. let most = (limited capacity n b).0 in then-agree (fitting fits) _ _ _ refl (λ c. past p capacity (omega arith) ∙ sym (past q capacity (omega arith))))))
sizes_alike (occupied g0) capacity p q n fits hp hq =
    let few : Verdict = ask (true && leb 1 n) (by 1) then not_empty g0.rows g0.columns in
    let limits : Verdict = within_limits capacity n then within_block g0.rows g0.columns in
    let all = fits && (eqb g0.rows n && eqb g0.columns n) in
    let asked : ℕ → Verdict = λ points. fitting all then within_capacity points capacity in
    rw (le-leb 2 p (omega arith), le-leb 2 q (omega arith))
    (then-agree few _ (limits then asked p) (limits then asked q) refl (λ a. then-agree limits _ (asked p) (asked q) refl
    (λ b. let most = (limited capacity n (then-pass (within_limits capacity n) (within_block g0.rows g0.columns) b).0).0 in
    then-agree (fitting all) _ _ _ refl (λ c. past p capacity (omega arith) ∙ sym (past q capacity (omega arith))))))

-- a call that is refused by its sizes answers the refusal and leaves every slice
module _ (old points : ℕ) (r : Run) (clear : List Float → List Float) (x : Refusal) (refused : sizes_asked points r ≡ Err x) where
  sizes-worked : worked old points r clear ≡ record { answer = Err x; retarded = r.retarded; lesser = r.lesser; kernel = r.kernel; lesser_advanced = r.lesser_advanced }
  unfolding checks_of
  sizes-worked = checks-end old points r clear x (then-refused (sizes_asked points r) _ x refused)

-- the same call that is told other points
abbrev pub with_points : Run → ℕ → Run
with_points r k =
    record {
      form = r.form;
      session = r.session;
      desk = r.desk;
      points = k;
      capacity = r.capacity;
      orbitals = r.orbitals;
      tolerance = r.tolerance;
      times = r.times;
      free = r.free;
      self_energy = r.self_energy;
      lesser_self_energy = r.lesser_self_energy;
      retarded = r.retarded;
      lesser = r.lesser;
      kernel = r.kernel;
      lesser_advanced = r.lesser_advanced;
    }

-- what it is told does not matter beside what it works out
pub told_free : (old points k : ℕ) (r : Run) (clear : List Float → List Float) → worked old points (with_points r k) clear ≡ worked old points r clear
unfolding worked verdict_of checks_of made_finite
told_free old points k r clear = refl

-- so an append may cut its points at 256, where one more fits a word
module _ (r : Run) where
  abbrev append_to : ℕ → ℕ → Outcome
  append_to old points = worked old points r (cleared_new r.capacity r.orbitals old points)

  -- past 256 all are refused alike
  past_alike : (p q : ℕ) → 256 < p → 256 < q → (old old' : ℕ) → append_to old p ≡ append_to old' q
  past_alike p q hp hq old old' = by-sizes (sizes_asked p r) refl
    where
      by-sizes : (v : Verdict) → sizes_asked p r ≡ v → append_to old p ≡ append_to old' q
      by-sizes (Ok tt) e = let z = sizes_said p r e in absurd (let within = z.1 in let most = z.2.points-most in omega arith)
      by-sizes (Err x) e =
          sizes-worked old p r _ x e ∙ sym (sizes-worked old' q r _ x (ap (λ v. desk_known r.desk then v) (sym (sizes_alike r.form r.capacity p q r.orbitals (all_lent p r) hp hq)) ∙ e))

  pub append-cut : (k : ℕ) → k ≡ min r.points 256 → worked k (k + 1) (with_points r (k + 1)) (cleared_new r.capacity r.orbitals k (k + 1)) ≡ append_point r
  unfolding append_point
  append-cut k e =
      told_free k (k + 1) (k + 1) r _
      ∙ elim (dec_lt 256 r.points) [
        | yes more ↦ (let h : k ≡ 256 = e ∙ min-eq_right (omega arith) in past_alike (k + 1) (suc r.points) (omega arith) (omega arith) k r.points)
        | no most ↦ (let h : k ≡ r.points = e ∙ min-eq_left (omega arith) in rw (add-one k, h))
      ]
