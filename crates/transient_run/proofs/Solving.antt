-- How a call ends, with the room for its count: refused, accepted, or 10 with the new places of all four slices cleared. Assumes nothing.
use Rattle.std.specs.Prelude.{Ok, Err, ◌≡◌, ◌&&◌, ◌+◌, ◌≤◌, ◌<◌}
use Rattle.lists.specs.Prelude.{sym, ap, ◌∙◌, Bool, true, false, cond, ℕ, le_trans, arith, List, le-leb, length, Float}
use Rattle.refusal.specs.declared.Refusal.{Refusal}
use Rattle.std.specs.Prelude.{Result}
use Rattle.refusal.specs.Verdict.{pass, Verdict, by}
use Rattle.two_time.specs.Layout.{length_of}
use Rattle.two_time.specs.New.{fits_new}
use Rattle.two_time.specs.SizeChecks.{SizesPassed}
use Rattle.two_time.specs.Lengths.{lengths}
use Rattle.two_time.specs.Cleared.{fits_new_lem}
use Rattle.transient_run.specs.Products.{formed}
use Rattle.transient_run.specs.Form.{start_products, HoldsBlock}
use Rattle.transient_run.specs.FormChecks.{Square}
use Rattle.transient_run.specs.Calls.{Run, counter_of, checks_of, worked}
use Rattle.transient_run.specs.Checks.{slices, checks-passed, block_held, counter_room, desk-below}
use Rattle.transient_run.specs.Ends.{checks-end, work-end, overflow-end, answers, retardeds, lessers, kernels, lesser_advanceds}
use Rattle.transient_run.proofs.Working.{cleared, Says}

module _ (old : ℕ) (r : Run) (le : old ≤ r.points) {verdict : Verdict} (checked : verdict ≡ checks_of old r.points r) where
  -- the answer and the slices are the definition's
  abbrev Leaves : Result ℕ Refusal → List Float → List Float → List Float → List Float → Type 0
  Leaves answer retarded lesser kernel lesser_advanced =
      let made = worked old r.points r (cleared old r) in
      (answer ≡ made.answer) × (retarded ≡ made.retarded) × (lesser ≡ made.lesser) × (kernel ≡ made.kernel) × (lesser_advanced ≡ made.lesser_advanced)

  pub refused_end : {answer : Result ℕ Refusal} {x : Refusal} → answer ≡ Err x → verdict ≡ Err x → Leaves answer r.retarded r.lesser r.kernel r.lesser_advanced
  refused_end h p =
      let end = sym (checks-end old r.points r (cleared old r) _ (sym checked ∙ p)) in
      (h ∙ answers end, retardeds end, lessers end, kernels end, lesser_advanceds end)

  module _ (p : verdict ≡ pass) where
    passed : (2 ≤ r.points) × (r.points ≤ r.capacity) × SizesPassed r.capacity r.orbitals true (slices r.points r) × Square r.orbitals r.form
    passed = checks-passed r.points r old (sym checked ∙ p)

    pub work-asks : (old ≤ r.points) × (r.points ≤ r.capacity) × HoldsBlock r.orbitals r.form × SizesPassed r.capacity r.orbitals true (slices r.points r)
    work-asks = (le, passed.1, block_held r.points r old (sym checked ∙ p), passed.2)

    pub points-most : r.points ≤ 256
    points-most = le_trans passed.1 passed.2.points-most

    pub count-room : {count : ℕ} → count ≡ formed (start_products r.form) old r.points → (r.desk < 8) × (counter_of r.session r.desk + count ≤ 0xffff_ffff_ffff_ffff)
    count-room e =
        let passes = sym checked ∙ p in
        let room = counter_room r.points r old passes in
        (desk-below r.points r old passes, omega (arith, room, e))

    -- what `clear_new` leaves in a slice
    abbrev Cleared : List Float → List Float → Type 0
    Cleared after before = after ≡ cond (fits_new r.capacity r.orbitals old r.points before) (cleared old r before) before

    clears : (before : List Float) {after : List Float} → length before ≡ length_of r.capacity r.orbitals → Cleared after before → after ≡ cleared old r before
    clears before long c = c ∙ (rw (fits_new_lem r.capacity r.orbitals old r.points before (rw (le-leb _ _ le, le-leb _ _ passed.1)) passed.2.points-most passed.2.orbitals-most long))

    module _ {ok : Bool} {g l k a : List Float} (w : Says old r ok g l k a) where
      pub finite_end : ok ≡ true → {count : ℕ} → count ≡ formed (start_products r.form) old r.points → Leaves (Ok count) g l k a
      finite_end h e =
          let end = sym (work-end old r.points r (cleared old r) (sym checked ∙ p) (sym w.0 ∙ h)) in
          let made = w.1 h in
          (ap Ok e ∙ answers end, made.0 ∙ retardeds end, made.1 ∙ lessers end, made.2 ∙ kernels end, made.3 ∙ lesser_advanceds end)

      pub overflow_end : ok ≡ false → {answer : Result ℕ Refusal} → answer ≡ Err (by 10) → {g' l' k' a' : List Float}
          → length g ≡ length r.retarded → length l ≡ length r.lesser → length k ≡ length r.kernel → length a ≡ length r.lesser_advanced
          → Cleared g' g → Cleared l' l → Cleared k' k → Cleared a' a → Leaves answer g' l' k' a'
      overflow_end h e kept₀ kept₁ kept₂ kept₃ c₀ c₁ c₂ c₃ =
          let end = sym (overflow-end old r.points r (cleared old r) (sym checked ∙ p) (sym w.0 ∙ h)) in
          let long = (lengths passed.2).1.1.1 in (
            e ∙ answers end,
            clears g (kept₀ ∙ long.0) c₀ ∙ w.2 ∙ retardeds end,
            clears l (kept₁ ∙ long.1.0) c₁ ∙ w.3 ∙ lessers end,
            clears k (kept₂ ∙ long.1.1.0) c₂ ∙ w.4 ∙ kernels end,
            clears a (kept₃ ∙ long.1.1.1.0) c₃ ∙ w.5 ∙ lesser_advanceds end,
          )
