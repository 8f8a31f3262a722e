-- What the answers of a call's steps say: K and G^R, then X, then G^<. Each says whether all that is made is finite, and what it wrote is gone once the
-- new places are cleared. Assumes nothing.
use Rattle.refusal.specs.Verdict.{pass}
use Rattle.std.specs.Prelude.{is_ok, ◌≡◌, ◌&&◌, ◌∷◌}
use Rattle.lists.specs.Prelude.{sym, ap, ◌∙◌, Bool, true, false, cond, and-true, List, [], ℕ, leb, Float}
use Rattle.block.specs.Operations.{zeros}
use Rattle.two_time.specs.declared.sums.Sums.{Sums}
use Rattle.two_time.specs.Summed.{Summed}
use Rattle.two_time.specs.declared.sums.Sums.TheVariants.{LesserAdvanced, Lesser}
use Rattle.two_time.specs.Layout.{TwoTime}
use Rattle.two_time.specs.New.{written, cleared_new}
use Rattle.two_time.specs.Sums.{new_numbers, new_finite}
use Rattle.two_time.proofs.Cleared.{cleared-written}
use Rattle.two_time.specs.Calls.{size_checks}
use Rattle.two_time.specs.Outcome.{SumsOutcome, new_sums, new_sums_said, flagged}
use Rattle.two_time.specs.Start.{Start, new_lesser_numbers, new_lesser_finite, new_lesser_from, holds_block}
use Rattle.two_time.specs.Started.{empty-numbers, empty-finite, new-lesser_said}
use Rattle.dyson.specs.Retarded.{new_retarded}
use Rattle.dyson.specs.Calls.{solved_new_finite}
use Rattle.transient_run.specs.Form.{Form, start_of, HoldsBlock}
use Rattle.transient_run.specs.Form.Form.{empty, occupied}
use Rattle.transient_run.specs.Calls.{Run, retarded_made, lesser_advanced_made, made_finite}

-- the outcome of the last step: `new_sums` of the empty form, `new_lesser_from` of the other
unfoldable pub lesser_outcome : Form → ℕ → ℕ → ℕ → ℕ → List Float → List Float → List Float → List Float → SumsOutcome
lesser_outcome empty capacity n old points times retarded lesser_advanced out = new_sums Lesser capacity n old points times retarded lesser_advanced out
lesser_outcome (occupied g0) capacity n old points times retarded lesser_advanced out = new_lesser_from capacity n old points times retarded lesser_advanced g0.values out

-- what its answer says of slices that have their length, where the form's slice holds its block
module _ (capacity n old points : ℕ) (times retarded lesser_advanced out : List Float)
    (passed : size_checks capacity n (leb old points && leb points capacity) (retarded ∷ lesser_advanced ∷ out ∷ []) ≡ pass) where
  pub lesser_said : (form : Form) → HoldsBlock n form → {answer : Summed} {after : List Float}
      → (let made = lesser_outcome form capacity n old points times retarded lesser_advanced out in (answer ≡ made.answer) × (after ≡ made.out)) → (ok : Bool) → ok ≡ is_ok answer
      → (new_lesser_finite (start_of form capacity n retarded) capacity n old points times retarded lesser_advanced ≡ ok)
      × (after ≡ cond ok (new_lesser_numbers (start_of form capacity n retarded) capacity n old points times retarded lesser_advanced out) (cleared_new capacity n old points out))
  unfolding lesser_outcome start_of
  lesser_said empty holds e ok h =
      let t = new_sums_said Lesser capacity n old points times retarded lesser_advanced out passed e ok h in
      (empty-finite capacity n old points times retarded lesser_advanced ∙ t.0, t.1 ∙ ap (λ (made : List Float). cond ok made (cleared_new capacity n old points out)) (sym (empty-numbers capacity n old points times retarded lesser_advanced out)))
  lesser_said (occupied g0) holds e ok h =
      new-lesser_said capacity n old points times retarded lesser_advanced g0.values out
      (ap (λ (b : Bool). size_checks capacity n ((leb old points && leb points capacity) && b) (retarded ∷ lesser_advanced ∷ out ∷ [])) holds
      ∙ ap (λ (b : Bool). size_checks capacity n b (retarded ∷ lesser_advanced ∷ out ∷ [])) (and-true (leb old points && leb points capacity)) ∙ passed) e ok h

module _ (old points : ℕ) (r : Run) where
  abbrev pub retarded_is_finite : Bool
  retarded_is_finite = solved_new_finite r.capacity r.orbitals old points r.times r.free r.self_energy r.retarded r.kernel

  pub retarded-fails : retarded_is_finite ≡ false → false ≡ made_finite old points r
  unfolding made_finite
  retarded-fails e = rw e

  -- where G^R is made
  module _ (solved : retarded_is_finite ≡ true) {retarded : List Float} (made : retarded ≡ retarded_made old points r) where
    pub lesser_advanced-fails : new_finite LesserAdvanced r.capacity r.orbitals old points r.times r.lesser_self_energy retarded ≡ false → false ≡ made_finite old points r
    unfolding made_finite
    lesser_advanced-fails e = rw (solved, ← made, e)

    pub lesser_says : new_finite LesserAdvanced r.capacity r.orbitals old points r.times r.lesser_self_energy retarded ≡ true → {lesser_advanced : List Float} → lesser_advanced ≡ lesser_advanced_made old points r
        → {ok : Bool} → new_lesser_finite (start_of r.form r.capacity r.orbitals retarded) r.capacity r.orbitals old points r.times retarded lesser_advanced ≡ ok → ok ≡ made_finite old points r
    unfolding made_finite
    lesser_says e m l = rw (solved, ← m, ← made, e, l)

-- a slice that a step left
module _ (capacity n old points : ℕ) where
  cleared-either : (ok : Bool) (f : TwoTime) (before : List Float)
      → cleared_new capacity n old points (cond ok (written capacity n old points f before) (cleared_new capacity n old points before)) ≡ cleared_new capacity n old points before
  cleared-either true f before = cleared-written capacity n old points f before
  cleared-either false f before = cleared-written capacity n old points (λ t u. zeros) before

  pub sums_cleared : (sums : Sums) (times left right before : List Float) {after : List Float} (ok : Bool)
      → after ≡ cond ok (new_numbers sums capacity n old points times left right before) (cleared_new capacity n old points before) → cleared_new capacity n old points after ≡ cleared_new capacity n old points before
  unfolding new_numbers
  sums_cleared sums times left right before ok e = ap (cleared_new capacity n old points) e ∙ cleared-either ok _ before

  pub lesser-cleared : (start : Start) (times left right before : List Float) {after : List Float} (ok : Bool)
      → after ≡ cond ok (new_lesser_numbers start capacity n old points times left right before) (cleared_new capacity n old points before) → cleared_new capacity n old points after ≡ cleared_new capacity n old points before
  unfolding new_lesser_numbers
  lesser-cleared start times left right before ok e = ap (cleared_new capacity n old points) e ∙ cleared-either ok _ before

  pub retarded-cleared : (times free kernel before : List Float) {after : List Float} (ok : Bool)
      → after ≡ cond ok (new_retarded capacity n old points times free kernel before) (cleared_new capacity n old points before) → cleared_new capacity n old points after ≡ cleared_new capacity n old points before
  unfolding new_retarded
  retarded-cleared times free kernel before ok e = ap (cleared_new capacity n old points) e ∙ cleared-either ok _ before
