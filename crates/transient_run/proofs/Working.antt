-- What the work's answers say on the way: K and G^R, then X, then G^<. Assumes nothing.
use Rattle.refusal.specs.Verdict.{pass}
use Rattle.std.specs.Prelude.{is_ok, Ok, Err, ◌≡◌, ◌&&◌, ◌∷◌, ◌≤◌}
use Rattle.lists.specs.Prelude.{refl, sym, ap, ap₂, ◌∙◌, Bool, true, false, cond, List, [], ℕ, leb, le-leb, length, Float}
use Rattle.lists.specs.Agreement.{never}
use Rattle.two_time.specs.declared.sums.Sums.TheVariants.{Causal, LesserAdvanced}
use Rattle.two_time.specs.declared.sums.SumError.{SumError}
use Rattle.two_time.specs.Summed.{Summed}
use Rattle.two_time.specs.New.{cleared_new}
use Rattle.two_time.specs.Sums.{new_numbers, new_finite}
use Rattle.two_time.specs.Calls.{size_checks}
use Rattle.two_time.specs.Outcome.{new_sums, flagged, new_sums_said}
use Rattle.two_time.specs.SizeChecks.{SizesPassed, sizes_pass}
use Rattle.two_time.specs.Lengths.{lengths, none-asked, also_asked}
use Rattle.two_time.specs.Start.{new_lesser_numbers}
use Rattle.dyson.specs.Calls.{solved_new}
use Rattle.dyson.specs.NewSolved.{solved_new_said}
use Rattle.transient_run.specs.Form.{start_of, HoldsBlock}
use Rattle.transient_run.specs.Calls.{Run, retarded_made, lesser_made, kernel_made, lesser_advanced_made, made_finite}
use Rattle.transient_run.specs.Checks.{slices}
use Rattle.transient_run.specs.Steps.{lesser_outcome, retarded_is_finite, retarded-fails, lesser_advanced-fails, lesser_says, lesser_said, sums_cleared, lesser-cleared, retarded-cleared}

module _ (old : ℕ) (r : Run) where
  abbrev pub cleared : List Float → List Float
  cleared = cleared_new r.capacity r.orbitals old r.points

  -- what the work says of its answer and its slices
  abbrev pub Says : Bool → List Float → List Float → List Float → List Float → Type 0
  Says ok retarded lesser kernel lesser_advanced =
      (ok ≡ made_finite old r.points r)
      × (ok ≡ true → (retarded ≡ retarded_made old r.points r) × (lesser ≡ lesser_made old r.points r)
      × (kernel ≡ kernel_made old r.points r) × (lesser_advanced ≡ lesser_advanced_made old r.points r))
      × (cleared retarded ≡ cleared r.retarded) × (cleared lesser ≡ cleared r.lesser)
      × (cleared kernel ≡ cleared r.kernel) × (cleared lesser_advanced ≡ cleared r.lesser_advanced)

module _ (old : ℕ) (r : Run) (z : (old ≤ r.points) × (r.points ≤ r.capacity) × HoldsBlock r.orbitals r.form × SizesPassed r.capacity r.orbitals true (slices r.points r)) where
  -- slices of their length pass the sizes that a step asks
  asked : (xs : List (List Float)) → SizesPassed r.capacity r.orbitals true xs → size_checks r.capacity r.orbitals (leb old r.points && leb r.points r.capacity) xs ≡ pass
  asked xs w = flagged _ _ _ xs (rw (le-leb _ _ z.0, le-leb _ _ z.1)) (sizes_pass xs w w.long)

  -- K and G^R, by the first answer
  module _ (first : Summed) (g k : List Float)
      (e : let solved = solved_new r.capacity r.orbitals old r.points r.times r.free r.self_energy r.retarded r.kernel in (first ≡ solved.answer) × (g ≡ solved.retarded) × (k ≡ solved.kernel)) where
    one : (ok : Bool) → ok ≡ is_ok first
        → (retarded_is_finite old r.points r ≡ ok) × (g ≡ cond ok (retarded_made old r.points r) (cleared old r r.retarded)) × (k ≡ cond ok (kernel_made old r.points r) (cleared old r r.kernel))
    one ok h =
        let l = lengths z.3 in
        solved_new_said r.capacity r.orbitals old r.points r.times r.free r.self_energy r.retarded r.kernel
        (asked _ (also_asked l.0 (also_asked l.1.0 (also_asked l.1.1.1.0 (also_asked l.1.1.1.1.1.0 (none-asked z.3)))))) e ok h

    -- both are cleared to what they were
    one-gone : (cleared old r g ≡ cleared old r r.retarded) × (cleared old r k ≡ cleared old r r.kernel)
    one-gone =
        let t = one (is_ok first) refl in (
          retarded-cleared r.capacity r.orbitals old r.points r.times r.free (kernel_made old r.points r) r.retarded (is_ok first) t.1,
          sums_cleared r.capacity r.orbitals old r.points Causal r.times r.free r.self_energy r.kernel (is_ok first) t.2,
        )

    pub retarded_lost : {x : SumError} → first ≡ Err x → {ok : Bool} → ok ≡ false → Says old r ok g r.lesser k r.lesser_advanced
    retarded_lost h f = (f ∙ retarded-fails _ _ r (one false (ap is_ok (sym h))).0, λ t. never (sym f ∙ t), one-gone.0, refl, one-gone.1, refl)

    -- X, by the second
    module _ (made : first ≡ Ok tt) (long : length g ≡ length r.retarded) (second : Summed) (a : List Float)
        (e' : let sums = new_sums LesserAdvanced r.capacity r.orbitals old r.points r.times r.lesser_self_energy g r.lesser_advanced in (second ≡ sums.answer) × (a ≡ sums.out)) where
      both : (retarded_is_finite old r.points r ≡ true) × (g ≡ retarded_made old r.points r) × (k ≡ kernel_made old r.points r)
      both = one true (ap is_ok (sym made))

      two : (ok : Bool) → ok ≡ is_ok second
          → (new_finite LesserAdvanced r.capacity r.orbitals old r.points r.times r.lesser_self_energy g ≡ ok)
          × (a ≡ cond ok (new_numbers LesserAdvanced r.capacity r.orbitals old r.points r.times r.lesser_self_energy g r.lesser_advanced) (cleared old r r.lesser_advanced))
      two ok h =
          let l = lengths z.3 in
          new_sums_said LesserAdvanced r.capacity r.orbitals old r.points r.times r.lesser_self_energy g r.lesser_advanced
          (asked _ (also_asked l.1.1.0 (also_asked (long ∙ l.1.1.1.0) (also_asked l.1.1.1.1.1.1.0 (none-asked z.3))))) e' ok h

      two-gone : cleared old r a ≡ cleared old r r.lesser_advanced
      two-gone = sums_cleared r.capacity r.orbitals old r.points LesserAdvanced r.times r.lesser_self_energy g r.lesser_advanced (is_ok second) (two (is_ok second) refl).1

      pub lesser_advanced_lost : {x : SumError} → second ≡ Err x → {ok : Bool} → ok ≡ false → Says old r ok g r.lesser k a
      lesser_advanced_lost h f =
          (f ∙ lesser_advanced-fails _ _ r both.0 both.1 (two false (ap is_ok (sym h))).0, λ t. never (sym f ∙ t), one-gone.0, refl, one-gone.1, two-gone)

      -- G^<, by the last
      module _ (made' : second ≡ Ok tt) (long' : length a ≡ length r.lesser_advanced) (last : Summed) (l : List Float)
          (e'' : let sums = lesser_outcome r.form r.capacity r.orbitals old r.points r.times g a r.lesser in (last ≡ sums.answer) × (l ≡ sums.out)) where
        pub all-said : Says old r (is_ok last) g l k a
        all-said =
            let long-each = lengths z.3 in
            let m = two true (ap is_ok (sym made')) in
            let numbers : List Float → List Float = λ xs. new_numbers LesserAdvanced r.capacity r.orbitals old r.points r.times r.lesser_self_energy xs r.lesser_advanced in
            let a-made = m.1 ∙ ap numbers both.1 in
            let o = lesser_said r.capacity r.orbitals old r.points r.times g a r.lesser
            (asked _ (also_asked (long ∙ long-each.1.1.1.0) (also_asked (long' ∙ long-each.1.1.1.1.1.1.0) (also_asked long-each.1.1.1.1.0 (none-asked z.3))))) r.form z.2 e'' (is_ok last) refl in (
              lesser_says _ _ r both.0 both.1 m.0 a-made o.0,
              λ h. (both.1, (rw h at o.1) ∙ ap₂ (λ (xs ys : List Float). new_lesser_numbers (start_of r.form r.capacity r.orbitals xs) r.capacity r.orbitals old r.points r.times xs ys r.lesser) both.1 a-made, both.2, a-made),
              one-gone.0,
              lesser-cleared r.capacity r.orbitals old r.points (start_of r.form r.capacity r.orbitals g) r.times g a r.lesser (is_ok last) o.1,
              one-gone.1,
              two-gone,
            )
