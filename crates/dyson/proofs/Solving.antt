-- K and then G at the new places, by the answers on the way. Assumes nothing.
use Rattle.std.specs.Prelude.{is_ok, Ok, Err, ◌≡◌, ◌&&◌, ◌∷◌, ◌≤◌}
use Rattle.lists.specs.Prelude.{sym, ap, ◌∙◌, Bool, true, false, cond, List, [], ℕ, leb, leb-true, length, Float}
use Rattle.lists.specs.Agreement.{both}
use Rattle.refusal.specs.declared.Refusal.{Refusal}
use Rattle.refusal.specs.Verdict.{pass, Verdict, ◌then◌}
use Rattle.refusal.specs.Checks.{large_enough, within_limits, fitting}
use Rattle.two_time.specs.declared.sums.Sums.TheVariants.{Causal}
use Rattle.two_time.specs.declared.sums.SumError.TheVariants.{Overflow, Unfit}
use Rattle.two_time.specs.Summed.{Summed}
use Rattle.two_time.specs.Layout.{length_of}
use Rattle.two_time.specs.New.{cleared_new, fits_new}
use Rattle.two_time.specs.Sums.{new_numbers, new_finite}
use Rattle.two_time.specs.Calls.{all_fit, size_checks}
use Rattle.two_time.specs.Outcome.{new_sums, summed_answer, new_out, flagged, new_sums_said}
use Rattle.two_time.specs.SizeChecks.{SizesPassed, sizes_asked_lem, sizes-passed, sizes_pass}
use Rattle.two_time.specs.Lengths.{lengths, none-asked, also_asked}
use Rattle.two_time.specs.Cleared.{fits_new_lem}
use Rattle.two_time.proofs.Cleared.{cleared-written}
use Rattle.dyson.specs.Retarded.{new_retarded, new_retarded_finite}
use Rattle.dyson.specs.Calls.{solved_new_finite, solved_new}
use Rattle.dyson.specs.NewSolved.{kernel_lost, kernel-there}

module _ (capacity n old points : ℕ) (times free self_energy retarded kernel : List Float) where
  abbrev there : Bool
  there = leb old points && leb points capacity

  abbrev cleared : List Float → List Float
  cleared = cleared_new capacity n old points

  -- what `clear_new` leaves in a slice
  abbrev Cleared : List Float → List Float → Type 0
  Cleared after before = after ≡ cond (fits_new capacity n old points before) (cleared before) before

  -- the answer and the two slices are the definition's
  abbrev Leaves : Summed → List Float → List Float → Type 0
  Leaves answer retarded' kernel' =
      let solved = solved_new capacity n old points times free self_energy retarded kernel in
      (answer ≡ solved.answer) × (retarded' ≡ solved.retarded) × (kernel' ≡ solved.kernel)

  module _ {fits : Bool} {sizes : Verdict} (f : fits ≡ all_fit capacity n (free ∷ self_energy ∷ retarded ∷ kernel ∷ []))
      (s : sizes ≡ (large_enough capacity n then within_limits capacity n then fitting (there && fits))) where
    asked : sizes ≡ size_checks capacity n there (free ∷ self_energy ∷ retarded ∷ kernel ∷ [])
    asked = sizes_asked_lem _ _ _ there _ _ f s

    pub unfit : {r : Refusal} → sizes ≡ Err r → Leaves (Err Unfit) retarded kernel
    unfolding solved_new summed_answer new_out
    unfit e = let h = sym asked ∙ e in (rw h, rw h, rw h)

    module _ (p : sizes ≡ pass) {convolved : Summed} {kernel' : List Float}
        (e : let made = new_sums Causal capacity n old points times free self_energy kernel in (convolved ≡ made.answer) × (kernel' ≡ made.out)) where
      passed : size_checks capacity n there (free ∷ self_energy ∷ retarded ∷ kernel ∷ []) ≡ pass
      passed = sym asked ∙ p

      sized : SizesPassed capacity n there (free ∷ self_energy ∷ retarded ∷ kernel ∷ [])
      sized = sizes-passed _ _ _ _ passed

      -- what the convolution says
      said : (ok : Bool) → ok ≡ is_ok convolved
          → (new_finite Causal capacity n old points times free self_energy ≡ ok) × (kernel' ≡ cond ok (new_numbers Causal capacity n old points times free self_energy kernel) (cleared kernel))
      said ok h =
          let l = lengths sized in
          let w : SizesPassed capacity n true (free ∷ self_energy ∷ kernel ∷ []) = also_asked l.0 (also_asked l.1.0 (also_asked l.1.1.1.0 (none-asked sized))) in
          new_sums_said Causal _ _ _ _ _ _ _ _ (flagged _ _ there _ sized.others (sizes_pass _ w w.long)) e ok h

      -- a slice of its length is cleared
      clears : (before : List Float) {after : List Float} → length before ≡ length_of capacity n → Cleared after before → after ≡ cleared before
      clears before long c = c ∙ (rw (fits_new_lem capacity n old points before sized.others sized.points-most sized.orbitals-most long))

      pub no-kernel : {retarded' : List Float} → is_ok convolved ≡ false → Cleared retarded' retarded → Leaves (Err Overflow) retarded' kernel'
      unfolding solved_new summed_answer new_out
      no-kernel h c =
          let k = said false (sym h) in let l = lengths sized in
          let lost = kernel_lost capacity n old points times free self_energy retarded kernel k.0 in
          (rw (passed, lost), rw (passed, lost) (clears _ l.1.1.0 c), rw (passed, lost) k.1)

      module _ (kept : length kernel' ≡ length kernel) where
        pub forward-asks : (old ≤ points) × (points ≤ capacity) × SizesPassed capacity n true (free ∷ kernel' ∷ retarded ∷ [])
        forward-asks =
            let l = lengths sized in let orders = both (leb old points) _ sized.others in
            (leb-true _ _ orders.0, leb-true _ _ orders.1, also_asked l.0 (also_asked (kept ∙ l.1.1.1.0) (also_asked l.1.1.0 (none-asked sized))))

        -- K is made, and G is finite or not
        module _ (h : is_ok convolved ≡ true) {ok : Bool} {retarded' : List Float}
            (g : (ok ≡ new_retarded_finite capacity n old points times free kernel' retarded)
            × (ok ≡ true → retarded' ≡ new_retarded capacity n old points times free kernel' retarded)
            × (cleared retarded' ≡ cleared retarded)) where
          solved : solved_new_finite capacity n old points times free self_energy retarded kernel ≡ ok
          solved = let m = said true (sym h) in kernel-there capacity n old points times free self_energy retarded kernel m.0 m.1 g.0

          pub both-made : ok ≡ true → Leaves (Ok tt) retarded' kernel'
          unfolding solved_new summed_answer new_out
          both-made t =
              let m = said true (sym h) in let finite = solved ∙ t in (
                rw (passed, finite),
                rw (passed, finite) (g.1 t ∙ ap (λ (k : List Float). new_retarded capacity n old points times free k retarded) m.1),
                rw (passed, finite) m.1,
              )

          pub no-green : {retarded'' kernel'' : List Float} → ok ≡ false → length retarded' ≡ length retarded → Cleared retarded'' retarded' → Cleared kernel'' kernel' → Leaves (Err Overflow) retarded'' kernel''
          unfolding solved_new summed_answer new_out new_numbers
          no-green t kept' c c' =
              let m = said true (sym h) in let l = lengths sized in let finite = solved ∙ t in (
                rw (passed, finite),
                rw (passed, finite) (clears _ (kept' ∙ l.1.1.0) c ∙ g.2),
                rw (passed, finite) (clears _ (kept ∙ l.1.1.1.0) c' ∙ ap cleared m.1 ∙ cleared-written capacity n old points _ kernel),
              )
