-- The checks of a call, question by question. Assumes nothing.
use Rattle.std.specs.Prelude.{Err, ◌≡◌, ◌&&◌, ◌∷◌}
use Rattle.lists.specs.Prelude.{refl, sym, ap, ◌∙◌, Bool, List, [], ℕ, eqb, length, Float}
use Rattle.refusal.specs.declared.Refusal.{Refusal}
use Rattle.refusal.specs.Verdict.{pass, Verdict, ◌then◌}
use Rattle.refusal.specs.Checks.{counter_holds, desk_known}
use Rattle.refusal.specs.Agreement.{then-after}
use Rattle.grid.specs.Calls.{grid_checks}
use Rattle.support.specs.Support.{check_inputs}
use Rattle.two_time.specs.Calls.{all_fit, point_checks}
use Rattle.two_time.specs.SizeChecks.{fits_more}
use Rattle.transient_run.specs.Products.{formed}
use Rattle.transient_run.specs.Form.{form_sizes, form_entries, start_products}
use Rattle.transient_run.specs.FormChecks.{sizes-by}
use Rattle.transient_run.specs.Calls.{Run, counter_of, checks_of}
use Rattle.transient_run.specs.Checks.{slices, sizes_asked, desk-refused, sizes-refused, checks-asked}

module _ (old : ℕ) (r : Run) where
  abbrev checked : Verdict
  checked = checks_of old r.points r

  -- 7 of each operand, 8 and 9, and 17
  abbrev entries : ℕ → List Float → Verdict
  entries operand xs = point_checks r.capacity r.points r.orbitals operand xs

  abbrev support : Verdict
  support = check_inputs r.capacity r.points r.orbitals r.free r.self_energy r.tolerance

  abbrev holds : Verdict
  holds = counter_holds (counter_of r.session r.desk) (formed (start_products r.form) old r.points)

  pub by-desk : {v : Verdict} {x : Refusal} → v ≡ Err x → desk_known r.desk ≡ Err x → v ≡ checked
  by-desk h e = desk-refused r.points r old (h ∙ sym e) h

  module _ (known : desk_known r.desk ≡ pass) {free-fits self_energy-fits lesser_self_energy-fits fits : Bool} {sizes : Verdict}
      (a : free-fits ≡ all_fit r.capacity r.orbitals (r.free ∷ [])) (b : self_energy-fits ≡ all_fit r.capacity r.orbitals (r.self_energy ∷ []))
      (c : lesser_self_energy-fits ≡ all_fit r.capacity r.orbitals (r.lesser_self_energy ∷ []))
      (d : fits ≡ all_fit r.capacity r.orbitals (r.retarded ∷ r.lesser ∷ r.kernel ∷ r.lesser_advanced ∷ []))
      (s : sizes ≡ form_sizes r.form r.capacity r.points r.orbitals (eqb (length r.times) r.capacity && (free-fits && (self_energy-fits && (lesser_self_energy-fits && fits))))) where
    sized : sizes ≡ sizes_asked r.points r
    sized =
        sizes-by r.capacity r.points r.orbitals r.form (slices r.points r) (eqb (length r.times) r.capacity) _
        (fits_more _ _ _ _ _ _ a (fits_more _ _ _ _ _ _ b (fits_more _ _ _ _ _ _ c d))) s
        ∙ sym (then-after (desk_known r.desk) _ known)

    pub by-sizes : {v : Verdict} {x : Refusal} → v ≡ Err x → sizes ≡ Err x → v ≡ checked
    by-sizes h e = sizes-refused r.points r old (h ∙ sym e ∙ sized) h

    module _ (p : sizes ≡ pass) where
      abbrev Rest : Verdict
      Rest = grid_checks r.points r.times then ((entries 0 r.free then (entries 1 r.self_energy then entries 2 r.lesser_self_energy)) then form_entries r.form) then (support then holds)

      rest : Rest ≡ checked
      rest = checks-asked r.points r old sized p refl refl refl refl refl refl refl refl refl refl refl refl refl

      module _ {v : Verdict} where
        pub by-grid : {x : Refusal} → v ≡ Err x → grid_checks r.points r.times ≡ Err x → v ≡ checked
        by-grid {x} h e = h ∙ sym (let t : Rest ≡ Err x = rw e in t) ∙ rest

        module _ (g : grid_checks r.points r.times ≡ pass) where
          pub by-free : {x : Refusal} → v ≡ Err x → entries 0 r.free ≡ Err x → v ≡ checked
          by-free {x} h e = h ∙ sym (let t : Rest ≡ Err x = rw (g, e) in t) ∙ rest

          module _ (e0 : entries 0 r.free ≡ pass) where
            pub by-self_energy : {x : Refusal} → v ≡ Err x → entries 1 r.self_energy ≡ Err x → v ≡ checked
            by-self_energy {x} h e = h ∙ sym (let t : Rest ≡ Err x = rw (g, e0, e) in t) ∙ rest

            module _ (e1 : entries 1 r.self_energy ≡ pass) where
              pub by-lesser_self_energy : {x : Refusal} → v ≡ Err x → entries 2 r.lesser_self_energy ≡ Err x → v ≡ checked
              by-lesser_self_energy {x} h e = h ∙ sym (let t : Rest ≡ Err x = rw (g, e0, e1, e) in t) ∙ rest

              module _ (e2 : entries 2 r.lesser_self_energy ≡ pass) where
                pub by-block : {x : Refusal} → v ≡ Err x → form_entries r.form ≡ Err x → v ≡ checked
                by-block {x} h e = h ∙ sym (let t : Rest ≡ Err x = rw (g, e0, e1, e2, e) in t) ∙ rest

                module _ (e3 : form_entries r.form ≡ pass) where
                  pub by-support : {x : Refusal} → v ≡ Err x → support ≡ Err x → v ≡ checked
                  by-support {x} h e = h ∙ sym (let t : Rest ≡ Err x = rw (g, e0, e1, e2, e3, e) in t) ∙ rest

                  pub by-counter : support ≡ pass → v ≡ holds → v ≡ checked
                  by-counter e h = h ∙ sym (let t : Rest ≡ holds = rw (g, e0, e1, e2, e3, e) in t) ∙ rest
