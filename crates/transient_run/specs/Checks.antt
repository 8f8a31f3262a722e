-- The checks of a call as the code makes them, what it says that they pass, and what an answer says of the verdict. Assumes nothing.
use Rattle.std.specs.Prelude.{Ok, Err, ◌≡◌, ◌&&◌, ◌∷◌, ◌+◌, ◌≤◌, ◌<◌}
use Rattle.lists.specs.Prelude.{refl, sym, ap, ◌∙◌, ⊎_elim, Bool, true, List, [], ℕ, suc, min, min-eq_left, min-eq_right, le_trans, le_refl, dec_lt, arith, add-one, leb-true, ltb-true, eqb, length, Float}
use Rattle.refusal.specs.declared.Refusal.{Refusal}
use Rattle.refusal.specs.Verdict.{pass, Verdict, by, ask, ◌then◌, afterwards}
use Rattle.refusal.specs.Checks.{counter_holds, desk_known}
use Rattle.refusal.specs.Agreement.{ask_pass, then-pass, then-after, then-refused}
use Rattle.refusal.specs.Unchanged.{Keeping, ask_keeping, then-keeping}
use Rattle.grid.specs.Calls.{grid_checks}
use Rattle.support.specs.Support.{check_inputs}
use Rattle.two_time.specs.Layout.{read_as, length_of}
use Rattle.two_time.specs.New.{cleared_new}
use Rattle.two_time.specs.Calls.{all_long, capacity_checks, point_operands, point_checks}
use Rattle.two_time.specs.SizeChecks.{SizesPassed, limited}
use Rattle.two_time.specs.Checks.{times_keeping}
use Rattle.two_time.specs.Lengths.{lengths, others-asked, none-asked, also_asked}
use Rattle.two_time.specs.CapacityChecks.{capacity-passed, capacity_pass, capacity_keeping, operands-of-points_keeping, points-asked, points-last, points-more}
use Rattle.dyson.specs.Calls.{support_checks}
use Rattle.dyson.specs.Checks.{support_keeping}
use Rattle.transient_run.specs.Products.{formed}
use Rattle.transient_run.specs.Form.{form_sizes, form_entries, start_products, HoldsBlock}
use Rattle.transient_run.specs.FormChecks.{Square, sizes-plain, sizes_keeping, entries_keeping, entries_hold}
use Rattle.transient_run.specs.Calls.{Run, Outcome, counter_of, solved, is_accepted, kernel_made, retarded_made, lesser_advanced_made, lesser_made, made_finite, checks_of, verdict_of, worked, append_point}

-- the verdict of a call, by its answer
pub accepted : (v : Verdict) (count : ℕ) → is_accepted (solved v count) ≡ true → v ≡ pass
unfolding solved is_accepted
accepted (Ok tt) count e = refl
accepted (Err r) count e = absurd (let z : ◌≡◌ {A = ℕ} 0 1 = cc in omega arith)

-- accepted with a count, which is that of the products formed
pub accepted_with : (v : Verdict) (k count : ℕ) → solved v count ≡ Ok k → (v ≡ pass) × (k ≡ count)
unfolding solved
accepted_with (Ok tt) k count e = (refl, cc)
accepted_with (Err r) k count e = absurd (let z : ◌≡◌ {A = ℕ} 0 1 = cc in omega arith)

pub refused : (v : Verdict) (x : Refusal) (count : ℕ) → solved v count ≡ Err x → v ≡ Err x
unfolding solved
refused (Ok tt) x count e = absurd (let z : ◌≡◌ {A = ℕ} 0 1 = cc in omega arith)
refused (Err y) x count e = let same : y ≡ x = cc in ap Err same

module _ (points : ℕ) (r : Run) where
  abbrev operands : List (List Float)
  operands = r.free ∷ r.self_energy ∷ r.lesser_self_energy ∷ []

  abbrev pub slices : List (List Float)
  slices = r.free ∷ r.self_energy ∷ r.lesser_self_energy ∷ r.retarded ∷ r.lesser ∷ r.kernel ∷ r.lesser_advanced ∷ []

  abbrev pub all_lent : Bool
  all_lent = eqb (length r.times) r.capacity && all_long (length_of r.capacity r.orbitals) slices

  abbrev pub sizes_asked : Verdict
  sizes_asked = desk_known r.desk then form_sizes r.form r.capacity points r.orbitals all_lent

  abbrev pub support_asked : Verdict
  support_asked = support_checks points r.orbitals r.tolerance (read_as r.capacity r.orbitals r.free) (read_as r.capacity r.orbitals r.self_energy)

  -- the sizes of a call that passes them
  pub sizes_said : sizes_asked ≡ pass → (2 ≤ points) × (points ≤ r.capacity) × SizesPassed r.capacity r.orbitals true slices × Square r.orbitals r.form
  unfolding capacity_checks
  sizes_said h =
      let p = sizes-plain r.capacity points r.orbitals r.form all_lent (then-pass (desk_known r.desk) _ h).1 in
      let z = capacity-passed r.capacity points r.orbitals (eqb (length r.times) r.capacity) slices p.0 in
      (z.0, z.1, others-asked z.2 slices z.2.long, p.1)

  module _ (old : ℕ) where
    pub checks_keeping : Keeping (checks_of old points r)
    unfolding checks_of counter_holds desk_known
    checks_keeping =
        then-keeping (then-keeping (ask_keeping _ _ refl) (sizes_keeping r.capacity points r.orbitals r.form _))
        (then-keeping (times_keeping _ r.orbitals r.times) (then-keeping (then-keeping (operands-of-points_keeping r.capacity points r.orbitals 0 operands) (entries_keeping r.form))
        (then-keeping (support_keeping points r.orbitals r.tolerance _ _) (ask_keeping _ _ refl))))

    pub checks-passed : checks_of old points r ≡ pass → (2 ≤ points) × (points ≤ r.capacity) × SizesPassed r.capacity r.orbitals true slices × Square r.orbitals r.form
    unfolding checks_of
    checks-passed h = sizes_said (then-pass sizes_asked _ h).0

    -- and the form's slice holds its block
    pub block_held : checks_of old points r ≡ pass → HoldsBlock r.orbitals r.form
    unfolding checks_of
    block_held h =
        let z = checks-passed h in
        entries_hold r.orbitals z.2.orbitals-most r.form z.3 (then-pass _ _ (then-pass _ _ (then-pass _ _ (then-pass sizes_asked _ h).1).1).0).1

    -- refused by its desk
    pub desk-refused : {v : Verdict} {x : Refusal} → v ≡ desk_known r.desk → v ≡ Err x → v ≡ checks_of old points r
    unfolding checks_of
    desk-refused e h = h ∙ sym (then-refused sizes_asked _ _ (then-refused (desk_known r.desk) _ _ (sym e ∙ h)))

    -- refused by its sizes
    pub sizes-refused : {v : Verdict} {x : Refusal} → v ≡ sizes_asked → v ≡ Err x → v ≡ checks_of old points r
    unfolding checks_of
    sizes-refused e h = h ∙ sym (then-refused sizes_asked _ _ (sym e ∙ h))

    -- with its sizes passed; of each operand the code asks them again, which changes nothing
    module _ {sizes : Verdict} (asked : sizes ≡ sizes_asked) (passed : sizes ≡ pass) {grid first second third later functions block entries support holds last rest all : Verdict} where
      pub checks-asked : grid ≡ grid_checks points r.times
          → first ≡ point_checks r.capacity points r.orbitals 0 r.free → second ≡ point_checks r.capacity points r.orbitals 1 r.self_energy → third ≡ point_checks r.capacity points r.orbitals 2 r.lesser_self_energy
          → support ≡ check_inputs r.capacity points r.orbitals r.free r.self_energy r.tolerance
          → block ≡ form_entries r.form
          → holds ≡ counter_holds (counter_of r.session r.desk) (formed (start_products r.form) old points) → later ≡ (second then third) → functions ≡ (first then later) → entries ≡ (functions then block) → last ≡ (support then holds) → rest ≡ (entries then last) → all ≡ (grid then rest)
          → all ≡ checks_of old points r
      unfolding checks_of check_inputs
      checks-asked g a b c s f h el ef ee es er e =
          let z = sizes_said (sym asked ∙ passed) in
          let l = lengths z.2 in
          let none = none-asked z.2 in
          let operands-are = points-more r.capacity points r.orbitals 0 r.free (r.self_energy ∷ r.lesser_self_energy ∷ []) _ _ _ (points-asked r.capacity points r.orbitals z.0 z.1 0 (also_asked l.0 none) a)
          (points-more r.capacity points r.orbitals 1 r.self_energy (r.lesser_self_energy ∷ []) _ _ _ (points-asked r.capacity points r.orbitals z.0 z.1 1 (also_asked l.1.0 none) b)
          (points-last r.capacity points r.orbitals 2 r.lesser_self_energy _ (points-asked r.capacity points r.orbitals z.0 z.1 2 (also_asked l.1.1.0 none) c)) el) ef in
          let support-is : support ≡ support_asked = s ∙ then-after _ _ (capacity_pass z.0 z.1 (also_asked l.0 (also_asked l.1.0 none))) in
          e ∙ rw (g, er, es, ee, operands-are, f, support-is, h) (sym (then-after sizes_asked _ (sym asked ∙ passed)))

  -- the counter of a call that passes holds its count
  pub counter_room : (old : ℕ) → checks_of old points r ≡ pass → counter_of r.session r.desk + formed (start_products r.form) old points ≤ 0xffff_ffff_ffff_ffff
  unfolding checks_of counter_holds
  counter_room old h =
      let entries : Verdict = point_operands r.capacity points r.orbitals 0 operands then form_entries r.form in
      leb-true _ _ (ask_pass _ (by 17) (then-pass support_asked _ (then-pass entries _ (then-pass (grid_checks points r.times) _ (then-pass sizes_asked _ h).1).1).1).1)

  -- and its desk is one of the eight
  pub desk-below : (old : ℕ) → checks_of old points r ≡ pass → r.desk < 8
  unfolding checks_of desk_known
  desk-below old h = ltb-true _ _ (ask_pass _ (by 22) (then-pass _ _ (then-pass sizes_asked _ h).0).0)
