-- Document 02, L1: "lines 2 and 3 read the capacity as N". In slices whose capacity is the points, the run and the checks of a lesser function are those
-- of document 01: no room is left, 16 passes, and the places are all. L3 and L13: 22 stands before the run's 1 and 17 between its 9 and 10, and at a desk
-- whose counter has room for the count they change nothing. Assumes nothing.
use Rattle.std.specs.Prelude.{◌≡◌, ◌&&◌, ◌∷◌, ◌+◌, ◌*◌, ◌<◌, ◌≤◌}
use Rattle.lists.specs.Prelude.{refl, sym, ap, ap₂, ◌∙◌, Bool, true, List, [], ℕ, zero, suc, le_refl, zero-add, suc-add, add_comm, suc-mul, zero-mul, eqb, length, le-leb, eqb-true, Float, leb, ltb, lt-ltb}
use Rattle.lists.specs.Agreement.{both}
use Rattle.refusal.specs.Verdict.{pass, Verdict, by, ◌then◌, ask_all, zeroed, afterwards}
use Rattle.refusal.specs.Checks.{large_enough, not_empty, within_limits, within_block, fitting, finite_at, finite_entries, finite_work, within_capacity, counter_holds, desk_known}
use Rattle.refusal.specs.Agreement.{ask_pass, ask_yes, then-agree, then-assoc, then-after, then-end}
use Rattle.matrix.specs.declared.DenseMatrix.{DenseMatrix}
use Rattle.matrix.specs.Dense.{count_of}
use Rattle.grid.specs.Calls.{grid_checks}
use Rattle.two_time.specs.declared.sums.Sums.TheVariants.{Causal, LesserAdvanced, Lesser}
use Rattle.two_time.specs.Layout.{length_of}
use Rattle.two_time.specs.Sums.{sums_numbers, sums_finite, new_numbers, new_finite}
use Rattle.two_time.specs.Started.{empty-numbers, empty-finite}
use Rattle.two_time.specs.Calls.{capacity_checks, size_checks, operand_checks, input_checks, point_entries, point_operands, point_checks}
use Rattle.two_time.specs.SizeChecks.{sizes-passed}
use Rattle.two_time.specs.CapacityChecks.{capacity-points}
use Rattle.two_time.specs.Lengths.{Long, lengths}
use Rattle.two_time.specs.Parts.{whole_length}
use Rattle.two_time.specs.Outcome.{all_finite_lem, all-numbers}
use Rattle.dyson.specs.Calls.{Equation, equation_of, kernel_of, retarded_of, solved_finite, checks_before}
use Rattle.dyson.specs.NewSolved.{finite-all, green-all}
use Rattle.transient_run.specs.declared.Session.{Session}
use Rattle.transient_run.specs.Products.{formed}
use Rattle.transient_run.specs.Form.{form_sizes, form_entries, start_of, start_products}
use Rattle.transient_run.specs.Form.Form.{empty}
use Rattle.transient_run.specs.Calls.{Run, Outcome, counter_of, run_of, retarded_made, lesser_advanced_made, lesser_made, made_finite, checks_of, verdict_of, worked, solved, transient_run}
use Rattle.observables.specs.Calls.{lesser_checks, lesser_block_checks}

-- ---- check 7, row by row

-- k questions, and m more
ask-more : (k m : ℕ) (f : ℕ → Verdict) → (ask_all k f then ask_all m (λ i. f (i + k))) ≡ ask_all (m + k) f
unfolding ask_all
ask-more k zero f = then-end (ask_all k f) ∙ ap (λ (j : ℕ). ask_all j f) (sym (zero-add k))
ask-more k (suc m) f = sym (then-assoc (ask_all k f) (ask_all m (λ i. f (i + k))) (f (m + k))) ∙ ap (λ (v : Verdict). v then f (m + k)) (ask-more k m f) ∙ ap (λ (j : ℕ). ask_all j f) (sym (suc-add m k))

ask-rows : (rows width : ℕ) (f : ℕ → Verdict) → ask_all rows (λ t. ask_all width (λ i. f (i + t * width))) ≡ ask_all (rows * width) f
unfolding ask_all
ask-rows zero width f = ap (λ (j : ℕ). ask_all j f) (sym (zero-mul width))
ask-rows (suc rows) width f =
    ap (λ (v : Verdict). v then ask_all width (λ i. f (i + rows * width))) (ask-rows rows width f) ∙ ask-more (rows * width) width f
    ∙ ap (λ (k : ℕ). ask_all k f) (add_comm width (rows * width) ∙ sym (suc-mul rows width))

module _ (points n : ℕ) where
  entries-all : (operand : ℕ) (xs : List Float) → length xs ≡ length_of points n → point_entries points points n operand xs ≡ finite_entries operand xs (length xs)
  unfolding point_entries finite_entries
  entries-all operand xs e =
      ask-rows points (points * (2 * (n * n))) (finite_at operand xs) ∙ ap (λ (k : ℕ). ask_all k (finite_at operand xs)) (whole_length points n ∙ sym e)

  operands-all : (k : ℕ) (operands : List (List Float)) → Long (length_of points n) operands → point_operands points points n k operands ≡ operand_checks k operands
  unfolding point_operands operand_checks
  operands-all k [] l = refl
  operands-all k (xs ∷ rest) l = ap₂ ◌then◌ (entries-all k xs l.0) (operands-all (suc k) rest l.1)

-- ---- the checks of a lesser function

module _ (points n : ℕ) (lesser : List Float) where
  pub lesser_checks-all : lesser_checks points points n lesser ≡ (size_checks points n true (lesser ∷ []) then operand_checks 0 (lesser ∷ []))
  unfolding lesser_checks point_checks operand_checks
  lesser_checks-all =
      then-agree _ _ _ _ (capacity-points points n true (lesser ∷ [])) (λ p.
      let z = sizes-passed points n true (lesser ∷ []) (sym (capacity-points points n true (lesser ∷ [])) ∙ p) in
      entries-all points n 0 lesser (lengths z).0 ∙ sym (then-end _))

  pub block_checks-all : (x : DenseMatrix) → lesser_block_checks points points n lesser x
      ≡ ((large_enough points n then not_empty x.rows x.columns) then (within_limits points n then within_block x.rows x.columns)
      then fitting (eqb (length lesser) (length_of points n) && (eqb x.rows n && eqb x.columns n))
      then (finite_entries 0 lesser (length lesser) then finite_entries 1 x.values (count_of x)))
  unfolding lesser_block_checks within_capacity fitting
  block_checks-all x =
      let held = eqb (length lesser) (length_of points n) in
      let block = eqb x.rows n && eqb x.columns n in
      then-agree (large_enough points n then not_empty x.rows x.columns) _ _ _ refl (λ a.
      then-agree (within_limits points n then within_block x.rows x.columns) _ _ _ refl (λ b.
      then-agree (fitting (held && block)) _ _ _ refl (λ c.
      let fits = both held block (ask_pass _ (by 3) c) in
      then-after (within_capacity points points) _ (ask_yes _ (by 16) (le-leb points points (le_refl points)))
      ∙ ap (λ (v : Verdict). v then finite_entries 1 x.values (count_of x)) (entries-all points n 0 lesser (eqb-true _ _ fits.0)))))

-- ---- the run

module _ (session : Session) (desk points n : ℕ) (tolerance : Float) (times free self_energy lesser_self_energy retarded lesser kernel lesser_advanced : List Float) where
  abbrev run : Run
  run = run_of empty session desk (record { points = points; capacity = points; orbitals = n }) tolerance times free self_energy lesser_self_energy retarded lesser kernel lesser_advanced

  -- document 01's: K and G^R as Dyson makes them, X of Σ^< and G^R, G^< of G^R and X
  abbrev q : Equation
  q = equation_of points n times free self_energy

  abbrev lesser_advanced_before : List Float
  lesser_advanced_before = sums_numbers LesserAdvanced points n times lesser_self_energy (retarded_of q)

  abbrev lesser_before : List Float
  lesser_before = sums_numbers Lesser points n times (retarded_of q) lesser_advanced_before

  abbrev finite_before : Bool
  finite_before = solved_finite q && (sums_finite LesserAdvanced points n times lesser_self_energy (retarded_of q) && sums_finite Lesser points n times (retarded_of q) lesser_advanced_before)

  -- 22 of document 02, then checks 1 to 9, then 17 of document 02, then 10
  abbrev asked : Verdict
  asked = desk_known desk then checks_before q tolerance (lesser_self_energy ∷ []) (retarded ∷ lesser ∷ kernel ∷ lesser_advanced ∷ []) then counter_holds (counter_of session desk) (formed 0 0 points)

  abbrev verdict_before : Verdict
  verdict_before = asked then finite_work finite_before

  abbrev pub run_before : Outcome
  run_before =
      record {
        answer = solved verdict_before (formed 0 0 points);
        retarded = afterwards zeroed verdict_before (retarded_of q) retarded;
        lesser = afterwards zeroed verdict_before lesser_before lesser;
        kernel = afterwards zeroed verdict_before (kernel_of q) kernel;
        lesser_advanced = afterwards zeroed verdict_before lesser_advanced_before lesser_advanced;
      }

  abbrev slices : List (List Float)
  slices = free ∷ self_energy ∷ lesser_self_energy ∷ retarded ∷ lesser ∷ kernel ∷ lesser_advanced ∷ []

  checks-all : checks_of 0 points run ≡ asked
  unfolding checks_of input_checks form_sizes form_entries start_products capacity_checks
  checks-all =
      then-assoc (desk_known desk) _ _
      ∙ ap (λ (v : Verdict). desk_known desk then v)
      (then-agree (capacity_checks points points n (eqb (length times) points) slices) _ _ _ (capacity-points points n (eqb (length times) points) slices) (λ p.
      let z = sizes-passed points n (eqb (length times) points) slices (sym (capacity-points points n (eqb (length times) points) slices) ∙ p) in
      let l = lengths z in
      let operands = free ∷ self_energy ∷ lesser_self_energy ∷ [] in
      let entries = point_operands points points n 0 operands in
      then-agree (grid_checks points times) _ _ _ refl (λ g. then-agree (entries then pass) _ _ _ (then-end entries ∙ operands-all points n 0 operands (l.0, (l.1.0, (l.1.1.0, tt)))) (λ o. refl)))
      ∙ simp then-assoc)

  green : retarded_made 0 points run ≡ retarded_of q
  green = green-all points n times free self_energy retarded kernel

  lesser_advanced-all : lesser_advanced_made 0 points run ≡ lesser_advanced_before
  lesser_advanced-all =
      ap (λ (g : List Float). new_numbers LesserAdvanced points n 0 points times lesser_self_energy g lesser_advanced) green ∙ all-numbers LesserAdvanced points n times lesser_self_energy (retarded_of q) lesser_advanced

  lesser-all : lesser_made 0 points run ≡ lesser_before
  unfolding start_of
  lesser-all =
      empty-numbers points n 0 points times (retarded_made 0 points run) (lesser_advanced_made 0 points run) lesser
      ∙ ap₂ (λ (g x : List Float). new_numbers Lesser points n 0 points times g x lesser) green lesser_advanced-all ∙ all-numbers Lesser points n times (retarded_of q) lesser_advanced_before lesser

  made_finite-all : made_finite 0 points run ≡ finite_before
  unfolding made_finite start_of
  made_finite-all =
      ap₂ ◌&&◌ (finite-all points n times free self_energy retarded kernel)
      (ap₂ ◌&&◌
      (ap (new_finite LesserAdvanced points n 0 points times lesser_self_energy) green ∙ all_finite_lem LesserAdvanced points n times lesser_self_energy (retarded_of q) lesser_advanced)
      (empty-finite points n 0 points times (retarded_made 0 points run) (lesser_advanced_made 0 points run) ∙ ap₂ (new_finite Lesser points n 0 points times) green lesser_advanced-all ∙ all_finite_lem Lesser points n times (retarded_of q) lesser_advanced_before lesser))

  verdict-all : verdict_of 0 points run ≡ verdict_before
  unfolding verdict_of
  verdict-all = ap₂ ◌then◌ checks-all (ap finite_work made_finite-all)

  pub run-all : transient_run run ≡ run_before
  unfolding transient_run worked start_products
  run-all = rw (verdict-all, lesser-all, lesser_advanced-all, green, all-numbers Causal points n times free self_energy kernel)

  -- at one of the eight desks whose counter has room for the count, 22 and 17 change nothing
  pub with_room : desk < 8 → counter_of session desk + formed 0 0 points ≤ 0xffff_ffff_ffff_ffff
      → verdict_before ≡ (checks_before q tolerance (lesser_self_energy ∷ []) (retarded ∷ lesser ∷ kernel ∷ lesser_advanced ∷ []) then finite_work finite_before)
  unfolding counter_holds desk_known
  with_room known h =
      let named = ask_yes (ltb desk 8) (by 22) (lt-ltb desk 8 known) in
      let holds = ask_yes (leb (counter_of session desk + formed 0 0 points) 0xffff_ffff_ffff_ffff) (by 17) (le-leb _ _ h) in
      ap (λ (v : Verdict). v then finite_work finite_before)
      (then-after (desk_known desk) _ named ∙ rw (holds, then-end (checks_before q tolerance (lesser_self_energy ∷ []) (retarded ∷ lesser ∷ kernel ∷ lesser_advanced ∷ []))))
