-- The checks of a lesser function with a block beside it as the code asks them, and what it says that they pass. Assumes nothing.
use Rattle.std.specs.Prelude.{Err, ◌≡◌, ◌&&◌, ◌∷◌, ◌≤◌}
use Rattle.lists.specs.Prelude.{refl, sym, ap, ◌∙◌, Bool, true, and-true, List, [], ℕ, le_of_eq, le_trans, lt_of_lt_of_le, eqb, length, Float, eqb-true, leb-true, le-leb}
use Rattle.lists.specs.Agreement.{both}
use Rattle.refusal.specs.declared.Refusal.{Refusal}
use Rattle.refusal.specs.Verdict.{pass, Verdict, by, ◌then◌}
use Rattle.refusal.specs.Agreement.{ask_pass, then-pass, then-agree, then-assoc, then-after, then-refused}
use Rattle.refusal.specs.Checks.{large_enough, not_empty, within_limits, within_block, fitting, finite_entries, within_capacity, time_below}
use Rattle.matrix.specs.declared.DenseMatrix.{DenseMatrix}
use Rattle.matrix.specs.Dense.{count_of}
use Rattle.two_time.specs.Layout.{length_of}
use Rattle.two_time.specs.Calls.{all_long, all_fit, block_sizes, point_entries, point_checks}
use Rattle.two_time.specs.SizeChecks.{SizesPassed, large, limited, long_also, long-none, long-first}
use Rattle.two_time.specs.CapacityChecks.{points-asked}
use Rattle.observables.specs.Calls.{lesser_block_checks}
use Rattle.observables.specs.Passed.{Passed, below}

module _ (capacity points orbitals : ℕ) (lesser : List Float) (x : DenseMatrix) where
  -- the block is n by n
  abbrev pub square : Bool
  square = eqb x.rows orbitals && eqb x.columns orbitals

  abbrev pub sizes : Verdict
  sizes = block_sizes capacity points orbitals x.rows x.columns (eqb (length lesser) (length_of capacity orbitals) && square)

  -- where check 2 passes its limits hold
  pub sizes_asked_lem : {fits : Bool} {v : Verdict} → fits ≡ all_fit capacity orbitals (lesser ∷ []) → v ≡ block_sizes capacity points orbitals x.rows x.columns (fits && square) → v ≡ sizes
  unfolding all_fit all_long
  sizes_asked_lem f e =
      e
      ∙ then-agree _ (large_enough points orbitals then not_empty x.rows x.columns) _ _ refl
      (λ l. then-agree _ (within_limits capacity orbitals then within_block x.rows x.columns) _ (fitting (eqb (length lesser) (length_of capacity orbitals) && square) then within_capacity points capacity) refl
      (λ m. let most = limited capacity orbitals (then-pass _ _ m).0 in rw (f, le-leb _ _ most.0, le-leb _ _ most.1, and-true (eqb (length lesser) (length_of capacity orbitals)))))

  sizes-first : (sizes then (point_entries capacity points orbitals 0 lesser then finite_entries 1 x.values (count_of x))) ≡ lesser_block_checks capacity points orbitals lesser x
  unfolding lesser_block_checks
  sizes-first = simp then-assoc

  -- what it says that they pass
  pub record BlockPassed : Type 0 where
    pub least : 2 ≤ points
    pub within : points ≤ capacity
    pub sized : SizesPassed capacity orbitals true (lesser ∷ [])
    pub square-rows : x.rows ≡ orbitals
    pub square-columns : x.columns ≡ orbitals

  pub block-passed : sizes ≡ pass → BlockPassed
  unfolding fitting within_capacity
  block-passed h =
      let first = then-pass _ _ h in
      let second = then-pass _ _ first.1 in
      let third = then-pass _ _ second.1 in
      let least = large points orbitals (then-pass _ _ first.0).0 in
      let most = limited capacity orbitals (then-pass _ _ second.0).0 in
      let fits = both (eqb (length lesser) (length_of capacity orbitals)) square (ask_pass _ (by 3) third.0) in
      let shape = both (eqb x.rows orbitals) (eqb x.columns orbitals) fits.1 in
      let within = leb-true points capacity (ask_pass _ (by 16) third.1) in
      record {
        least = least.0;
        within = within;
        sized = record {
          points-least = le_trans least.0 within;
          orbitals-least = least.1;
          points-most = most.0;
          orbitals-most = most.1;
          others = refl;
          long = long_also _ _ _ (eqb-true _ _ fits.0) (long-none _);
        };
        square-rows = eqb-true _ _ shape.0;
        square-columns = eqb-true _ _ shape.1;
      }

  -- they refuse, or pass before check 7
  pub block_refused : {v : Verdict} {r : Refusal} → v ≡ sizes → v ≡ Err r → v ≡ lesser_block_checks capacity points orbitals lesser x
  block_refused e p = p ∙ sym (then-refused _ _ _ (sym e ∙ p)) ∙ sizes-first

  pub block-asked : {v entries all : Verdict} → v ≡ sizes → v ≡ pass → entries ≡ point_checks capacity points orbitals 0 lesser → all ≡ (entries then finite_entries 1 x.values (count_of x))
      → all ≡ lesser_block_checks capacity points orbitals lesser x
  block-asked e p q h =
      let passes = sym e ∙ p in
      let s = block-passed passes in
      h ∙ ap (λ (w : Verdict). w then finite_entries 1 x.values (count_of x)) (points-asked capacity points orbitals s.least s.within 0 s.sized q)
      ∙ sym (then-after _ _ passes) ∙ sizes-first

  pub block_at : (time : ℕ) → lesser_block_checks capacity points orbitals lesser x ≡ pass → time_below time points ≡ pass → Passed capacity orbitals lesser time × (x.columns ≡ orbitals)
  block_at time l t =
      let s = block-passed (then-pass _ _ (sizes-first ∙ l)).0 in
      let z = s.sized in (
        record { time_inside = lt_of_lt_of_le (below time points t) s.within; capacity-most = z.points-most; orbitals-most = z.orbitals-most; room = le_of_eq (sym (long-first _ _ _ z.long).0) },
        s.square-columns,
      )
