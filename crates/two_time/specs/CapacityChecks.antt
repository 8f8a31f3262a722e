-- Checks 1, 2, 3, 16 and 7 as the code asks them, and what it says that they pass. Assumes nothing.
use Rattle.std.specs.Prelude.{◌≡◌, ◌&&◌, ◌∷◌, ◌≤◌}
use Rattle.lists.specs.Prelude.{refl, sym, ◌∙◌, Bool, true, List, [], ℕ, suc, le_refl, le_trans, Float, leb-true, le-leb}
use Rattle.lists.specs.Agreement.{both}
use Rattle.refusal.specs.Verdict.{pass, Verdict, by, ask, ◌then◌}
use Rattle.refusal.specs.Checks.{large_enough, within_limits, fitting, within_capacity}
use Rattle.refusal.specs.Agreement.{ask_pass, ask_yes, then-pass, then-agree, then-after, then-end}
use Rattle.refusal.specs.Unchanged.{Keeping, passed, ask_keeping, then-keeping, all_keeping}
use Rattle.two_time.specs.Layout.{length_of}
use Rattle.two_time.specs.Calls.{all_long, all_fit, size_checks, capacity_checks, point_entries, point_operands, point_checks}
use Rattle.two_time.specs.SizeChecks.{SizesPassed, large, limited}

module _ (capacity points orbitals : ℕ) (fits : Bool) (slices : List (List Float)) where
  abbrev first : Verdict
  first = large_enough points orbitals

  -- as the code asks them, with the limits of the capacity and of n in check 3 too
  pub capacity-asked : (all : Bool) (v : Verdict) → all ≡ all_fit capacity orbitals slices
      → v ≡ (large_enough points orbitals then within_limits capacity orbitals then fitting (fits && all) then within_capacity points capacity) → v ≡ capacity_checks capacity points orbitals fits slices
  unfolding capacity_checks all_fit
  capacity-asked all v h e =
      let limits = within_limits capacity orbitals in
      let room = within_capacity points capacity in
      let asked : Verdict = fitting (fits && all_fit capacity orbitals slices) then room in
      let told : Verdict = fitting (fits && all_long (length_of capacity orbitals) slices) then room in
      e ∙ rw h (then-agree (large_enough points orbitals) _ (limits then asked) (limits then told) refl
      (λ l. then-agree limits _ asked told refl (λ m. let most = limited capacity orbitals m in rw (le-leb _ _ most.0, le-leb _ _ most.1))))

  pub capacity-passed : capacity_checks capacity points orbitals fits slices ≡ pass → (2 ≤ points) × (points ≤ capacity) × SizesPassed capacity orbitals fits slices
  unfolding capacity_checks fitting within_capacity
  capacity-passed e =
      let a = then-pass _ _ e in
      let b = then-pass _ _ a.1 in
      let c = then-pass _ _ b.1 in
      let least = large points orbitals a.0 in
      let most = limited capacity orbitals b.0 in
      let all = both fits (all_long (length_of capacity orbitals) slices) (ask_pass _ (by 3) c.0) in
      let within = leb-true points capacity (ask_pass _ (by 16) c.1) in (
        least.0,
        within,
        record {
          points-least = le_trans least.0 within;
          orbitals-least = least.1;
          points-most = most.0;
          orbitals-most = most.1;
          others = all.0;
          long = all.1;
        },
      )

  pub capacity_keeping : Keeping (capacity_checks capacity points orbitals fits slices)
  unfolding capacity_checks large_enough within_limits fitting within_capacity
  capacity_keeping = then-keeping (ask_keeping _ _ refl) (then-keeping (ask_keeping _ _ refl) (then-keeping (ask_keeping _ _ refl) (ask_keeping _ _ refl)))

-- back: points within the capacity, and slices of its length, pass
pub capacity_pass : {capacity points orbitals : ℕ} {slices : List (List Float)} → 2 ≤ points → points ≤ capacity → SizesPassed capacity orbitals true slices
    → capacity_checks capacity points orbitals true slices ≡ pass
unfolding capacity_checks large_enough within_limits fitting within_capacity ask
capacity_pass least within z =
    rw (le-leb _ _ least, le-leb _ _ z.orbitals-least, le-leb _ _ z.points-most, le-leb _ _ z.orbitals-most, z.long, le-leb _ _ within)

-- a slice laid out for the points: checks 1 to 3 alone
pub capacity-points : (points orbitals : ℕ) (fits : Bool) (slices : List (List Float)) → capacity_checks points points orbitals fits slices ≡ size_checks points orbitals fits slices
unfolding capacity_checks size_checks within_capacity
capacity-points points orbitals fits slices = rw (ask_yes _ (by 16) (le-leb points points (le_refl points)), then-end)

module _ (capacity points orbitals : ℕ) where
  pub points_keeping : (operand : ℕ) (xs : List Float) → Keeping (point_entries capacity points orbitals operand xs)
  unfolding point_entries
  points_keeping operand xs = all_keeping _ _ (λ t. all_keeping _ _ (λ i. ask_keeping _ _ refl))

  pub operands-of-points_keeping : (k : ℕ) (operands : List (List Float)) → Keeping (point_operands capacity points orbitals k operands)
  unfolding point_operands
  operands-of-points_keeping k [] = passed
  operands-of-points_keeping k (xs ∷ rest) = then-keeping (points_keeping k xs) (operands-of-points_keeping (suc k) rest)

  -- once the sizes pass, `check_points` asks 7 alone
  module _ (least : 2 ≤ points) (within : points ≤ capacity) where
    pub points-asked : (k : ℕ) {xs : List Float} {v : Verdict} → SizesPassed capacity orbitals true (xs ∷ []) → v ≡ point_checks capacity points orbitals k xs → v ≡ point_entries capacity points orbitals k xs
    unfolding point_checks
    points-asked k z e = e ∙ then-after _ _ (capacity_pass least within z)

-- check 7 of the last operand, and of one before others
module _ (capacity points orbitals k : ℕ) (xs : List Float) where
  pub points-last : (v : Verdict) → v ≡ point_entries capacity points orbitals k xs → v ≡ point_operands capacity points orbitals k (xs ∷ [])
  unfolding point_operands
  points-last v e = e ∙ sym (then-end (point_entries capacity points orbitals k xs))

  pub points-more : (rest : List (List Float)) (v later all : Verdict) → v ≡ point_entries capacity points orbitals k xs → later ≡ point_operands capacity points orbitals (suc k) rest
      → all ≡ (v then later) → all ≡ point_operands capacity points orbitals k (xs ∷ rest)
  unfolding point_operands
  points-more rest v later all e l h = h ∙ rw (e, l)
