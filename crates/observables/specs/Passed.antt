-- A lesser function that passed its checks, and a time index below the points: each entry of its block there is read. Assumes nothing.
use Rattle.std.specs.Prelude.{Option, Some, None, ◌≡◌, ◌∷◌, ◌*◌, ◌≤◌, ◌<◌}
use Rattle.lists.specs.Prelude.{sym, ◌∙◌, true, List, [], ℕ, lt_of_lt_of_le, le_of_eq, le_trans, zero-mul, zero-add, arith, ltb, length, Float, ltb-true}
use Rattle.complex.specs.declared.Complex.{Complex}
use Rattle.refusal.specs.Verdict.{pass, Verdict, by, ◌then◌}
use Rattle.refusal.specs.Agreement.{ask_pass, then-pass}
use Rattle.refusal.specs.Checks.{time_below, orbital_below}
use Rattle.block.specs.Block.{entries_in}
use Rattle.two_time.specs.Layout.{length_of, read_as}
use Rattle.two_time.specs.Places.{Placed, product-most}
use Rattle.two_time.specs.Calls.{point_checks}
use Rattle.two_time.specs.SizeChecks.{long-first}
use Rattle.two_time.specs.CapacityChecks.{capacity-passed}
use Rattle.observables.specs.Calls.{lesser_checks}

pub record Passed (capacity orbitals : ℕ) (lesser : List Float) (time : ℕ) : Type 0 where
  pub time_inside : time < capacity
  pub capacity-most : capacity ≤ 256
  pub orbitals-most : orbitals ≤ 16
  pub room : length_of capacity orbitals ≤ length lesser

-- what it says that check 11 passes
pub below : (time points : ℕ) → time_below time points ≡ pass → time < points
unfolding time_below
below time points e = ltb-true time points (ask_pass (ltb time points) (by 11) e)

-- and check 12
pub orbital : (a orbitals : ℕ) → orbital_below a orbitals ≡ pass → a < orbitals
unfolding orbital_below
orbital a orbitals e = ltb-true a orbitals (ask_pass (ltb a orbitals) (by 12) e)

-- the first and the last of three that pass
pub ends-passed : (x y z : Verdict) → (x then y then z) ≡ pass → (x ≡ pass) × (z ≡ pass)
ends-passed x y z h = let first = then-pass x _ h in (first.0, (then-pass y z first.1).1)

module _ (capacity points orbitals : ℕ) (lesser : List Float) (time : ℕ) where
  -- what it says that all of them pass
  pub passed : lesser_checks capacity points orbitals lesser ≡ pass → time_below time points ≡ pass → Passed capacity orbitals lesser time
  unfolding lesser_checks point_checks
  passed l t =
      let s = capacity-passed capacity points orbitals true (lesser ∷ []) (then-pass _ _ l).0 in
      record { time_inside = lt_of_lt_of_le (below time points t) s.1; capacity-most = s.2.points-most; orbitals-most = s.2.orbitals-most; room = le_of_eq (sym (long-first _ _ _ s.2.long).0) }

  pub time_passed : {v : Verdict} → v ≡ (lesser_checks capacity points orbitals lesser then time_below time points) → v ≡ pass → Passed capacity orbitals lesser time
  time_passed e p = let both = then-pass _ _ (sym e ∙ p) in passed both.0 both.1

  -- the same with the tolerance's between them
  pub arguments_passed : {v : Verdict} (w : Verdict) → v ≡ (lesser_checks capacity points orbitals lesser then w then time_below time points) → v ≡ pass → Passed capacity orbitals lesser time
  arguments_passed w e p = let all = ends-passed _ w _ (sym e ∙ p) in passed all.0 all.1

  -- the same of the checks of a bond, with one between
  pub bond_passed : (a b : ℕ) (w : Verdict)
      → (lesser_checks capacity points orbitals lesser then w then (orbital_below a orbitals then orbital_below b orbitals) then time_below time points) ≡ pass
      → Passed capacity orbitals lesser time × ((b < orbitals) × (a < orbitals))
  bond_passed a b w h =
      let first = then-pass _ _ h in
      let last = then-pass _ _ (then-pass _ _ first.1).1 in
      let bond = then-pass _ _ last.0 in
      (passed first.0 last.1, (orbital b orbitals bond.1, orbital a orbitals bond.0))

-- where an entry of its block stands
pub passed-placed : {capacity orbitals time a b : ℕ} {lesser : List Float} → Passed capacity orbitals lesser time → a < orbitals → b < orbitals → Placed capacity orbitals time time a b
passed-placed l ha hb = record { first = l.time_inside; second = l.time_inside; row = ha; column = hb; stride_most = l.capacity-most; orbitals-most = l.orbitals-most }

-- a block is read as a two-time function of one time
pub block-placed : {orbitals a b : ℕ} → a < orbitals → b < orbitals → orbitals ≤ 16 → Placed 1 orbitals 0 0 a b
block-placed ha hb most = record { first = omega arith; second = omega arith; row = ha; column = hb; stride_most = omega arith; orbitals-most = most }

pub block_room : (orbitals : ℕ) (values : List Float) → orbitals ≤ 16 → 512 ≤ length values → length_of 1 orbitals ≤ length values
block_room orbitals values most room = le_trans (product-most (2 * 1 * 1 * orbitals) orbitals {m = 32} (omega arith) most) room

pub block_read : (orbitals : ℕ) (values : List Float) (a b : ℕ) → read_as 1 orbitals values 0 0 a b ≡ entries_in orbitals values a b
block_read orbitals values a b = rw (zero-mul, zero-add)

-- an entry that is there is the one that is found
pub entry_found : {s : Option Complex} (z w : Complex) → s ≡ Some z → s ≡ Some w → w ≡ z
entry_found z w e f = cc

pub not_outside : {P : Type 0} {s : Option Complex} (z : Complex) → s ≡ Some z → s ≡ None → P
not_outside z e f = absurd (let n : ◌≡◌ {A = ℕ} 0 1 = cc in omega arith)
