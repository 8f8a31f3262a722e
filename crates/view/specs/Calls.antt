-- Document 01, "a view of one two-time function: the lent numbers, N and n": what reading an entry answers. Its capacity is N.
use Rattle.complex.specs.declared.Complex.{Complex}
use Rattle.refusal.specs.declared.Refusal.{Refusal}
use Rattle.std.specs.Prelude.{Result}
use Rattle.lists.specs.Prelude.{ℕ, List, Float}
use Rattle.refusal.specs.Verdict.{Verdict, ◌then◌}
use Rattle.refusal.specs.Checks.{time_below, orbital_below}
use Rattle.matrix.specs.Calls.{valued}
use Rattle.two_time.specs.Layout.{read_as}
use Rattle.observables.specs.Calls.{lesser_checks}

module _ (points orbitals : ℕ) (numbers : List Float) (t u a b : ℕ) where
  -- checks 1, 2, 3 and 7 of the function, then "Is the time index below N?" of t, then of u, then "Are a, then b, below n?"
  unfoldable pub entry_checks : Verdict
  entry_checks = lesser_checks points points orbitals numbers then (time_below t points then time_below u points) then (orbital_below a orbitals then orbital_below b orbitals)

  -- entry (a, b) of block (t, u)
  unfoldable pub stored_entry : Result Complex Refusal
  stored_entry = valued entry_checks (read_as points orbitals numbers t u a b)
