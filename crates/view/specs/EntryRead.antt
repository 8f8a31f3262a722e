-- What reading an entry answers where a check refuses, and where all pass: there the entry is stored. Assumes nothing.
use Rattle.std.specs.Prelude.{Option, Some, None, Ok, Err, ◌≡◌}
use Rattle.lists.specs.Prelude.{sym, ◌∙◌, List, ℕ, Float}
use Rattle.complex.specs.declared.Complex.{Complex}
use Rattle.refusal.specs.declared.Refusal.{Refusal}
use Rattle.refusal.specs.Verdict.{pass, Verdict}
use Rattle.refusal.specs.Agreement.{then-pass}
use Rattle.matrix.specs.Calls.{valued}
use Rattle.two_time.specs.Layout.{read_as, stored_at}
use Rattle.two_time.specs.Places.{Placed, read-placed}
use Rattle.observables.specs.Passed.{passed, below, orbital, entry_found, not_outside}
use Rattle.view.specs.Calls.{entry_checks, stored_entry}

module _ (points orbitals : ℕ) (numbers : List Float) (t u a b : ℕ) where
  pub entry-there : entry_checks points orbitals numbers t u a b ≡ pass → stored_at points orbitals numbers t u a b ≡ Some (read_as points orbitals numbers t u a b)
  unfolding entry_checks
  entry-there h =
      let first = then-pass _ _ h in
      let last = then-pass _ _ first.1 in
      let times = then-pass _ _ last.0 in
      let entry = then-pass _ _ last.1 in
      let l = passed points points orbitals numbers t first.0 times.0 in
      let p : Placed points orbitals t u a b = record {
        first = l.time_inside;
        second = below u points times.1;
        row = orbital a orbitals entry.0;
        column = orbital b orbitals entry.1;
        stride_most = l.capacity-most;
        orbitals-most = l.orbitals-most;
      } in
      read-placed numbers p l.room

  module _ {v : Verdict} (asked : v ≡ entry_checks points orbitals numbers t u a b) where
    pub entry-refused : {r : Refusal} → v ≡ Err r → Err r ≡ stored_entry points orbitals numbers t u a b
    unfolding stored_entry valued
    entry-refused p = rw (sym asked ∙ p)

    module _ (p : v ≡ pass) {s : Option Complex} (found : s ≡ stored_at points orbitals numbers t u a b) where
      pub entry_read : {z : Complex} → s ≡ Some z → Ok z ≡ stored_entry points orbitals numbers t u a b
      unfolding stored_entry valued
      entry_read {z} e = let q = sym asked ∙ p in rw (q, entry_found _ z (found ∙ entry-there q) e)

      pub entry_missed : {P : Type 0} → s ≡ None → P
      entry_missed e = not_outside _ (found ∙ entry-there (sym asked ∙ p)) e
