-- After k steps the first k answers are written, and the rest of both slices is as it was.
use Rattle.std.proofs.Common.{◌≡◌, ℕ, List}
use Rattle.lists.specs.Prelude.{Float}
use Rattle.lists.specs.Filling.{over}
use Rattle.lists.specs.Singles.{singles}
use Rattle.observables.specs.declared.Observed.{Observed}
use Rattle.observables.specs.Calls.{observed_number}
use Rattle.two_time.specs.declared.capacity.Shape.{Shape}
use Rattle.flows.specs.declared.Queries.{Queries as Lent}
use Rattle.flows.specs.Calls.{flow_of}
use Rattle.flows.specs.Held.{held}
use Rattle.flows.specs.Asked.{asked_of}
use Rattle.flows.proofs.fill.Given as goal

-- the answer to query k
abbrev pub answer : List Float → Shape → Lent → ℕ → Observed
answer lesser shape q = asked_of shape.capacity shape.points shape.orbitals lesser (held q)

abbrev pub invariant-loop-k : goal.invariant-loop-k
invariant-loop-k l =
    (l.flows ≡ over l.fn.flows (singles l.k (λ i. flow_of (answer l.lesser l.shape l.q i))))
    × (l.numbers ≡ over l.fn.numbers (singles l.k (λ i. observed_number (answer l.lesser l.shape l.q i))))
