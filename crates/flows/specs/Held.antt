-- The queries that are held by the slices lent for them.
use Rattle.flows.specs.declared.Queries.{Queries as Lent}
use Rattle.flows.specs.Calls.{Queries}

abbrev pub held : Lent → Queries
held q = record { times = q.times.now; a = q.a.now; b = q.b.now; hoppings = q.hoppings.now; factors = q.factors.now }
