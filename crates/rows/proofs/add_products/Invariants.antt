-- The sums passed are made.
use Rattle.complex.specs.Arithmetic.{cadd, cmul}
use Rattle.rows.specs.Numbers.{number_at, Mapped}
use Rattle.rows.proofs.add_products.Given as goal

abbrev pub invariant-loop-c : goal.invariant-loop-c
invariant-loop-c l = Mapped (λ c z. cadd z (cmul l.x (number_at l.row c))) l.c l.fn.sums l.sums
