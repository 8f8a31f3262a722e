-- `transient_run::counting::with_count` meets its contract: the desk's counter moves by the count. Assumes nothing.
use Rattle.lists.specs.Prelude.{refl, arith}
use Rattle.transient_run.specs.Calls.{booked}
use Rattle.transient_run.proofs.counting.with_count.Statement.{statement}
use Rattle.transient_run.proofs.counting.with_count.Tie as tie

returns : tie.Need-returns
unfolding booked
returns c = refl

pub with_count_spec : {M : Type 1} → statement M
with_count_spec =
    tie.close
    (tie.spec
    (λ c. let h = c.before.requires.0 in omega arith)  -- offset_bounds-products-desk
    (λ c. c.before.requires.0)  -- bounds-products-desk
    (λ c. let h = c.before.requires.1 in omega arith)  -- overflow_add-products
    (λ c. c.before.requires.0)  -- bounds-products-desk-2
    returns)
