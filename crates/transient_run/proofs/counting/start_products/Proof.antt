-- `transient_run::counting::start_products` meets its contract. Assumes nothing.
use Rattle.lists.specs.Prelude.{sym, ap, arith, rules}
use Rattle.transient_run.specs.declared.Kind.{Kind}
use Rattle.transient_run.specs.Form.{form_by, start_products}
use Rattle.transient_run.proofs.counting.start_products.Statement.{statement}
use Rattle.transient_run.proofs.counting.start_products.Tie as tie

pub start_products_spec : {M : Type 1} → statement M
unfolding form_by start_products
start_products_spec =
    tie.close
    (tie.spec
    (λ c. search rules) (λ c. search rules)  -- enum_told-1, enum_told-in-Occupied
    (λ c. (λ rows columns values. ap (λ (kind : Kind). start_products (form_by kind rows columns values)) (sym c.in-Empty.is), omega arith))  -- returns-in-Empty
    (λ c. (λ rows columns values. ap (λ (kind : Kind). start_products (form_by kind rows columns values)) (sym c.in-Occupied.is), omega arith)))  -- returns-2
