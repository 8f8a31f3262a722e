-- `transient_run::checking::form_sizes` meets its contract: each form asks its own. Assumes nothing.
use Rattle.lists.specs.Prelude.{rules}
use Rattle.transient_run.specs.Form.{form_by, form_sizes}
use Rattle.transient_run.proofs.checking.form_sizes.Statement.{statement}
use Rattle.transient_run.proofs.checking.form_sizes.Tie as tie

pub form_sizes_spec : {M : Type 1} → statement M
unfolding form_by form_sizes
form_sizes_spec =
    tie.close
    (tie.spec
    (λ c. search rules) (λ c κs. search rules)  -- enum_told-1, check_capacity-requires
    (λ c. search rules) (λ c κs. search rules)  -- enum_told-in-Occupied, check_block_sizes-requires
    (λ c values. rw c.before.in-Empty.is c.check_capacity.ensures)  -- returns-in-Empty
    (λ c values. rw c.before.before.before.before.before.in-Occupied.is c.check_block_sizes.ensures))  -- returns-2
