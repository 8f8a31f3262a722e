-- `transient_run::checking::form_entries` meets its contract: a block has at most 256 entries. Assumes nothing.
use Rattle.std.specs.Prelude.{◌*◌, ◌≤◌}
use Rattle.lists.specs.Prelude.{arith, rules}
use Rattle.two_time.specs.Places.{product-most}
use Rattle.transient_run.specs.Form.{form_by, form_entries}
use Rattle.transient_run.proofs.checking.form_entries.Statement.{statement}
use Rattle.transient_run.proofs.checking.form_entries.Tie as tie

few : (c : tie.In-Occupied) → let x = c.before.before.args.initial in x.rows * x.columns ≤ 256
unfolding form_by
few c = let s = c.before.before in let small = rw c.in-Occupied.is at s.requires in product-most s.args.initial.rows s.args.initial.columns small.0 small.1

returns-2 : tie.Need-returns-in-Occupied
unfolding form_by form_entries
returns-2 c = rw c.before.before.in-Occupied.is c.finite_entries.ensures

returns : tie.Need-returns-in-Empty
unfolding form_by form_entries
returns c = rw c.in-Empty.is

pub form_entries_spec : {M : Type 1} → statement M
form_entries_spec =
    tie.close
    (tie.spec
    (λ c. search rules) (λ c. search rules)  -- enum_told-1, enum_told-in-Occupied
    (λ c. omega (arith, few c.before))  -- overflow_mul-initial
    (λ c. omega (arith, few c.before))  -- overflow_mul-initial-in-Occupied
    (λ c κs. search rules)  -- finite_entries-requires
    returns
    returns-2)
