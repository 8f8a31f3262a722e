-- `run_file::decoding::check_file` meets its contract: checks 1 and 2 give the table its sizes. Assumes nothing.
use Rattle.lists.specs.Prelude.{sym, ◌∙◌}
use Rattle.run_file.specs.Table.{sized}
use Rattle.run_file.proofs.decoding.check_file.Goals as goal

pub table_fits-requires : goal.table_fits-requires
table_fits-requires c = sized _ _ (sym c.large_enough.ensures ∙ c.in_ok-large_enough.was) (sym c.within_program.ensures ∙ c.in_ok-within_program.was)
