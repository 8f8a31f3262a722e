-- What closed cases of runs and appends compute with. Assumes nothing.
use Rattle.refusal.specs.Checks.{within_capacity, counter_holds, desk_known}
use Rattle.two_time.specs.New.{is_new, written, every_new}
use Rattle.two_time.specs.Sums.{interval_count, new_numbers, new_finite}
use Rattle.two_time.specs.Calls.{capacity_checks, point_entries, point_operands}
use Rattle.two_time.specs.Start.{occupied_first, occupied_block, new_lesser_numbers, new_lesser_finite}
use Rattle.dyson.specs.Retarded.{retarded_onward, new_retarded, new_retarded_finite}
use Rattle.dyson.specs.Calls.{solved_new_finite}
use Rattle.dyson.specs.Cases.{dyson_computation}
use Rattle.transient_run.specs.Products.{total, over_new, formed}
use Rattle.transient_run.specs.Form.{form_sizes, form_entries, start_of, start_products}
use Rattle.transient_run.specs.Calls.{solved, solved_number, made_finite, checks_of, verdict_of, worked, transient_run, append_point}

unfoldable pub run_computation : Unit {0}
unfolding dyson_computation is_new written every_new new_numbers new_finite new_retarded new_retarded_finite retarded_onward solved_new_finite within_capacity capacity_checks point_entries point_operands solved solved_number total interval_count over_new formed occupied_first occupied_block new_lesser_numbers new_lesser_finite form_sizes form_entries start_of start_products counter_holds desk_known made_finite checks_of verdict_of worked transient_run append_point
run_computation = tt
