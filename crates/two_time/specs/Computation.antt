-- What closed cases over lists of numbers compute with: a case says `unfolding computation`, and the definitions of its own crate.
use Rattle.std.specs.Float.Ieee as Ieee
use Rattle.lists.specs.Prelude.{to_bits}
use Rattle.lists.specs.Indexed.{fold, join, all_below}
use Rattle.complex.specs.Arithmetic.{finite, size, larger, cadd, cmul, conj, cfinite}
use Rattle.complex.specs.Sum.{sum_from, largest_from, largest_in}
use Rattle.norm.specs.Norm.{norm}
use Rattle.refusal.specs.Verdict.{ask, ask_all, number_of, afterwards}
use Rattle.refusal.specs.Checks.{large_enough, within_limits, fitting, finite_times, rising_times, finite_weights, finite_entries, valid_tolerance, retarded_at, finite_work}
use Rattle.refusal.specs.Checks.{time_below, real_within}
use Rattle.block.specs.Block.{lay_out}
use Rattle.block.specs.Operations.{product, scaled, added, adjoint, trace, matrix_norm_max}
use Rattle.grid.specs.Weights.{half_step, full_weight, interval_weight}
use Rattle.grid.specs.Calls.{grid_checks}
use Rattle.two_time.specs.Layout.{lay_out_all, everywhere}
use Rattle.two_time.specs.WeightedSum.{product_at, term_at, partial_sum, weighted_sum, finite_sum}
use Rattle.two_time.specs.Sums.{interval_count, terms_at, sums_of, sums_of_finite, sums_numbers, sums_finite}
use Rattle.two_time.specs.Calls.{all_long, size_checks, operand_checks, input_checks}

-- numbers, blocks and weights
unfoldable pub arithmetic : Unit {0}
unfolding fold join all_below finite size larger cadd cmul conj cfinite sum_from largest_from largest_in norm product scaled added adjoint trace matrix_norm_max half_step full_weight interval_weight Ieee.of_bits to_bits Ieee.add Ieee.sub Ieee.mul Ieee.neg Ieee.div Ieee.lt Ieee.ne Ieee.eq
arithmetic = tt

-- the checks of document 01 in their order
unfoldable pub checks : Unit {0}
unfolding arithmetic ask ask_all number_of afterwards large_enough within_limits fitting finite_times rising_times finite_weights finite_entries valid_tolerance retarded_at finite_work time_below real_within grid_checks all_long size_checks operand_checks input_checks
checks = tt

-- the sums at all places, and all of the above
unfoldable pub computation : Unit {0}
unfolding checks lay_out lay_out_all everywhere product_at term_at partial_sum weighted_sum finite_sum interval_count terms_at sums_of sums_of_finite sums_numbers sums_finite
computation = tt
