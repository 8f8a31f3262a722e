-- P12's run file makes the program print P12's text: the file passes, its run is P12's, and the text is that of the run's numbers. Assumes
-- nothing.
use Rattle.refusal.specs.Verdict.{pass}
use Rattle.std.specs.Prelude.{◌≡◌}
use Rattle.lists.specs.Prelude.{refl, replicate}
use Rattle.complex.specs.Arithmetic.{plus_zero}
use Rattle.refusal.specs.Checks.{within_program, well_formed, within_capacity}
use Rattle.two_time.specs.Layout.{read_as}
use Rattle.two_time.specs.Calls.{capacity_checks, point_entries, point_checks}
use Rattle.two_time.specs.Computation.{arithmetic, checks}
use Rattle.two_time.specs.Example.{floats}
use Rattle.dyson.specs.Calls.{support_checks, default_tolerance}
use Rattle.dyson.specs.Cases.{dyson_computation}
use Rattle.transient_run.specs.P12 as P12
use Rattle.transient_run.proofs.P12 as P12Made
use Rattle.observables.specs.Density.{density}
use Rattle.observables.specs.Calls.{observed, lesser_checks, particle_number}
use Rattle.run_file.specs.Bytes.{little_endian, numbers}
use Rattle.run_file.specs.File.{table_fits, file_checks, file_run}
use Rattle.run_file.specs.Text.{decimal_in, decimal, hex_digit, hexadecimal, line, time_line}
use Rattle.run_file.specs.Program.{run_text, solved_text, run_answer, file_text, printed}
use Rattle.run_file.specs.P12 as File

-- P11's and P12's inputs are retarded
pub retarded-inputs : support_checks 3 1 default_tolerance (read_as 3 1 P12.lower) (read_as 3 1 P12.lower) ≡ pass
unfolding dyson_computation
retarded-inputs = refl

file-passes : file_checks File.file ≡ pass
unfolding checks file_checks table_fits little_endian well_formed within_program
file-passes = refl

file_run_lem : file_run File.file ≡ P12.run default_tolerance (replicate 18 plus_zero)
unfolding arithmetic file_run numbers little_endian
file_run_lem = refl

run_text_lem : run_text 3 1 default_tolerance (floats P12.lesser_bits) ≡ File.text
unfolding checks run_text time_line line decimal decimal_in hexadecimal hex_digit particle_number observed lesser_checks point_checks capacity_checks within_capacity point_entries density
run_text_lem = refl

-- what the program prints
pub prints : printed File.file ≡ File.text
unfolding printed file_text run_answer solved_text
prints = rw (file-passes, file_run_lem, P12Made.outcome default_tolerance (replicate 18 plus_zero) refl retarded-inputs) run_text_lem
