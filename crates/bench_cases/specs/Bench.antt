-- Document 01, "Bench cases (P is proved)". Assumes nothing.
use Rattle.std.specs.Prelude.{Ok, Err, ◌≡◌, ◌∷◌, ◌+◌, ◌-◌, ◌*◌, ◌^◌}
use Rattle.lists.specs.Prelude.{refl, false, List, [], suc, replicate, Float, inf, binary64, of_bits, to_bits}
use Rattle.std.specs.Float.Ieee as Ieee
use Rattle.complex.specs.declared.Complex.{Complex}
use Rattle.complex.specs.Arithmetic.{plus_zero, one, real}
use Rattle.norm.specs.Norm.{norm}
use Rattle.refusal.specs.Verdict.{pass, by, ask, ◌then◌, afterwards}
use Rattle.refusal.specs.Checks.{finite_work, within_capacity}
use Rattle.grid.specs.Calls.{grid_call_checks, check_times}
use Rattle.two_time.specs.Layout.{read_as}
use Rattle.support.specs.Support.{residual, check_support}
use Rattle.two_time.specs.Calls.{input_checks, capacity_checks, point_entries, point_checks}
use Rattle.two_time.specs.Computation.{checks}
use Rattle.two_time.specs.Example.{floats}
use Rattle.dyson.specs.Calls.{Equation, Solved, equation_of, default_tolerance, solved_finite, dyson_verdict, dyson_with_tolerance, dyson}
use Rattle.dyson.specs.Cases.{dyson_computation}
use Rattle.transient_run.specs.Calls.{transient_run}
use Rattle.transient_run.specs.P12 as P12
use Rattle.transient_run.proofs.P12 as P12Made
use Rattle.observables.specs.declared.Observed.TheVariants.{Number, NotReal}
use Rattle.observables.specs.Density.{density}
use Rattle.observables.specs.Calls.{observed_number, observed, lesser_checks, particle_number}
use Rattle.run_file.specs.Program.{printed}
use Rattle.run_file.specs.P12 as File
use Rattle.bench_cases.specs.Printing.{retarded-inputs, prints}
use Rattle.bench_cases.specs.Inputs.{whole, units, largest, half, three_quarters, above, huge, lesser_with, entry}

-- what outputs and scratch hold before: ones
abbrev before : List Float
before = replicate 18 one

-- the imaginary number xi
abbrev imaginary : Float → Complex
imaginary x = record { re = plus_zero; im = x }

abbrev p11-run : Solved
p11-run = dyson 3 1 P12.times P12.lower P12.lower before before

pub record BenchCases : Type 0 where
  -- "P1 norm(3,4) = 5. P2 norm(−0,+0) = +0. P3 norm(2u,2u) = 3u. P4 largest twice: +infinity."
  pub p1 : norm (whole 3) (whole 4) ≡ whole 5
  pub p2 : norm (Ieee.neg plus_zero) plus_zero ≡ plus_zero
  pub p3 : norm (units 2) (units 2) ≡ units 3
  pub p4 : norm largest largest ≡ inf false
  -- "P5 norm(2^53 − 2^26 − 1, 6·2^50 + 6·2^25): the root is 10·2^50 + 2^26 + 1, a tie; the norm is 10·2^50 + 2^26."
  pub p5-root : (2 ^ 53 - 2 ^ 26 - 1) ^ 2 + (6 * 2 ^ 50 + 6 * 2 ^ 25) ^ 2 ≡ (10 * 2 ^ 50 + 2 ^ 26 + 1) ^ 2
  -- the root lies midway between two numbers, which are neighbours: their bits are successive
  pub p5-tie : 2 * (10 * 2 ^ 50 + 2 ^ 26 + 1) ≡ (10 * 2 ^ 50 + 2 ^ 26) + (10 * 2 ^ 50 + 2 ^ 26 + 2)
  pub p5-beside : to_bits binary64 (whole (10 * 2 ^ 50 + 2 ^ 26 + 2)) ≡ suc (to_bits binary64 (whole (10 * 2 ^ 50 + 2 ^ 26)))
  pub p5 : norm (whole (2 ^ 53 - 2 ^ 26 - 1)) (whole (6 * 2 ^ 50 + 6 * 2 ^ 25)) ≡ whole (10 * 2 ^ 50 + 2 ^ 26)
  -- "P6 times 0,0: 5 at 1. P7 times −largest, largest: 6."
  pub p6 : check_times 2 (whole 0 ∷ whole 0 ∷ []) ≡ Err (record { number = 5; operand = 0; first = 1; second = 0; part = plus_zero })
  pub p7 : check_times 2 (Ieee.neg largest ∷ largest ∷ []) ≡ Err (by 6)
  -- "P8 ... tolerance 0.5: with entry (0,1) 0.5 retarded; with entry (0,1) 0.75 number 9 at (0,1)."
  pub p8-retarded : check_support 2 1 (above half) half ≡ pass
  pub p8-refused : check_support 2 1 (above three_quarters) half ≡ Err (record { number = 9; operand = 0; first = 0; second = 1; part = three_quarters })
  -- "P9 entry (1,0) with both parts largest, entry (0,1) 1: residual 0, retarded."
  pub p9-residual : residual 2 1 (read_as 2 1 huge) 0 1 ≡ plus_zero
  pub p9 : check_support 2 1 huge half ≡ pass
  -- "P10 imaginary 0.5, tolerance 0.5: a number; 0.75: 14."
  pub p10-number : particle_number 2 2 1 (lesser_with half) 0 half ≡ Number (whole 2)
  pub p10-refused : particle_number 2 2 1 (lesser_with three_quarters) 0 half ≡ NotReal three_quarters
  pub p10-answers : observed_number (particle_number 2 2 1 (lesser_with half) 0 half) ∷ observed_number (particle_number 2 2 1 (lesser_with three_quarters) 0 half) ∷ [] ≡ 0 ∷ 14 ∷ []
  -- "P11 times 0,1,2, n=1, free and self-energy 1 on and below the diagonal, +0 above: K(2,0) = 2, G(1,0) = 1.5, G(2,0) = 3.5."
  pub p11-answer : p11-run.answer ≡ pass
  pub p11-kernel : entry p11-run.kernel 2 0 ≡ real (whole 2)
  pub p11-first : entry p11-run.retarded 1 0 ≡ real (of_bits binary64 0x3ff8_0000_0000_0000)
  pub p11-second : entry p11-run.retarded 2 0 ≡ real (of_bits binary64 0x400c_0000_0000_0000)
  -- "P12 the same with Σ^< = i everywhere: G^<(1,1) = 1.5625i, G^<(2,2) = 14.0625i. The program prints:" the text of its four lines
  pub p12_answer : (transient_run (P12.run default_tolerance before)).answer ≡ Ok 41
  pub p12_first : entry (transient_run (P12.run default_tolerance before)).lesser 1 1 ≡ imaginary (of_bits binary64 0x3ff9_0000_0000_0000)
  pub p12_second : entry (transient_run (P12.run default_tolerance before)).lesser 2 2 ≡ imaginary (of_bits binary64 0x402c_2000_0000_0000)
  pub p12_text : printed File.file ≡ File.text

-- ---- the cases, by computation; P11 and P12 from the stages of the run (specs/P12.antt of `transient_run`) and Printing.antt

dyson-inputs : input_checks 3 1 P12.times (P12.lower ∷ P12.lower ∷ []) (before ∷ before ∷ []) ≡ pass
unfolding checks
dyson-inputs = refl

abbrev equation : Equation
equation = equation_of 3 1 P12.times P12.lower P12.lower

dyson_verdict_lem : dyson_verdict equation default_tolerance before before ≡ pass
unfolding dyson_verdict solved_finite finite_work ask
dyson_verdict_lem = rw (dyson-inputs, retarded-inputs, P12.kernel-finite, P12.kernel_stage, P12.retarded_finite_lem)

dyson-outcome : p11-run ≡ record { answer = pass; retarded = floats P12.retarded_bits; kernel = floats P12.kernel_bits }
unfolding dyson dyson_with_tolerance afterwards
dyson-outcome = rw (dyson_verdict_lem, P12.kernel_stage, P12.retarded_stage)

run-outcome : transient_run (P12.run default_tolerance before)
    ≡ record { answer = Ok 41; retarded = floats P12.retarded_bits; lesser = floats P12.lesser_bits; kernel = floats P12.kernel_bits; lesser_advanced = floats P12.lesser_advanced_bits }
run-outcome = P12Made.outcome default_tolerance before refl retarded-inputs

pub bench_cases : BenchCases
unfolding dyson_computation check_times grid_call_checks check_support particle_number observed observed_number lesser_checks point_checks capacity_checks within_capacity point_entries density Ieee.of_int
bench_cases =
    record {
      p1 = refl;
      p2 = refl;
      p3 = refl;
      p4 = refl;
      p5-root = refl;
      p5-tie = refl;
      p5-beside = refl;
      p5 = refl;
      p6 = refl;
      p7 = refl;
      p8-retarded = refl;
      p8-refused = refl;
      p9-residual = refl;
      p9 = refl;
      p10-number = refl;
      p10-refused = refl;
      p10-answers = refl;
      p11-answer = rw dyson-outcome;
      p11-kernel = rw dyson-outcome;
      p11-first = rw dyson-outcome;
      p11-second = rw dyson-outcome;
      p12_answer = rw run-outcome;
      p12_first = rw run-outcome;
      p12_second = rw run-outcome;
      p12_text = prints;
    }
