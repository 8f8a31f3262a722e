-- Document 01, observables: the outcome of each call. Checks 1, 2, 3, 16 and 7 of the lesser function (operand 0) and of the observable's block
-- (operand 1) come before the order that the module names. Document 02, L1: "observables read the same layout over the points".
use Rattle.std.specs.Prelude.{Result, Ok, Err, ◌&&◌}
use Rattle.lists.specs.Prelude.{ℕ, cond, List, eqb, length, Float, binary64, of_bits}
use Rattle.complex.specs.declared.Complex.{Complex}
use Rattle.complex.specs.Arithmetic.{mul, cmul}
use Rattle.refusal.specs.Verdict.{pass, Verdict, ◌then◌}
use Rattle.refusal.specs.Checks.{large_enough, not_empty, within_limits, within_block, fitting, finite_entries, valid_tolerance, finite_work, time_below, orbital_below, within_capacity}
use Rattle.refusal.specs.Checks.{finite_factors, real_within}
use Rattle.matrix.specs.declared.DenseMatrix.{DenseMatrix}
use Rattle.refusal.specs.declared.Refusal.{Refusal}
use Rattle.block.specs.Block.{Entries}
use Rattle.matrix.specs.Dense.{entries_of, count_of, block_of, checked}
use Rattle.block.specs.Operations.{product, trace, finite_trace, all_finite}
use Rattle.two_time.specs.Layout.{read_as, length_of}
use Rattle.two_time.specs.Calls.{point_entries, point_checks}
use Rattle.observables.specs.declared.Observed.{Observed}
use Rattle.observables.specs.declared.Observed.TheVariants.{Number, NotReal, Refused as NotObserved}
use Rattle.observables.specs.Density.{density}

-- the paper's number of an observable's answer: 0 for a number, and 14 with the imaginary part
unfoldable pub observed_number : Observed → ℕ
observed_number (Number x) = 0
observed_number (NotReal part) = 14
observed_number (NotObserved r) = r.number

-- "An observable's answer is a number, or a refusal that carries the imaginary part": number 14 carries it, any other its places
unfoldable pub observed : Verdict → Float → Observed
observed (Ok tt) x = Number x
observed (Err r) x = cond (eqb r.number 14) (NotReal r.part) (NotObserved r)

-- checks 1, 2, 3, 16 and 7 of the lesser function
unfoldable pub lesser_checks : ℕ → ℕ → ℕ → List Float → Verdict
lesser_checks capacity points orbitals lesser = point_checks capacity points orbitals 0 lesser

-- the same with a block: check by check, and a block that is not n by n is 3
unfoldable pub lesser_block_checks : ℕ → ℕ → ℕ → List Float → DenseMatrix → Verdict
lesser_block_checks capacity points orbitals lesser x =
    (large_enough points orbitals then not_empty x.rows x.columns)
    then (within_limits capacity orbitals then within_block x.rows x.columns)
    then fitting (eqb (length lesser) (length_of capacity orbitals) && (eqb x.rows orbitals && eqb x.columns orbitals))
    then within_capacity points capacity
    then (point_entries capacity points orbitals 0 lesser then finite_entries 1 x.values (count_of x))

module _ (capacity points orbitals : ℕ) (lesser : List Float) where
  abbrev rho : ℕ → Entries
  rho = density (read_as capacity orbitals lesser)

  -- `density_matrix`: its questions, then 11
  unfoldable pub density_matrix : ℕ → Result DenseMatrix Refusal
  density_matrix time = checked (lesser_checks capacity points orbitals lesser then time_below time points) (block_of orbitals orbitals (rho time))

  -- `particle_number`: 8, 11, 10 (the trace), 14. "8 comes before 11 and before 10" (document 02, L8); "The trace itself shall give 10 when a part of
  -- its sum is not finite; particle number and one-body expectation pass that on, after 11 and before 14" (L10)
  unfoldable pub particle_number : ℕ → Float → Observed
  particle_number time tolerance =
      let z = trace orbitals (rho time) in
      observed
      (lesser_checks capacity points orbitals lesser then valid_tolerance tolerance then time_below time points
      then finite_work (finite_trace orbitals (rho time)) then real_within tolerance z.im)
      z.re

  -- `one_body_expectation`: 8, 11, 10 (the product observable·density), 10 (its trace), 14, by the same two requests
  unfoldable pub one_body_expectation : ℕ → DenseMatrix → Float → Observed
  one_body_expectation time x tolerance =
      let made = product orbitals (entries_of x) (rho time) in
      let z = trace orbitals made in
      observed
      (lesser_block_checks capacity points orbitals lesser x then valid_tolerance tolerance then time_below time points
      then finite_work (all_finite orbitals orbitals made) then finite_work (finite_trace orbitals made) then real_within tolerance z.im)
      z.re

  -- "`bond_flow_into`: 13, 12, 11; then (2·charge)·Im(hopping·rho_ba)."
  unfoldable pub bond_flow_into : ℕ → ℕ → ℕ → Complex → Float → Observed
  bond_flow_into time a b hopping charge =
      observed
      (lesser_checks capacity points orbitals lesser then finite_factors hopping charge
      then (orbital_below a orbitals then orbital_below b orbitals) then time_below time points)
      (mul (mul (of_bits binary64 0x4000_0000_0000_0000) charge) (cmul hopping (rho time b a)).im)
