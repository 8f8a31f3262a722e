-- What each observable measures by its questions in order. Assumes nothing.
use Rattle.std.specs.Prelude.{Result, Ok, Err}
use Rattle.lists.specs.Prelude.{cond, eqb, List, ℕ, Float}
use Rattle.complex.specs.declared.Complex.{Complex}
use Rattle.complex.specs.Arithmetic.{cfinite}
use Rattle.refusal.specs.declared.Refusal.{Refusal}
use Rattle.refusal.specs.Verdict.{◌then◌, measured}
use Rattle.refusal.specs.Checks.{time_below, orbital_below, finite_factors, valid_tolerance, real_within, finite_work}
use Rattle.matrix.specs.declared.DenseMatrix.{DenseMatrix}
use Rattle.block.specs.Operations.{trace, all_finite}
use Rattle.two_time.specs.Layout.{stored_at}
use Rattle.observables.specs.declared.Observed.{Observed}
use Rattle.observables.specs.declared.Observed.TheVariants.{Number, NotReal, Refused as NotObserved}
use Rattle.observables.specs.Density.{density_of, product_of}
use Rattle.observables.specs.Calls.{lesser_checks, lesser_block_checks}
use Rattle.observables.specs.Query.{found, flow}

-- an observable's answer: number 14 carries the imaginary part, any other its places
unfoldable pub outcome : Result Float Refusal → Observed
outcome (Ok x) = Number x
outcome (Err r) = cond (eqb r.number 14) (NotReal r.part) (NotObserved r)

module _ (capacity points orbitals : ℕ) (lesser : List Float) (time : ℕ) where
  -- Tr rho
  abbrev pub number_measured : Float → Result Float Refusal
  number_measured tolerance =
      let z = trace orbitals (density_of capacity orbitals lesser time) in
      measured (lesser_checks capacity points orbitals lesser then valid_tolerance tolerance then time_below time points then finite_work (cfinite z) then real_within tolerance z.im) z.re

  -- Tr[O rho]; past its checks the matrix has n columns
  abbrev pub expectation_measured : DenseMatrix → Float → Result Float Refusal
  expectation_measured x tolerance =
      let made = product_of capacity orbitals x.values lesser time in
      let z = trace orbitals made in
      measured
      (lesser_block_checks capacity points orbitals lesser x then valid_tolerance tolerance then time_below time points
      then finite_work (all_finite orbitals orbitals made) then finite_work (cfinite z) then real_within tolerance z.im)
      z.re

  -- the flow into orbital a from b
  module _ (a b : ℕ) (hopping : Complex) (charge : Float) where
    abbrev pub flow_measured : Result Float Refusal
    flow_measured =
        measured (finite_factors hopping charge then (orbital_below a orbitals then orbital_below b orbitals) then time_below time points)
        (flow hopping charge (found (stored_at capacity orbitals lesser time time b a)))
