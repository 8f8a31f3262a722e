-- What the trace of the density and the trace of a product answer where a question refuses, and where all pass. Assumes nothing.
use Rattle.std.specs.Prelude.{Err, ◌≡◌}
use Rattle.lists.specs.Prelude.{refl, sym, ap, ◌∙◌, List, ℕ, Float}
use Rattle.complex.specs.declared.Complex.{Complex}
use Rattle.complex.specs.Arithmetic.{cfinite}
use Rattle.refusal.specs.declared.Refusal.{Refusal}
use Rattle.refusal.specs.Verdict.{Verdict, pass, ◌then◌}
use Rattle.refusal.specs.Agreement.{then-after, then-refused}
use Rattle.refusal.specs.Checks.{finite_work, real_within, time_below, valid_tolerance}
use Rattle.matrix.specs.declared.DenseMatrix.{DenseMatrix}
use Rattle.block.specs.Block.{Entries, entries_in}
use Rattle.matrix.specs.Dense.{entries_of}
use Rattle.block.specs.Operations.{product, trace, all_finite, finite_trace}
use Rattle.observables.specs.Density.{density_of, product_of}
use Rattle.observables.specs.Calls.{observed, lesser_checks, lesser_block_checks, particle_number, one_body_expectation}
use Rattle.observables.specs.Passed.{ends-passed}
use Rattle.observables.specs.LesserChecks.{block_at}
use Rattle.observables.specs.Answers.{observed-no, real_observed, with_arguments, first-refused, first-passed, number-order, asks, product-order}

-- the trace of the density
module _ (capacity points orbitals : ℕ) (lesser : List Float) (time : ℕ) (tolerance : Float) where
  -- 10 and 14 of a trace
  abbrev real : Complex → Verdict
  real z = finite_work (cfinite z) then real_within tolerance z.im

  module _ {v : Verdict} (asked : v ≡ with_arguments tolerance time points (lesser_checks capacity points orbitals lesser)) where
    pub number-refused : {r : Refusal} (x : Float) → v ≡ Err r → observed (Err r) x ≡ particle_number capacity points orbitals lesser time tolerance
    number-refused x p =
        let z = trace orbitals (density_of capacity orbitals lesser time) in
        first-refused (lesser_checks capacity points orbitals lesser) (valid_tolerance tolerance) (time_below time points) (real z) asked x z.re p
        ∙ number-order capacity points orbitals lesser time tolerance z refl

    pub number_passed : {z : Complex} → v ≡ pass → z ≡ trace orbitals (density_of capacity orbitals lesser time) → real_observed tolerance z ≡ particle_number capacity points orbitals lesser time tolerance
    number_passed {z} p e =
        first-passed (lesser_checks capacity points orbitals lesser) (valid_tolerance tolerance) (time_below time points) (real z) asked z.re p
        ∙ number-order capacity points orbitals lesser time tolerance z (sym e)

-- the trace of the product by a matrix
module _ (capacity points orbitals : ℕ) (lesser : List Float) (time : ℕ) (x : DenseMatrix) (tolerance : Float) where
  -- 10, 10 and 14 of a product
  abbrev work_of : Entries → Verdict
  work_of = asks capacity points orbitals lesser time x tolerance

  abbrev rest-of : Entries → Verdict
  rest-of f = finite_work (finite_trace orbitals f) then real_within tolerance (trace orbitals f).im

  module _ {v : Verdict} (asked : v ≡ with_arguments tolerance time points (lesser_block_checks capacity points orbitals lesser x)) where
    pub inputs-refused : {r : Refusal} (y : Float) → v ≡ Err r → observed (Err r) y ≡ one_body_expectation capacity points orbitals lesser time x tolerance
    inputs-refused y p =
        let rho = density_of capacity orbitals lesser time in
        let called = product orbitals (entries_of x) rho in
        first-refused (lesser_block_checks capacity points orbitals lesser x) (valid_tolerance tolerance) (time_below time points) (work_of called) asked y (trace orbitals called).re p
        ∙ product-order capacity points orbitals lesser time x tolerance (entries_of x) rho refl refl

    -- past its checks the matrix has n columns
    module _ (p : v ≡ pass) where
      abbrev made : Entries
      made = product_of capacity orbitals x.values lesser time

      n-columns : entries_of x ≡ entries_in orbitals x.values
      n-columns =
          let all = ends-passed (lesser_block_checks capacity points orbitals lesser x) (valid_tolerance tolerance) (time_below time points) (sym asked ∙ p) in
          ap (λ (n : ℕ). entries_in n x.values) (block_at capacity points orbitals lesser x time all.0 all.1).1

      product-asked : observed (work_of made) (trace orbitals made).re ≡ one_body_expectation capacity points orbitals lesser time x tolerance
      product-asked =
          first-passed (lesser_block_checks capacity points orbitals lesser x) (valid_tolerance tolerance) (time_below time points) (work_of made) asked (trace orbitals made).re p
          ∙ product-order capacity points orbitals lesser time x tolerance (entries_in orbitals x.values) (density_of capacity orbitals lesser time) n-columns refl

      module _ {work : Verdict} (h : work ≡ finite_work (all_finite orbitals orbitals made)) where
        pub product-refused : {r : Refusal} (y : Float) → work ≡ Err r → observed (Err r) y ≡ one_body_expectation capacity points orbitals lesser time x tolerance
        product-refused {r} y q = observed-no y (trace orbitals made).re (then-refused (finite_work (all_finite orbitals orbitals made)) (rest-of made) r (sym h ∙ q)) ∙ product-asked

        pub product-passed : work ≡ pass → real_observed tolerance (trace orbitals made) ≡ one_body_expectation capacity points orbitals lesser time x tolerance
        product-passed q = ap (λ (u : Verdict). observed u (trace orbitals made).re) (sym (then-after (finite_work (all_finite orbitals orbitals made)) (rest-of made) (sym h ∙ q))) ∙ product-asked
