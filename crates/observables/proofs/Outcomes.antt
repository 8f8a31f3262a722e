-- The outcome of what each observable measures is the call's. Assumes nothing.
use Rattle.std.specs.Prelude.{Result, Ok, Err, ◌≡◌}
use Rattle.std.specs.Result.{result_and}
use Rattle.lists.specs.Prelude.{refl, sym, ap, ◌∙◌, List, ℕ, Float}
use Rattle.complex.specs.declared.Complex.{Complex}
use Rattle.complex.specs.Arithmetic.{plus_zero}
use Rattle.refusal.specs.declared.Refusal.{Refusal}
use Rattle.refusal.specs.Verdict.{pass, Verdict, ◌then◌, measured}
use Rattle.refusal.specs.Agreement.{then-agree, then-pass}
use Rattle.refusal.specs.Checks.{time_below, valid_tolerance}
use Rattle.matrix.specs.declared.DenseMatrix.{DenseMatrix}
use Rattle.matrix.specs.Dense.{entries_of}
use Rattle.block.specs.Block.{Entries, entries_in}
use Rattle.block.specs.Operations.{product, trace}
use Rattle.observables.specs.Density.{density_of, product_of}
use Rattle.observables.specs.Calls.{observed, lesser_checks, lesser_block_checks, particle_number, one_body_expectation, bond_flow_into}
use Rattle.observables.specs.LesserChecks.{block_at}
use Rattle.observables.specs.Answers.{number-order, asks, product-order}
use Rattle.observables.specs.Query.{observed_agree, queried, query_passed, query_refused}
use Rattle.observables.specs.Measured.{outcome, number_measured, expectation_measured, flow_measured}

pub outcome_measured : (v : Verdict) (x : Float) → outcome (measured v x) ≡ observed v x
unfolding outcome measured observed
outcome_measured (Ok tt) x = refl
outcome_measured (Err r) x = refl

refusing : (r : Refusal) → outcome (Err r) ≡ observed (Err r) plus_zero
unfolding outcome observed
refusing r = refl

module _ (capacity points orbitals : ℕ) (lesser : List Float) (time : ℕ) where
  pub number_outcome : (tolerance : Float) → outcome (number_measured capacity points orbitals lesser time tolerance) ≡ particle_number capacity points orbitals lesser time tolerance
  number_outcome tolerance = outcome_measured _ _ ∙ number-order capacity points orbitals lesser time tolerance _ refl

  module _ (x : DenseMatrix) (tolerance : Float) where
    abbrev rho : Entries
    rho = density_of capacity orbitals lesser time

    same : lesser_block_checks capacity points orbitals lesser x ≡ pass → time_below time points ≡ pass → product_of capacity orbitals x.values lesser time ≡ product orbitals (entries_of x) rho
    same l t = sym (ap (λ (n : ℕ). product orbitals (entries_in n x.values) rho) (block_at capacity points orbitals lesser x time l t).1)

    abbrev asked : Entries → Verdict
    asked f = lesser_block_checks capacity points orbitals lesser x then valid_tolerance tolerance then time_below time points then asks capacity points orbitals lesser time x tolerance f

    asked-alike : asked (product_of capacity orbitals x.values lesser time) ≡ asked (product orbitals (entries_of x) rho)
    asked-alike =
        then-agree (lesser_block_checks capacity points orbitals lesser x) (lesser_block_checks capacity points orbitals lesser x) _ _ refl (λ l.
        then-agree (valid_tolerance tolerance) (valid_tolerance tolerance) _ _ refl (λ v.
        then-agree (time_below time points) (time_below time points) _ _ refl (λ t.
        ap (asks capacity points orbitals lesser time x tolerance) (same l t))))

    pub expectation_outcome : outcome (expectation_measured capacity points orbitals lesser time x tolerance) ≡ one_body_expectation capacity points orbitals lesser time x tolerance
    expectation_outcome =
        let made = product_of capacity orbitals x.values lesser time in
        let called = product orbitals (entries_of x) rho in
        outcome_measured (asked made) (trace orbitals made).re
        ∙ ap (λ (v : Verdict). observed v (trace orbitals made).re) asked-alike
        ∙ observed_agree (asked called) (trace orbitals made).re (trace orbitals called).re
        (λ p.
        let first = then-pass _ _ p in
        let last = then-pass _ _ (then-pass _ _ first.1).1 in
        ap (λ (f : Entries). (trace orbitals f).re) (same first.0 last.0))
        ∙ product-order capacity points orbitals lesser time x tolerance _ _ refl refl

  module _ (a b : ℕ) (hopping : Complex) (charge : Float) where
    abbrev measured_flow : Result Float Refusal
    measured_flow = flow_measured capacity points orbitals lesser time a b hopping charge

    pub flow_outcome : outcome (result_and (lesser_checks capacity points orbitals lesser) (flow_measured capacity points orbitals lesser time a b hopping charge)) ≡ bond_flow_into capacity points orbitals lesser time a b hopping charge
    unfolding queried
    flow_outcome = cases (lesser_checks capacity points orbitals lesser) refl
      where
        cases : (v : Verdict) → lesser_checks capacity points orbitals lesser ≡ v → outcome (result_and v measured_flow) ≡ bond_flow_into capacity points orbitals lesser time a b hopping charge
        cases (Ok tt) e = outcome_measured _ _ ∙ query_passed capacity points orbitals lesser time a b hopping charge e
        cases (Err r) e = refusing r ∙ query_refused capacity points orbitals lesser time a b hopping charge {r = r} plus_zero e
