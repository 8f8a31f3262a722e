-- Document 02, L10: "The trace itself shall give 10 when a part of its sum is not finite; particle number and one-body expectation pass that on, after 11
-- and before 14." Document 01 asked nothing of a trace. Where the questions before it pass, a call whose trace is finite has the answer that it had, and
-- any other is refused by 10. Assumes nothing.
use Rattle.std.specs.Prelude.{Result, Err, ◌≡◌}
use Rattle.lists.specs.Prelude.{refl, ap, ◌∙◌, Bool, true, false, List, ℕ, Float}
use Rattle.complex.specs.declared.Complex.{Complex}
use Rattle.refusal.specs.declared.Refusal.{Refusal}
use Rattle.refusal.specs.Verdict.{pass, Verdict, by, ask, ◌then◌}
use Rattle.refusal.specs.Agreement.{ask_yes, then-agree, then-after, then-end}
use Rattle.refusal.specs.Checks.{valid_tolerance, finite_work, time_below, real_within}
use Rattle.matrix.specs.declared.DenseMatrix.{DenseMatrix}
use Rattle.matrix.specs.Dense.{entries_of}
use Rattle.matrix.specs.Calls.{valued, square, block_checks, trace_of}
use Rattle.block.specs.Block.{Entries}
use Rattle.block.specs.Operations.{product, trace, finite_trace, all_finite}
use Rattle.observables.specs.declared.Observed.{Observed}
use Rattle.observables.specs.declared.Observed.TheVariants.{Refused as NotObserved}
use Rattle.observables.specs.Density.{density_of}
use Rattle.observables.specs.Calls.{observed, lesser_checks, lesser_block_checks, particle_number, one_body_expectation}

-- where the trace is finite its question changes nothing
passes : {b : Bool} → b ≡ true → finite_work b ≡ pass
unfolding finite_work
passes e = ask_yes _ _ e

-- ---- `trace`

module _ (x : DenseMatrix) where
  abbrev pub trace_unasked : Result Complex Refusal
  trace_unasked = valued (block_checks (square x) x) (trace x.rows (entries_of x))

  pub trace-kept : (block_checks (square x) x ≡ pass → finite_trace x.rows (entries_of x) ≡ true) → trace_of x ≡ trace_unasked
  unfolding trace_of
  trace-kept h =
      ap (λ (v : Verdict). valued v (trace x.rows (entries_of x))) (then-agree _ _ _ _ refl (λ p. passes (h p)) ∙ then-end _)

  pub trace_changed : block_checks (square x) x ≡ pass → finite_trace x.rows (entries_of x) ≡ false → trace_of x ≡ Err (by 10)
  unfolding trace_of valued finite_work ask
  trace_changed p e = rw (p, e)

module _ (capacity points n : ℕ) (lesser : List Float) (time : ℕ) (tolerance : Float) where
  abbrev rho : Entries
  rho = density_of capacity n lesser time

  -- ---- `particle_number`: 8, 11, 14

  abbrev pub number_unasked : Observed
  number_unasked =
      observed (lesser_checks capacity points n lesser then valid_tolerance tolerance then time_below time points then real_within tolerance (trace n rho).im) (trace n rho).re

  pub number-kept : (lesser_checks capacity points n lesser ≡ pass → valid_tolerance tolerance ≡ pass → time_below time points ≡ pass → finite_trace n rho ≡ true)
      → particle_number capacity points n lesser time tolerance ≡ number_unasked
  unfolding particle_number
  number-kept h =
      ap (λ (v : Verdict). observed v (trace n rho).re)
      (then-agree _ _ _ _ refl (λ l. then-agree _ _ _ _ refl (λ v. then-agree _ _ _ _ refl (λ t. then-after _ _ (passes (h l v t))))))

  pub number_changed : lesser_checks capacity points n lesser ≡ pass → valid_tolerance tolerance ≡ pass → time_below time points ≡ pass → finite_trace n rho ≡ false
      → particle_number capacity points n lesser time tolerance ≡ NotObserved (by 10)
  unfolding particle_number observed finite_work ask
  number_changed l v t e = rw (l, v, t, e)

  -- ---- `one_body_expectation`: 8, 11, 10 (the product), 14

  module _ (x : DenseMatrix) where
    abbrev made : Entries
    made = product n (entries_of x) rho

    abbrev work : Verdict
    work = finite_work (all_finite n n made)

    abbrev pub expectation_unasked : Observed
    expectation_unasked =
        observed (lesser_block_checks capacity points n lesser x then valid_tolerance tolerance then time_below time points then work then real_within tolerance (trace n made).im) (trace n made).re

    pub expectation-kept : (lesser_block_checks capacity points n lesser x ≡ pass → valid_tolerance tolerance ≡ pass → time_below time points ≡ pass → work ≡ pass → finite_trace n made ≡ true)
        → one_body_expectation capacity points n lesser time x tolerance ≡ expectation_unasked
    unfolding one_body_expectation
    expectation-kept h =
        ap (λ (v : Verdict). observed v (trace n made).re)
        (then-agree _ _ _ _ refl (λ l. then-agree _ _ _ _ refl (λ v. then-agree _ _ _ _ refl (λ t. then-agree _ _ _ _ refl (λ w. then-after _ _ (passes (h l v t w)))))))

    pub expectation_changed : lesser_block_checks capacity points n lesser x ≡ pass → valid_tolerance tolerance ≡ pass → time_below time points ≡ pass → work ≡ pass → finite_trace n made ≡ false
        → one_body_expectation capacity points n lesser time x tolerance ≡ NotObserved (by 10)
    unfolding one_body_expectation observed finite_work ask
    expectation_changed l v t w e = rw (l, v, t, w, e)
