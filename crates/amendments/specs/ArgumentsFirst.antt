-- Document 02, L8: "8 comes before 11 and before 10." Document 01 first asked the tolerance after the time index and after the product. Where the
-- inputs pass, a call whose tolerance is valid, or which passes what was asked before it, has the answer that it had; any other is refused by 8 where
-- it was refused by 11 or by 10. What L10 asks of the trace is left out of the comparison, and joined to it last. Assumes nothing.
use Rattle.std.specs.Prelude.{Err, ◌≡◌, ◌⊎◌}
use Rattle.lists.specs.Prelude.{refl, sym, ap, ◌∙◌, true, List, inl, inr, ℕ, Float}
use Rattle.refusal.specs.Verdict.{pass, Verdict, by, ◌then◌}
use Rattle.refusal.specs.Agreement.{then-agree, then-assoc}
use Rattle.refusal.specs.Checks.{valid_tolerance, finite_work, time_below, real_within}
use Rattle.matrix.specs.declared.DenseMatrix.{DenseMatrix}
use Rattle.matrix.specs.Dense.{entries_of}
use Rattle.block.specs.Block.{Entries}
use Rattle.block.specs.Operations.{product, trace, finite_trace, all_finite}
use Rattle.observables.specs.declared.Observed.{Observed}
use Rattle.observables.specs.declared.Observed.TheVariants.{Refused as NotObserved}
use Rattle.observables.specs.Density.{density_of}
use Rattle.observables.specs.Calls.{observed, lesser_checks, lesser_block_checks, particle_number, one_body_expectation}
use Rattle.amendments.specs.FiniteTrace as FiniteTrace
use Rattle.amendments.specs.FiniteTrace.{number_unasked, expectation_unasked}

-- two questions in either order, where one of them passes
either_order : (a b w : Verdict) → (a ≡ pass) ⊎ (b ≡ pass) → (a then b then w) ≡ (b then a then w)
either_order a b w (inl p) = rw p
either_order a b w (inr p) = rw p

module _ (capacity points n : ℕ) (lesser : List Float) (time : ℕ) (tolerance : Float) where
  abbrev rho : Entries
  rho = density_of capacity n lesser time

  -- ---- "`particle_number`: 11, 8, 14."

  abbrev pub number_before : Observed
  number_before =
      observed (lesser_checks capacity points n lesser then time_below time points then valid_tolerance tolerance then real_within tolerance (trace n rho).im) (trace n rho).re

  pub number-kept : (lesser_checks capacity points n lesser ≡ pass → (valid_tolerance tolerance ≡ pass) ⊎ (time_below time points ≡ pass))
      → number_unasked capacity points n lesser time tolerance ≡ number_before
  number-kept h = ap (λ (v : Verdict). observed v (trace n rho).re) (then-agree _ _ _ _ refl (λ p. either_order _ _ _ (h p)))

  pub number_changed : lesser_checks capacity points n lesser ≡ pass → valid_tolerance tolerance ≡ Err (by 8) → time_below time points ≡ Err (by 11)
      → (particle_number capacity points n lesser time tolerance ≡ NotObserved (by 8)) × (number_before ≡ NotObserved (by 11))
  unfolding particle_number observed
  number_changed l v t = (rw (l, v), rw (l, t))

  -- with a valid tolerance and a finite trace the answer is the one that document 01 first had
  pub number-first : valid_tolerance tolerance ≡ pass → finite_trace n rho ≡ true → particle_number capacity points n lesser time tolerance ≡ number_before
  number-first v e = FiniteTrace.number-kept capacity points n lesser time tolerance (λ l w t. e) ∙ number-kept (λ l. inl v)

  -- ---- "`one_body_expectation`: 11, 10 (the product observable·density), 8, 14."

  module _ (x : DenseMatrix) where
    abbrev made : Entries
    made = product n (entries_of x) rho

    abbrev work : Verdict
    work = finite_work (all_finite n n made)

    abbrev pub expectation_before : Observed
    expectation_before =
        observed (lesser_block_checks capacity points n lesser x then time_below time points then work then valid_tolerance tolerance then real_within tolerance (trace n made).im) (trace n made).re

    pub expectation-kept : (lesser_block_checks capacity points n lesser x ≡ pass → (valid_tolerance tolerance ≡ pass) ⊎ ((time_below time points then work) ≡ pass))
        → expectation_unasked capacity points n lesser time tolerance x ≡ expectation_before
    expectation-kept h =
        ap (λ (v : Verdict). observed v (trace n made).re)
        (then-agree _ _ _ _ refl
        (λ p. ap (λ (v : Verdict). valid_tolerance tolerance then v) (sym (then-assoc (time_below time points) work _))
        ∙ either_order _ (time_below time points then work) _ (h p) ∙ then-assoc (time_below time points) work _))

    pub index_changed : lesser_block_checks capacity points n lesser x ≡ pass → valid_tolerance tolerance ≡ Err (by 8) → time_below time points ≡ Err (by 11)
        → (one_body_expectation capacity points n lesser time x tolerance ≡ NotObserved (by 8)) × (expectation_before ≡ NotObserved (by 11))
    unfolding one_body_expectation observed
    index_changed l v t = (rw (l, v), rw (l, t))

    pub product_changed : lesser_block_checks capacity points n lesser x ≡ pass → valid_tolerance tolerance ≡ Err (by 8) → time_below time points ≡ pass → work ≡ Err (by 10)
        → (one_body_expectation capacity points n lesser time x tolerance ≡ NotObserved (by 8)) × (expectation_before ≡ NotObserved (by 10))
    unfolding one_body_expectation observed
    product_changed l v t w = (rw (l, v), rw (l, t, w))

    pub expectation-first : valid_tolerance tolerance ≡ pass → finite_trace n made ≡ true → one_body_expectation capacity points n lesser time x tolerance ≡ expectation_before
    expectation-first v e = FiniteTrace.expectation-kept capacity points n lesser time tolerance x (λ l w t f. e) ∙ expectation-kept (λ l. inl v)
