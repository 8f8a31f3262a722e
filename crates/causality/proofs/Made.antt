-- What two calls that agree up to an index make agrees up to it. Assumes nothing.
use Rattle.std.specs.Prelude.{◌&&◌, ◌≡◌, ◌-◌, ◌≤◌, ◌<◌}
use Rattle.lists.specs.Prelude.{sym, ap₂, ◌∙◌, true, ℕ, dec_lt, arith}
use Rattle.lists.specs.Indexed.{all_below}
use Rattle.two_time.specs.WeightedSum.{finite_sum}
use Rattle.two_time.specs.Relation.{Equal, equal-kept}
use Rattle.two_time.specs.FiniteAgreement.{finite_agree}
use Rattle.two_time.specs.Started.{SameStart}
use Rattle.transient_run.specs.Calls.{Run, retarded_made, lesser_start}
use Rattle.causality.specs.Statement.{of, SameTo}
use Rattle.causality.specs.Stages.{RowsTo, SquareTo}
use Rattle.causality.specs.Made.{with_orbitals, call_retarded, retarded_terms, call_lesser, RelatedTo, HeldTo, MadeTo, kernel_terms_lem, rows-related, retarded_terms_lem, retardeds-related, lesser_advanced_terms_lem, lesser_terms_lem, lesser-related, made-related, Fine}

module _ (k old points points' : ℕ) (r r₀ : Run) (hk : k < points) (room : points ≤ r.capacity) (hk' : k < points') (room' : points' ≤ r₀.capacity)
    (same : SameTo k r (with_orbitals r₀ r.orbitals)) (held : HeldTo k old points' r (with_orbitals r₀ r.orbitals)) where
  abbrev m : ℕ
  m = r.orbitals

  abbrev s' : Run
  s' = with_orbitals r₀ m

  equal : RelatedTo Equal k r s'
  equal = record { times = same.times; free = same.free; self_energy = same.self_energy; lesser_self_energy = same.lesser_self_energy }

  pub retarded-rows : RowsTo m k (call_retarded old points r) (call_retarded 0 points' s')
  retarded-rows = rows-related Equal k old points points' r r₀ (equal-kept m) hk room hk' room' equal held

  pub retardeds : SquareTo m k (of r (retarded_made old points r)) (of s' (retarded_made 0 points' s'))
  retardeds = retardeds-related Equal k old points points' r r₀ (equal-kept m) hk room hk' room' equal held

  -- above the diagonal G^R has no term
  retarded-fine : (t u a b : ℕ) → t ≤ k → a < m → b < m → Fine old points r t u a b → finite_sum m (retarded_terms 0 points' s' t u) a b ≡ true
  unfolding finite_sum all_below
  retarded-fine t u a b ht ha hb f =
      elim (dec_lt t u) [
        | yes less ↦ rw (let none : t - u ≡ 0 = omega arith in none)
        | no l ↦ sym (finite_agree m _ _ (retarded_terms_lem Equal k old points points' r r₀ (equal-kept m) hk room hk' room' equal held t u ht (omega arith)) a b ha hb) ∙ f.retarded
      ]

  -- where G^< starts from the same
  module _ (starts : (t u : ℕ) → t ≤ k → u ≤ k → SameStart m (lesser_start old points r) (lesser_start 0 points' s') t u) where
    pub lesser-square : SquareTo m k (call_lesser old points r) (call_lesser 0 points' s')
    lesser-square = lesser-related Equal k old points points' r r₀ (equal-kept m) hk room hk' room' equal held (λ t u ht hu. (starts t u ht hu).block)

    pub made_agree : MadeTo k old points points' r s'
    made_agree = made-related Equal k old points points' r r₀ (equal-kept m) hk room hk' room' equal held (λ t u ht hu. (starts t u ht hu).block)

    pub fine_agree : (t u a b : ℕ) → t ≤ k → u ≤ k → a < m → b < m → Fine old points r t u a b → Fine 0 points' s' t u a b
    fine_agree t u a b ht hu ha hb f =
        record {
          kernel = sym (finite_agree m _ _ (kernel_terms_lem Equal k old points points' r r₀ (equal-kept m) hk room hk' room' equal held t u ht) a b ha hb) ∙ f.kernel;
          retarded = retarded-fine t u a b ht ha hb f;
          lesser_advanced =
              sym (finite_agree m _ _ (lesser_advanced_terms_lem Equal k old points points' r r₀ (equal-kept m) hk room hk' room' equal held t u ht hu) a b ha hb) ∙ f.lesser_advanced;
          lesser =
              sym (ap₂ ◌&&◌ ((starts t u ht hu).finite a b ha hb)
              (finite_agree m _ _ (lesser_terms_lem Equal k old points points' r r₀ (equal-kept m) hk room hk' room' equal held (λ v w hv hw. (starts v w hv hw).block) t u ht hu) a b ha hb))
              ∙ f.lesser;
        }
