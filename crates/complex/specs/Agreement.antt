-- Two sums whose terms agree agree, and one more term of a sum. Assumes nothing.
use Rattle.std.specs.Prelude.{◌≡◌, ◌+◌, ◌<◌}
use Rattle.lists.specs.Prelude.{refl, ◌∙◌, ℕ, zero-add}
use Rattle.lists.specs.Indexed.{fold}
use Rattle.lists.specs.Agreement.{fold_agree}
use Rattle.lists.specs.Steps.{fold_more}
use Rattle.complex.specs.declared.Complex.{Complex}
use Rattle.complex.specs.Arithmetic.{cadd}
use Rattle.complex.specs.Sum.{sum_from}

pub sum_agree : (s s' : Complex) (f g : ℕ → Complex) (from count : ℕ) → s ≡ s' → ((k : ℕ) → k < count → f (from + k) ≡ g (from + k))
    → sum_from s f from count ≡ sum_from s' g from count
unfolding sum_from
sum_agree s s' f g from count e h =
    fold_agree count _ _ s s' e (λ k l z. rw (h k l))

-- one more term, at the code's `k + 1`, of a sum from 0; and no term
pub sum_more : (s : Complex) (f : ℕ → Complex) (k : ℕ) → sum_from s f 0 (k + 1) ≡ cadd (sum_from s f 0 k) (f k)
unfolding sum_from
sum_more s f k = fold_more k (λ m z. cadd z (f (0 + m))) s ∙ rw zero-add

pub sum-none : (s : Complex) (f : ℕ → Complex) (from : ℕ) → sum_from s f from 0 ≡ s
unfolding sum_from fold
sum-none s f from = refl
