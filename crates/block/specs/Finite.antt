-- Where a trace is finite, so is every sum on the way to it: check 10 may ask the last alone. Assumes nothing.
use Rattle.std.specs.Prelude.{◌≡◌, ◌+◌}
use Rattle.lists.specs.Prelude.{sym, ap, subst, ◌∙◌, true, ℕ, zero, suc, arith}
use Rattle.complex.specs.Arithmetic.{czero, cfinite}
use Rattle.complex.specs.Finite.{cadd-finite}
use Rattle.complex.specs.Agreement.{sum_more}
use Rattle.block.specs.Block.{Entries}
use Rattle.block.specs.Operations.{trace}

-- the sum of the first n entries, with k more to come
pub finite_before_lem : (k n : ℕ) (x : Entries) → cfinite (trace (n + k) x) ≡ true → cfinite (trace n x) ≡ true
unfolding trace
finite_before_lem zero n x h = subst (λ (m : ℕ). cfinite (trace m x) ≡ true) (omega arith) h
finite_before_lem (suc k) n x h =
    let last : n + suc k ≡ (n + k) + 1 = omega arith in
    finite_before_lem k n x
    (cadd-finite (trace (n + k) x) (x (n + k) (n + k)) (sym (ap cfinite (ap (λ (m : ℕ). trace m x) last ∙ sum_more czero (λ i. x i i) (n + k))) ∙ h)).0
