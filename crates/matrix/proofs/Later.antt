-- A test of the numbers from i on, as an iterator's `all` makes it: a test of all below n that asks nothing of those below i. Assumes nothing.
use Rattle.std.specs.Prelude.{◌≡◌, ◌||◌, ◌&&◌, ◌+◌, ◌-◌, ◌≤◌}
use Rattle.std.specs.List.{list_all, range_with_len}
use Rattle.lists.specs.Prelude.{refl, sym, ap, ◌∙◌, Bool, ℕ, zero, suc, add-zero, ltb, lt-ltb, le-ltb, arith}
use Rattle.lists.specs.Indexed.{all_below}
use Rattle.lists.specs.Steps.{all-add}
use Rattle.lists.specs.Agreement.{all_agree, each_all}

from : (p : ℕ → Bool) (i n : ℕ) → list_all p (range_with_len i n) ≡ all_below n (λ k. p (i + k))
unfolding all_below
from p i zero = refl
from p i (suc n) =
    let q : ℕ → Bool = λ k. p (i + k) in
    let first : ◌≡◌ {A = ℕ} (suc n) (1 + n) = omega arith in
    sym
    (ap (λ (m : ℕ). all_below m q) first ∙ all-add 1 n q
    ∙ rw (add-zero, from p (i + 1) n, all_agree n (λ k. p (i + (1 + k))) (λ k. p (i + 1 + k)) (λ k l. ap p (omega arith))))

pub all-later : (p : ℕ → Bool) (i n : ℕ) → i ≤ n → list_all p (range_with_len i (n - i)) ≡ all_below n (λ k. ltb k i || p k)
all-later p i n h =
    let q : ℕ → Bool = λ k. ltb k i || p k in
    let whole : i + (n - i) ≡ n = omega arith in
    from p i (n - i)
    ∙ all_agree (n - i) (λ k. p (i + k)) (λ k. q (i + k)) (λ k l. rw (le-ltb (i + k) i (omega arith)) refl)
    ∙ sym (ap (λ (m : ℕ). all_below m q) (sym whole) ∙ all-add i (n - i) q ∙ ap (λ (b : Bool). b && all_below (n - i) (λ k. q (i + k))) (each_all i q (λ k l. rw (lt-ltb k i l) refl)))
