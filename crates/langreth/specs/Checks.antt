-- Checks 1 to 7 of two groups of slices, one after the other. Assumes nothing.
use Rattle.std.specs.Prelude.{◌≡◌, ◌&&◌, ◌∷◌, ◌++◌, ◌+◌}
use Rattle.lists.specs.Prelude.{refl, ap, ap₂, ◌∙◌, Bool, true, false, and_assoc, List, [], ℕ, suc, zero-add, suc-add, add-suc, leb, eqb, length, Float}
use Rattle.refusal.specs.Verdict.{Verdict, ◌then◌}
use Rattle.refusal.specs.Checks.{finite_entries}
use Rattle.refusal.specs.Agreement.{then-assoc}
use Rattle.two_time.specs.Layout.{length_of}
use Rattle.two_time.specs.Calls.{all_long, all_fit, operand_checks}

both_long : (count : ℕ) (xs ys : List (List Float)) → all_long count xs && all_long count ys ≡ all_long count (xs ++ ys)
unfolding all_long
both_long count [] ys = refl
both_long count (x ∷ xs) ys = and_assoc (eqb (length x) count) (all_long count xs) (all_long count ys) ∙ ap (λ (b : Bool). eqb (length x) count && b) (both_long count xs ys)

pub fits-append : (points n : ℕ) (xs ys : List (List Float)) (b c : Bool) → b ≡ all_fit points n xs → c ≡ all_fit points n ys → b && c ≡ all_fit points n (xs ++ ys)
unfolding all_fit
fits-append points n xs ys b c e h =
    let limits = leb points 256 && leb n 16 in
    let count = length_of points n in
    ap₂ ◌&&◌ e h ∙ once limits (all_long count xs) (all_long count ys) ∙ ap (λ (long : Bool). limits && long) (both_long count xs ys)
  where
    once : (l x y : Bool) → (l && x) && (l && y) ≡ l && (x && y)
    once true x y = refl
    once false x y = refl

pub operands-append : (k : ℕ) (xs ys : List (List Float)) → (operand_checks k xs then operand_checks (length xs + k) ys) ≡ operand_checks k (xs ++ ys)
unfolding operand_checks
operands-append k [] ys = rw zero-add
operands-append k (x ∷ xs) ys = then-assoc (finite_entries k x (length x)) (operand_checks (suc k) xs) _ ∙ ap (λ (v : Verdict). finite_entries k x (length x) then v) (rw (suc-add, ← add-suc) (operands-append (suc k) xs ys))
