-- A number past the end is not finite.
use Rattle.std.proofs.Common.{◌≡◌, ◌+◌, ◌-◌, ◌<◌, ◌≤◌, ℕ, min, max}
use Rattle.lists.specs.Prelude.{dec_lt, false, List, get_or, nan, length, take, drop, Float, arith, sym, ap, ◌∙◌, length-take, length-drop, get_or-take, get_or-drop}
use Rattle.complex.specs.Arithmetic.{finite}
use Rattle.refusal.specs.Search.{Prefix, past-finite}
use Rattle.refusal.proofs.checks.finite_prefix.Goals as goal

-- of a part of a list and of the list from there on
part : (xs : List Float) (start count from end r : ℕ) → from ≡ min start (length xs) → end ≡ from + min count (length xs - from)
    → Prefix (λ i. finite (get_or (take (end - from) (drop from xs)) i nan)) (length (take (end - from) (drop from xs))) r
    → (r + start ≤ max start (length xs)) × Prefix (λ i. finite (get_or xs (i + start) nan)) count r
part xs start count from end r a b p =
    let long : length (take (end - from) (drop from xs)) ≡ end - from = omega (arith, length-take (end - from) (drop from xs), length-drop from xs) in
    let within : r ≤ end - from = omega (arith, p.within) in (
      omega arith,
      record {
        within = omega arith;
        passed = λ k l. same k (omega arith) ∙ p.passed k l;
        ended = λ l. last l (dec_lt r (end - from));
      },
    )
  where
    same : (k : ℕ) → k < end - from → finite (get_or xs (k + start) nan) ≡ finite (get_or (take (end - from) (drop from xs)) k nan)
    same k l = ap finite (sym (get_or-take (end - from) (drop from xs) k nan l ∙ get_or-drop from xs k nan ∙ ap (λ (i : ℕ). get_or xs i nan) (omega arith)))

    last : r < count → Dec (r < end - from) → finite (get_or xs (r + start) nan) ≡ false
    last l (yes h) = same r h ∙ p.ended (omega (arith, length-take (end - from) (drop from xs), length-drop from xs))
    last l (no h) = past-finite xs (r + start) (omega (arith, p.within, length-take (end - from) (drop from xs), length-drop from xs))

pub returns : goal.returns
returns c = part c.args.xs.now c.args.start c.args.count c.min-from.result _ _ c.min-from.ensures (ap (λ (n : ℕ). c.min-from.result + n) c.min.ensures) c.finite_before.ensures
