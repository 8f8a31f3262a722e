-- Two sums whose terms agree are finite together. Assumes nothing.
use Rattle.std.specs.Prelude.{◌≡◌, ◌<◌}
use Rattle.lists.specs.Prelude.{sym, ◌∙◌, ℕ}
use Rattle.two_time.specs.WeightedSum.{Terms, finite_sum}
use Rattle.two_time.specs.OneTest.{one_test}
use Rattle.two_time.specs.Agreement.{AgreeTerms, weighted_agree}

pub finite_agree : (n : ℕ) (x y : Terms) → AgreeTerms n x y → (a b : ℕ) → a < n → b < n → finite_sum n x a b ≡ finite_sum n y a b
finite_agree n x y h a b ha hb = one_test n x a b ∙ rw (weighted_agree n x y h a b ha hb, h.count) (sym (one_test n y a b))
