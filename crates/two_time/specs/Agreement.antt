-- One lemma over n, the points and the interval, which serves every sum over times: two weighted sums whose terms agree in the interval agree. It is the law
-- of Relation.antt for equality. Assumes nothing.
use Rattle.lists.specs.Prelude.{ℕ}
use Rattle.block.specs.Agreement.{Agree}
use Rattle.two_time.specs.WeightedSum.{Terms, weighted_sum}
use Rattle.two_time.specs.Relation.{Equal, RelatedTerms, equal-kept, weighted_related}

-- two sums over one interval, whose starts, weights and factors agree
abbrev pub AgreeTerms : ℕ → Terms → Terms → Type 0
AgreeTerms n = RelatedTerms n Equal

pub weighted_agree : (n : ℕ) (x y : Terms) → AgreeTerms n x y → Agree n (weighted_sum n x) (weighted_sum n y)
weighted_agree n x y h = weighted_related n Equal (equal-kept n) x y h
