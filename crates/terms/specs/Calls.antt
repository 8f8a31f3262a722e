-- What `term_of` and `span_of` answer.
use Rattle.std.specs.Prelude.{◌&&◌, ◌+◌, ◌-◌, ◌*◌}
use Rattle.lists.specs.Prelude.{Bool, cond, List, ℕ, min, leb, ltb, Float}
use Rattle.complex.specs.Arithmetic.{plus_zero}
use Rattle.two_time.specs.declared.sums.Sums.{Sums}
use Rattle.terms.specs.declared.Term.{Term}
use Rattle.terms.specs.declared.Span.{Span}
use Rattle.terms.specs.Kinds.{lanes_below, lanes_above, lanes_here, common_weight, end_weight, first_of, last_of}

-- s is a point, N and n are within the limits of check 2, and the places are at most 16
abbrev pub term_fits : ℕ → ℕ → ℕ → ℕ → Bool
term_fits points n s places = (ltb s points && leb points 256) && (leb n 16 && leb places 16)

-- no lane takes the term
abbrev pub no_lanes : Term
no_lanes = record { common = plus_zero; ends = plus_zero; below = 0; before = 0; after = 0; above = 0; lanes = 0 }

-- `term_of`: how term s of row t goes to the lanes of `places` places from u on, n lanes to a place. Of the places `before` lie before s, and `after` before
-- s + 1; where they differ a place is s, and its lanes, if its sum has s, take the term by the weight at the end of their interval.
unfoldable pub term_of : Sums → List Float → ℕ → ℕ → ℕ → ℕ → ℕ → ℕ → Term
term_of sums times points n t s u places =
    let before = min (s - u) places in
    let after = min (s + 1 - u) places in
    let ended = cond (lanes_here sums t s) after before in
    cond (term_fits points n s places)
    (record {
      common = common_weight sums times points t s;
      ends = cond (ltb before ended) (end_weight sums times points t s) plus_zero;
      below = cond (lanes_below sums) before 0 * n;
      before = before * n;
      after = ended * n;
      above = cond (lanes_above sums) after places * n;
      lanes = places * n;
    })
    no_lanes

-- (t, u), .., (t, u + places − 1) are places, and N is within the limit of check 2
abbrev pub span_fits : ℕ → ℕ → ℕ → ℕ → Bool
span_fits points t u places = leb (u + places) points && (ltb t points && leb points 256)

-- `span_of`: which s they have together; none where they are not there
unfoldable pub span_of : Sums → ℕ → ℕ → ℕ → ℕ → Span
span_of sums points t u places = cond (span_fits points t u places) (record { first = first_of sums t u; last = last_of sums points t u places }) (record { first = 0; last = 0 })
