-- What the integers' check of a guess says, and what it settles: the rounded root, and the norm's bits.
use Rattle.std.specs.Prelude.{◌⊎◌, ◌≡◌, ◌+◌, ◌-◌, ◌*◌, ◌/◌, ◌^◌, ◌≤◌, ◌<◌}
use Rattle.lists.specs.Prelude.{ℕ, binary64, of_bits}
use Rattle.norm.specs.Norm.{rounded_root}

-- the root of sum lies strictly between the middles of the steps below and above m, where h is half a step
abbrev pub Between : ℕ → ℕ → ℕ → Type 0
Between sum m h = ((2 * m - 1) * h * ((2 * m - 1) * h) < sum) × (sum < (2 * m + 1) * h * ((2 * m + 1) * h))

-- the sum of the squares of 2·qa and 2·qb, the first gap shifts above, in the units of the second; and its whole part in those of the first
abbrev pub squares : ℕ → ℕ → ℕ → ℕ
squares qa qb gap = 2 * qa * (2 * qa) * 4 ^ gap + 2 * qb * (2 * qb)

abbrev pub whole_squares : ℕ → ℕ → ℕ → ℕ
whole_squares qa qb gap = 2 * qa * (2 * qa) + 2 * qb * (2 * qb) / 4 ^ gap

-- counted in steps of 2^44·4^more, sum has t and less than two more
abbrev pub Covers : ℕ → ℕ → ℕ → Type 0
Covers t sum more = (t * (2 ^ 44 * 4 ^ more) ≤ sum) × (sum < (t + 2) * (2 ^ 44 * 4 ^ more))

-- the larger part's significand has its leading digit; or neither part is shifted, and it is the larger significand
abbrev pub Ranked : ℕ → ℕ → ℕ → Type 0
Ranked qa qb shift = (2 ^ 52 ≤ qa) ⊎ ((shift ≡ 0) × (0 < qa) × (qb ≤ qa))

-- the bits r are the norm's, for significands qa and qb that are gap shifts apart, the larger shifted by `shift`
pub record Settles (qa qb gap shift r : ℕ) : Type 0 where
  pub most : r ≤ 2047 * 2 ^ 52
  pub value : (n u : ℕ) → gap + u ≡ shift → squares qa qb gap * 4 ^ u ≡ 4 * n → of_bits binary64 r ≡ rounded_root n
