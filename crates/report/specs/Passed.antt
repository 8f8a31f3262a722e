-- What it says of the components that the report's checks pass, and the mirror of a place. Assumes nothing.
use Rattle.refusal.specs.Verdict.{pass}
use Rattle.std.specs.Prelude.{◌≡◌, ◌≤◌}
use Rattle.lists.specs.Prelude.{true, List, ℕ, length, Float}
use Rattle.refusal.specs.Agreement.{then-pass}
use Rattle.two_time.specs.Layout.{length_of}
use Rattle.two_time.specs.Places.{Placed}
use Rattle.two_time.specs.SizeChecks.{sizes-passed, long-first}
use Rattle.report.specs.Calls.{report_checks}

module _ (points orbitals : ℕ) (retarded advanced lesser greater : List Float) where
  pub record Passed : Type 0 where
    pub points-most : points ≤ 256
    pub orbitals-most : orbitals ≤ 16
    pub retarded-long : length retarded ≡ length_of points orbitals
    pub advanced-long : length advanced ≡ length_of points orbitals
    pub lesser-long : length lesser ≡ length_of points orbitals
    pub greater-long : length greater ≡ length_of points orbitals

  pub passed : report_checks points orbitals retarded advanced lesser greater ≡ pass → Passed
  passed p =
      let z = sizes-passed points orbitals true _ (then-pass _ _ p).0 in
      let r = long-first (length_of points orbitals) retarded _ z.long in
      let a = long-first (length_of points orbitals) advanced _ r.1 in
      let l = long-first (length_of points orbitals) lesser _ a.1 in
      let g = long-first (length_of points orbitals) greater _ l.1 in
      record { points-most = z.points-most; orbitals-most = z.orbitals-most; retarded-long = r.0; advanced-long = a.0; lesser-long = l.0; greater-long = g.0 }

-- entry (b, a) of block (u, t)
pub mirrored : {points orbitals t u a b : ℕ} → Placed points orbitals t u a b → Placed points orbitals u t b a
mirrored p = record { first = p.second; second = p.first; row = p.column; column = p.row; stride_most = p.stride_most; orbitals-most = p.orbitals-most }
