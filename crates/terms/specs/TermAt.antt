-- What `term_of` answers within the limits, field by field, and how large its ranges are. Assumes nothing.
use Rattle.std.specs.Prelude.{◌≡◌, ◌+◌, ◌-◌, ◌*◌, ◌≤◌, ◌<◌}
use Rattle.lists.specs.Prelude.{refl, Bool, true, false, cond, List, ℕ, min, arith, ltb, Float, le-leb, lt-ltb}
use Rattle.complex.specs.Arithmetic.{plus_zero}
use Rattle.two_time.specs.declared.sums.Sums.{Sums}
use Rattle.terms.specs.declared.Term.{Term}
use Rattle.terms.specs.Kinds.{lanes_below, lanes_above, lanes_here, common_weight, end_weight}
use Rattle.terms.specs.Calls.{term_fits, term_of}

-- how term s of row t goes to the lanes of `places` places from u on, n lanes to a place
pub record TermAt (sums : Sums) (times : List Float) (points n t s u places : ℕ) (term : Term) : Type 0 where
  pub common : term.common ≡ common_weight sums times points t s
  pub ends : min (s - u) places < cond (lanes_here sums t s) (min (s + 1 - u) places) (min (s - u) places) → term.ends ≡ end_weight sums times points t s
  pub below : term.below ≡ cond (lanes_below sums) (min (s - u) places) 0 * n
  pub before : term.before ≡ min (s - u) places * n
  pub after : term.after ≡ cond (lanes_here sums t s) (min (s + 1 - u) places) (min (s - u) places) * n
  pub above : term.above ≡ cond (lanes_above sums) (min (s + 1 - u) places) places * n
  pub lanes : term.lanes ≡ places * n

pub term_at_lem : (sums : Sums) (times : List Float) (points n t s u places : ℕ) (term : Term) → s < points → points ≤ 256 → n ≤ 16 → places ≤ 16
    → term ≡ term_of sums times points n t s u places → TermAt sums times points n t s u places term
unfolding term_of
term_at_lem sums times points n t s u places term hs hp hn hk e =
    rw (e, lt-ltb _ _ hs, le-leb _ _ hp, le-leb _ _ hn, le-leb _ _ hk)
    (record { common = refl; ends = λ h. rw (lt-ltb _ _ h); below = refl; before = refl; after = refl; above = refl; lanes = refl })

-- that answer, from what the call makes on the way
pub term_made : (sums : Sums) (times : List Float) (points n t s u places : ℕ) {before after ended below above : ℕ} {common ends : Float} → term_fits points n s places ≡ true
    → before ≡ min (s - u) places → after ≡ min (s + 1 - u) places → ended ≡ cond (lanes_here sums t s) after before → common ≡ common_weight sums times points t s
    → ends ≡ cond (ltb before ended) (end_weight sums times points t s) plus_zero
    → below ≡ cond (lanes_below sums) before 0 → above ≡ cond (lanes_above sums) after places
    → record { common = common; ends = ends; below = below * n; before = before * n; after = ended * n; above = above * n; lanes = places * n } ≡ term_of sums times points n t s u places
unfolding term_of
term_made sums times points n t s u places fits eb ea ed ec ee el eu = rw (fits, ec, ee, el, eu, ed, eb, ea)

-- the ranges end where they may
pub cond-between : (f : Bool) (x y : ℕ) → x ≤ y → (x ≤ cond f y x) × (cond f y x ≤ y)
cond-between true x y h = (h, omega arith)
cond-between false x y h = (omega arith, h)

pub cond-most : (f : Bool) (x : ℕ) → cond f x 0 ≤ x
cond-most true x = omega arith
cond-most false x = omega arith

pub cond-least : (f : Bool) (x y : ℕ) → x ≤ y → (x ≤ cond f x y) × (cond f x y ≤ y)
cond-least true x y h = (omega arith, h)
cond-least false x y h = (h, omega arith)
