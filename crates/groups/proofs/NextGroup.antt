-- What the loops over the groups of a run share. Assumes nothing.
use Rattle.std.specs.Prelude.{◌≡◌, ◌-◌, ◌*◌, ◌≤◌, ◌<◌}
use Rattle.lists.specs.Prelude.{ℕ, arith}
use Rattle.groups.specs.Runs.{FitsRun, Next, group_places, places_fit, next}

-- what the tests at the start found
pub sized : (n from count long : ℕ) → (n ≡ 0 → ⊥) → n ≤ 16 → from ≤ 256 → count ≤ 256 - from → long ≡ count * (2 * (n * n)) → FitsRun n from count long
sized n from count long some few l inside whole = record { some = omega arith; few = few; inside = omega arith; whole = whole }

-- the next group, once a group is left
pub group_left : (n from count p m len : ℕ) → FitsRun n from count len → p < count → m ≡ group_places (count - p) n → Next n count p m len × (0 < m)
group_left n from count p m len s h e =
    let places = places_fit (count - p) n m (omega (arith, h)) s.some s.few e in
    (next n from count p m len s h places.1, places.0)
