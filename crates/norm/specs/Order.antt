-- The order of norms: a larger sum of squares never gives a smaller norm, and from (2^54 − 1)·2^970 on, which is (2^54 − 1)·2^2044 units,
-- it gives +infinity, below that a number. Both follow from nearness alone. Assumes nothing.
use Rattle.std.specs.Prelude.{◌≡◌, ◌+◌, ◌-◌, ◌*◌, ◌^◌, ◌≤◌, ◌<◌}
use Rattle.lists.specs.Prelude.{refl, sym, ap, false, ℕ, le_refl, le_trans, le_of_eq, lt_of_lt_of_le, lt_of_not-le, not-le_of_lt}
use Rattle.lists.specs.Prelude.{add-le-add, le_of_mul-le-mul_left, mul-le-mul_right, dec_le, arith, T, lit<, lit≤, pow_pos, Float, nan, inf, fin, le}
use Rattle.std.specs.Float.Ieee as Ieee
use Rattle.std.specs.Float.Ieee.Exact.{HasValue}
use Rattle.std.specs.Float.Ieee.Order.{le_of_values}
use Rattle.norm.specs.Norm.{root, rounded_root}
use Rattle.norm.specs.Squares.{square_le}
use Rattle.norm.specs.Nearest.{rounded_size, no_nearer}
use Rattle.norm.specs.Value.{rounded_representable, rounded-value, rounded-infinite}

-- Were the larger sum's size w' below the smaller sum's w, each would be as near as the other to both roots, and the sums equal.
pub size-ordered : (n n' : ℕ) → n ≤ n' → rounded_size n ≤ rounded_size n'
size-ordered n n' h = go (dec_le w w')
  where
    w : ℕ
    w = rounded_size n

    w' : ℕ
    w' = rounded_size n'

    equal : w' < w → n ≡ n'
    equal l = squeezed w w' ((no_nearer n w' (rounded_representable n')).0 l) ((no_nearer n' w (rounded_representable n)).1 l)
      where
        squeezed : (w w' : ℕ) → (w + w') * (w + w') ≤ 4 * n → 4 * n' ≤ (w' + w) * (w' + w) → n ≡ n'
        squeezed w w' a b = omega arith

    go : Dec (w ≤ w') → w ≤ w'
    go (yes l) = l
    go (no l) = le_of_eq (ap rounded_size (equal (lt_of_not-le l)))

below-infinity : (x : Float) (a c : ℕ) → HasValue x false a c → T (le x (inf false))
unfolding le
below-infinity nan a c h = absurd h
below-infinity (inf s) a c h = absurd h
below-infinity (fin s m e) a c h = tt

infinity-itself : T (le (inf false) (inf false))
unfolding le
infinity-itself = tt

pub ordered : (n n' : ℕ) → n ≤ n' → T (le (rounded_root n) (rounded_root n'))
ordered n n' h = go (dec_le top (rounded_size n')) (dec_le top (rounded_size n))
  where
    top : ℕ
    top = 2 ^ 2098

    go : Dec (top ≤ rounded_size n') → Dec (top ≤ rounded_size n) → T (le (rounded_root n) (rounded_root n'))
    go (yes p) (yes q) = rw (rounded-infinite n q, rounded-infinite n' p) infinity-itself
    go (yes p) (no q) = rw (rounded-infinite n' p) (below-infinity (rounded_root n) (rounded_size n) (2 ^ 1074) (rounded-value n (lt_of_not-le q)))
    go (no p) (yes q) = absurd (not-le_of_lt (lt_of_not-le p) (le_trans q (size-ordered n n' h)))
    go (no p) (no q) =
        le_of_values (rounded_root n) (rounded_root n') (rounded_size n) (2 ^ 1074) (rounded_size n') (2 ^ 1074) (pow_pos 1074) (pow_pos 1074)
        (rounded-value n (lt_of_not-le q)) (rounded-value n' (lt_of_not-le p)) (mul-le-mul_right (2 ^ 1074) (size-ordered n n' h))

-- ---- the threshold

abbrev pub threshold : ℕ
threshold = (2 ^ 54 - 1) * 2 ^ 2044

at-threshold : rounded_size (threshold * threshold) ≡ 2 ^ 2098
unfolding root Ieee.size
at-threshold = refl

pub infinite-from : (n : ℕ) → threshold * threshold ≤ n → rounded_root n ≡ inf false
infinite-from n h = rounded-infinite n (le_trans (le_of_eq (sym at-threshold)) (size-ordered (threshold * threshold) n h))

-- were it 2^1024 or more, the largest number would be no nearer, and the root not below the middle of the two
pub number-below : (n : ℕ) → n < threshold * threshold → HasValue (rounded_root n) false (rounded_size n) (2 ^ 1074)
number-below n h = rounded-value n (lt_of_not-le (λ (g : 2 ^ 2098 ≤ rounded_size n). not-le_of_lt h (le_of_mul-le-mul_left (square g) (lit< {m = 0} {n = 4} tt))))
  where
    largest : ℕ
    largest = (2 ^ 53 - 1) * 2 ^ 2045

    square : 2 ^ 2098 ≤ rounded_size n → 4 * (threshold * threshold) ≤ 4 * n
    square g =
        le_trans (square_le (le_trans (lit≤ {m = 2 * threshold} {n = 2 ^ 2098 + (2 ^ 53 - 1) * 2 ^ 2045} tt) (add-le-add g (le_refl largest))))
        ((no_nearer n largest (record { digits = 2 ^ 53 - 1; step = 2045; short = lit< tt; value = refl })).0 (lt_of_lt_of_le (lit< {m = (2 ^ 53 - 1) * 2 ^ 2045} {n = 2 ^ 2098} tt) g))
