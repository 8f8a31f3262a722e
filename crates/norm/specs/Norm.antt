-- Document 01, "Arithmetic under everything", the norm: "For finite parts of size a·u and b·u, a and b whole, u = 2^-1074, the norm is the
-- binary64 nearest to u times the square root of a² + b², ties to the even significand, and +infinity from (2^54 − 1)·2^970 upward."
use Rattle.std.specs.Prelude.{◌+◌, ◌-◌, ◌*◌, ◌/◌, ◌^◌}
use Rattle.lists.specs.Prelude.{ℕ, zero, suc, compare, false, cond, leb, ℤ, Float, nan, inf, fin, binary64, low, prec, up, down, nearest, units}
use Rattle.std.specs.Float.Ieee as Ieee

-- the size of m·2^e in units of u = 2^-1074
abbrev pub in_units : ℕ → ℤ → ℕ
in_units m e = m * up e * 2 ^ low binary64 / down e

-- the whole part of the square root of an n below 4^digits, by its binary digits: twice the root of n / 4, or one more
unfoldable pub root_of : ℕ → ℕ → ℕ
root_of zero n = 0
root_of (suc digits) n = let r = 2 * root_of digits (n / 4) in cond (leb ((r + 1) * (r + 1)) n) (r + 1) r

unfoldable pub root : ℕ → ℕ
unfolding root_of Ieee.size
root n = root_of (Ieee.size n) n

-- The binary64 nearest to the square root of n units. It is q·2^k units or the next multiple of 2^k, where q has the root's 53 leading
-- digits: by how the root compares with the middle of the two, (2·q + 1)·2^k / 2, both sides doubled and squared; at a tie the even one.
-- From 2^1024 on, which (2^54 − 1)·2^970 is the least root to round to, it is +infinity.
unfoldable pub rounded_root : ℕ → Float
unfolding root units Ieee.size
rounded_root n =
    let k = Ieee.size (root n) - prec binary64 in
    let q = root n / 2 ^ k in
    units binary64 false (nearest q (compare (4 * n) (((2 * q + 1) * 2 ^ k) ^ 2))) k

-- "An infinite part gives +infinity; otherwise a NaN part gives NaN."
unfoldable pub norm : Float → Float → Float
unfolding rounded_root
norm nan nan = nan
norm nan (inf t) = inf false
norm nan (fin t n d) = nan
norm (inf s) y = inf false
norm (fin s m e) nan = nan
norm (fin s m e) (inf t) = inf false
norm (fin s m e) (fin t n d) = rounded_root (in_units m e ^ 2 + in_units n d ^ 2)
