-- A term goes to the rows of a group: lane c of row a takes the product of row a of the left factor and column c of the right one by the lane's weight.
use Rattle.std.specs.Prelude.{◌+◌, ◌*◌, ◌&&◌, ◌||◌}
use Rattle.lists.specs.Prelude.{ℕ, Bool, cond, List, leb, ltb, eqb, length, Float}
use Rattle.complex.specs.declared.Complex.{Complex}
use Rattle.complex.specs.Arithmetic.{czero, real, cadd, cmul}
use Rattle.complex.specs.Numbers.{entry_at}
use Rattle.complex.specs.Sum.{sum_from}
use Rattle.lanes.specs.Lanes.{lane_at, with_lanes}
use Rattle.terms.specs.declared.Term.{Term}

-- the total z of lane c after a term whose product is p
unfoldable pub stepped : Term → ℕ → Complex → Complex → Complex
stepped term c p z =
    cond (ltb c term.below || leb term.above c) (cadd z (cmul p (real term.common)))
    (cond (leb term.before c && ltb c term.after) (cadd z (cmul p (real term.ends))) z)

-- lane c of row a of a product: the left factor stands at i, the rows of the right one are packed
abbrev pub packed_product : ℕ → List Float → ℕ → List Float → ℕ → ℕ → Complex
packed_product n left i rows a c = sum_from czero (λ k. cmul (entry_at left (i + a * (2 * n) + 2 * k)) (lane_at rows k c)) 0 n

-- the ranges of a term follow each other, within sixteen lanes
unfoldable pub is_ranged : Term → Bool
is_ranged term =
    (leb term.below term.before && leb term.before term.after)
    && (leb term.after term.above && (leb term.above term.lanes && leb term.lanes 16))

-- a block of at most 16 orbitals, from i on, lies in the left factor, which is no longer than one of 256 points and 16 orbitals
unfoldable pub has_block : List Float → ℕ → ℕ → Bool
has_block left i n = leb n 16 && (leb (length left) 33554432 && leb (i + 2 * (n * n)) (length left))

-- `add_packed`: what fits, and the totals afterwards
unfoldable pub packed_fits : List Float → ℕ → ℕ → List Float → Term → List Float → Bool
packed_fits left i n rows term totals = is_ranged term && (has_block left i n && (eqb (length rows) 512 && eqb (length totals) 512))

unfoldable pub packed_totals : List Float → ℕ → ℕ → List Float → Term → List Float → List Float
packed_totals left i n rows term totals =
    cond (packed_fits left i n rows term totals) (with_lanes n term.lanes (λ a c. stepped term c (packed_product n left i rows a c) (lane_at totals a c)) totals) totals
