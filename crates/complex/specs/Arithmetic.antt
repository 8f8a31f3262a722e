-- Document 01, "Arithmetic under everything". A complex number is one value of two binary64 parts, and every + − × is one
-- binary64 operation, rounded once, ties to even. -0 and +0 differ and there is one NaN, so two equal values agree in bits.
use Rattle.std.specs.Prelude.{◌&&◌, ◌||◌}
use Rattle.lists.specs.Prelude.{Bool, true, false, cond, Float, nan, inf, fin, binary64}
use Rattle.std.specs.Float.Ieee as Ieee
use Rattle.complex.specs.declared.Complex.{Complex}

-- ---- one binary64 operation

abbrev pub add : Float → Float → Float
add = Ieee.add binary64

abbrev pub sub : Float → Float → Float
sub = Ieee.sub binary64

abbrev pub mul : Float → Float → Float
mul = Ieee.mul binary64

abbrev pub div : Float → Float → Float
div = Ieee.div binary64

-- +0, which all that is cleared holds, and 1
abbrev pub plus_zero : Float
plus_zero = Ieee.of_bits binary64 0

abbrev pub one : Float
one = Ieee.of_bits binary64 0x3ff0_0000_0000_0000

-- neither an infinity nor a NaN
unfoldable pub finite : Float → Bool
finite nan = false
finite (inf s) = false
finite (fin s m e) = true

-- the size of a part: the sign is cleared
unfoldable pub size : Float → Float
size nan = nan
size (inf s) = inf false
size (fin s m e) = fin false m e

-- `f64::max`: of a number and a NaN it is the number. (Of -0 and +0 it is the first; no call compares a -0.)
unfoldable pub larger : Float → Float → Float
larger x y = cond (Ieee.ne x x || Ieee.lt x y) y x

-- ---- complex numbers

-- "The complex constants zero, one and minus i have names"
abbrev pub czero : Complex
czero = record { re = plus_zero; im = plus_zero }

abbrev pub cone : Complex
cone = record { re = one; im = plus_zero }

abbrev pub minus_i : Complex
minus_i = record { re = plus_zero; im = Ieee.neg one }

unfoldable pub cadd : Complex → Complex → Complex
cadd x y = record { re = add x.re y.re; im = add x.im y.im }

unfoldable pub csub : Complex → Complex → Complex
csub x y = record { re = sub x.re y.re; im = sub x.im y.im }

-- "(a+bi)(c+di) has real part a·c − b·d and imaginary part a·d + b·c"
unfoldable pub cmul : Complex → Complex → Complex
cmul x y =
    record {
      re = sub (mul x.re y.re) (mul x.im y.im);
      im = add (mul x.re y.im) (mul x.im y.re);
    }

-- "conjugation negates the imaginary part", a zero's sign too
unfoldable pub conj : Complex → Complex
conj x = record { re = x.re; im = Ieee.neg x.im }

unfoldable pub cfinite : Complex → Bool
cfinite x = finite x.re && finite x.im

-- a real number w as w+0i
abbrev pub real : Float → Complex
real w = record { re = w; im = plus_zero }
