-- Document 01, matrix: the operations on entries. They go on through infinities; a call asks of its result what check 10 asks.
use Rattle.std.specs.Prelude.{◌||◌}
use Rattle.lists.specs.Prelude.{ℕ, Bool, not, cond, eqb, ltb, Float, lt}
use Rattle.lists.specs.Indexed.{all_in}
use Rattle.complex.specs.declared.Complex.{Complex}
use Rattle.complex.specs.Arithmetic.{mul, czero, cone, cadd, csub, cmul, conj, cfinite, size, larger}
use Rattle.complex.specs.Sum.{sum, largest_in}
use Rattle.norm.specs.Norm.{norm}
use Rattle.block.specs.Block.{Entries}

-- entry (a, b) of the product: the sum over k, from +0+0i in index order, of x(a,k)·y(k,b)
unfoldable pub product : ℕ → Entries → Entries → Entries
product inner x y a b = sum inner (λ k. cmul (x a k) (y k b))

-- "Scaling multiplies by weight+0i as complex numbers": each entry times the factor
unfoldable pub scaled : Complex → Entries → Entries
scaled factor x a b = cmul (x a b) factor

unfoldable pub added : Entries → Entries → Entries
added x y a b = cadd (x a b) (y a b)

unfoldable pub subtracted : Entries → Entries → Entries
subtracted x y a b = csub (x a b) (y a b)

-- the conjugate transpose
unfoldable pub adjoint : Entries → Entries
adjoint x a b = conj (x b a)

unfoldable pub identity : Entries
identity a b = cond (eqb a b) cone czero

-- all entries +0+0i
abbrev pub zeros : Entries
zeros a b = czero

-- the sum of the diagonal
unfoldable pub trace : ℕ → Entries → Complex
trace size x = sum size (λ i. x i i)

-- "The trace itself shall give 10 when a part of its sum is not finite" (document 02, L10): what check 10 asks of every trace
abbrev pub finite_trace : ℕ → Entries → Bool
finite_trace size x = cfinite (trace size x)

-- the norm of one number, and the largest norm of a block's entries
abbrev pub cnorm : Complex → Float
cnorm z = norm z.re z.im

unfoldable pub matrix_norm_max : ℕ → ℕ → Entries → Float
matrix_norm_max rows columns x = largest_in rows columns (λ a b. cnorm (x a b))

-- every entry is finite
unfoldable pub all_finite : ℕ → ℕ → Entries → Bool
all_finite rows columns x = all_in rows columns (λ a b. cfinite (x a b))

-- "threshold tolerance · largest part size; entry (a, b) minus the conjugate of (b, a), b from a upward, with a part whose size is above it
-- says no"
unfoldable pub part_size : Complex → Float
part_size z = larger (size z.re) (size z.im)

unfoldable pub part_above : Float → Complex → Bool
part_above threshold z = lt threshold (size z.re) || lt threshold (size z.im)

abbrev pub mirrors : Float → Entries → ℕ → ℕ → Bool
mirrors threshold x a b = ltb b a || not (part_above threshold (csub (x a b) (conj (x b a))))

unfoldable pub hermitian_within : ℕ → Float → Entries → Bool
hermitian_within size threshold x = all_in size size (mirrors threshold x)

unfoldable pub hermitian : ℕ → Float → Entries → Bool
hermitian size tolerance x = hermitian_within size (mul tolerance (largest_in size size (λ c d. part_size (x c d)))) x
