-- Cut to the limits, every product fits.
use Rattle.std.proofs.Common.{arith}
use Rattle.two_time.specs.Places.{sized}
use Rattle.two_time.proofs.layout.function_length.Goals as goal

pub overflow_mul-result-4 : goal.overflow_mul-result-4
overflow_mul-result-4 c = let s = sized c.min-most_points.result c.min-most_orbitals.result (omega arith) (omega arith) in omega arith
