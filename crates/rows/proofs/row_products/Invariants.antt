-- Each lane has the products passed.
use Rattle.std.proofs.Common.{◌≡◌, ◌+◌, ◌*◌, ◌<◌, ℕ, length}
use Rattle.complex.specs.Arithmetic.{cmul}
use Rattle.complex.specs.Numbers.{entry_at}
use Rattle.complex.specs.Sum.{sum_from}
use Rattle.lanes.specs.Lanes.{lane_at}
use Rattle.rows.specs.Numbers.{number_at}
use Rattle.rows.proofs.row_products.Given as goal

abbrev pub invariant-loop-k : goal.invariant-loop-k
invariant-loop-k l =
    (length l.sums ≡ 32)
    × ((c : ℕ) → c < 16 → number_at l.sums c ≡ sum_from (number_at l.fn.sums c) (λ k. cmul (entry_at l.left (l.i + 2 * k)) (lane_at l.rows k c)) 0 l.k)
