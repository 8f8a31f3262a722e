-- How many numbers the entries of a block have. Assumes nothing.
use Rattle.std.specs.Prelude.{◌≡◌, ◌*◌}
use Rattle.lists.specs.Prelude.{◌∙◌, ℕ, mul_left_comm, length}
use Rattle.lists.specs.Reading.{length-join}
use Rattle.complex.specs.Filling.{cells, length-cells}
use Rattle.block.specs.Block.{Entries, lay_out}

pub length-rows : (rows columns : ℕ) (f : Entries) → length (lay_out rows columns f) ≡ rows * (2 * columns)
unfolding lay_out
length-rows rows columns f = length-join rows (2 * columns) (λ a. cells columns (f a)) (λ a ha. length-cells columns (f a))

pub length-block : (n : ℕ) (f : Entries) → length (lay_out n n f) ≡ 2 * (n * n)
length-block n f = length-rows n n f ∙ mul_left_comm n 2 n
