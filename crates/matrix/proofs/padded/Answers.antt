-- The numbers stand over the start of the array. Assumes nothing.
use Rattle.lists.specs.Prelude.{refl, length}
use Rattle.lists.specs.Filling.{over, over-replicate}
use Rattle.complex.specs.Arithmetic.{plus_zero}
use Rattle.matrix.proofs.padded.Goals as goal

pub returns : goal.returns
unfolding over
returns c = rw c.copy_from_slice.ensures.after (over-replicate 512 (length c.args.numbers.now) plus_zero c.args.numbers.now refl)
