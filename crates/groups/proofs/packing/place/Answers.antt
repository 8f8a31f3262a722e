use Rattle.lists.specs.Prelude.{refl, arith}
use Rattle.two_time.specs.Places.{within}
use Rattle.groups.proofs.packing.place.Goals as goal

pub overflow_mul-result-4 : goal.overflow_mul-result-4
overflow_mul-result-4 c = let w = within c.requires in let p = c.requires in omega arith

pub returns : goal.returns
returns c = (refl, (within c.requires).inside)
