-- Every number on the way to the place fits, and the place lies in the slice. Assumes nothing.
use Rattle.lists.specs.Prelude.{arith}
use Rattle.two_time.specs.Places.{within}
use Rattle.report.proofs.identities.entry.Goals as goal

pub overflow_mul-at-4 : goal.overflow_mul-at-4
overflow_mul-at-4 c = let w = within c.requires.placed in omega arith

pub offset_bounds-xs-at : goal.offset_bounds-xs-at
offset_bounds-xs-at c = let w = within c.requires.placed in let l = c.requires.orbitals_in_bounds in omega arith

pub bounds-xs-at : goal.bounds-xs-at
bounds-xs-at c = let w = within c.requires.placed in let l = c.requires.orbitals_in_bounds in omega arith

pub overflow_add-at-4 : goal.overflow_add-at-4
overflow_add-at-4 c = let w = within c.requires.placed in omega arith

pub offset_bounds-xs-at-2 : goal.offset_bounds-xs-at-2
offset_bounds-xs-at-2 c = let w = within c.requires.placed in let l = c.requires.orbitals_in_bounds in omega arith

pub bounds-xs-at-2 : goal.bounds-xs-at-2
bounds-xs-at-2 c = let w = within c.requires.placed in let l = c.requires.orbitals_in_bounds in omega arith
