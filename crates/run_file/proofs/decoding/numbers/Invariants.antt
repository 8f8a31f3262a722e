-- After k steps the first k numbers are written over.
use Rattle.std.specs.Prelude.{◌≡◌, ◌+◌, ◌*◌}
use Rattle.lists.specs.Filling.{over}
use Rattle.lists.specs.Singles.{singles}
use Rattle.run_file.specs.Bytes.{number}
use Rattle.run_file.proofs.decoding.numbers.Given as goal

abbrev pub invariant-loop-k : goal.invariant-loop-k
invariant-loop-k l = l.out ≡ over l.fn.out (singles l.k (λ j. number (l.at + 8 * j) l.bytes))
