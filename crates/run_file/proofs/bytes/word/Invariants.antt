-- After k steps it has the number of the last k bytes.
use Rattle.std.specs.Prelude.{◌≡◌, ◌+◌, ◌-◌, ◌^◌, ◌<◌}
use Rattle.run_file.specs.Bytes.{little_endian}
use Rattle.run_file.proofs.bytes.word.Given as goal

abbrev pub invariant-loop-k : goal.invariant-loop-k
invariant-loop-k l = (l.n ≡ little_endian l.k (l.i + (l.count - l.k)) l.bytes) × (l.n < 256 ^ l.k)
