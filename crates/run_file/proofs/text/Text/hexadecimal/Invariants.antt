-- After k steps the k highest digits are written.
use Rattle.std.specs.Prelude.{◌≡◌, ◌+◌, ◌-◌, ◌/◌, ◌^◌, ◌≤◌}
use Rattle.run_file.specs.Text.{hexadecimal}
use Rattle.run_file.specs.Appended.{Appended}
use Rattle.run_file.proofs.text.Text.hexadecimal.Given as goal

abbrev pub invariant-loop-k : goal.invariant-loop-k
invariant-loop-k l =
    (l._k ≤ 16) × (l.self.length ≡ l.initial.self.length + l._k) × (l.unit ≡ 16 ^ (16 - l._k) / 16)
    × Appended l.initial.self.bytes l.self.bytes l.initial.self.length l.self.length (hexadecimal l._k (l.n / 16 ^ (16 - l._k)))
