-- What will have been read, shifted by the steps made, is what has been read with the rest of the word behind it.
use Rattle.std.proofs.Common.{◌+◌, ◌*◌, ◌^◌, ◌≤◌, ◌≡◌}
use Rattle.norm.specs.Words.{read}
use Rattle.norm.proofs.square_root.read_word.Given as goal

abbrev pub invariant-loop : goal.invariant-loop
invariant-loop l = (l.counter ≤ 32) × (l.r.rest ≤ 2 * l.r.root) × ((read l.fn.s * 2 ^ 64 + l.fn.word) * 4 ^ l.counter ≡ read l.r * 2 ^ 64 + l.left)
