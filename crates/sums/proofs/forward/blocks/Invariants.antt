use Rattle.std.specs.Prelude.{◌≡◌, ◌+◌, ◌-◌, ◌*◌, ◌≤◌}
use Rattle.lists.specs.Prelude.{true, length, put_mid}
use Rattle.lists.specs.Indexed.{all_below, join}
use Rattle.groups.specs.Forward.{forward_finite, forward_block, row_at}
use Rattle.sums.proofs.forward.blocks.Given as goal

-- after the groups before u the first u blocks of row t are finite and written, and the rows before are as they were
abbrev pub invariant-loop-u : goal.invariant-loop-u
invariant-loop-u l =
    record {
      reached : l.u ≤ l.t + 1;
      long : length l.retarded ≡ length l.fn.retarded;
      passed : all_below l.u (forward_finite l.points l.orbitals l.times l.free l.kernel l.fn.retarded l.t) ≡ true;
      is : l.retarded ≡ put_mid (row_at l.points l.orbitals l.t) (l.u * (2 * (l.orbitals * l.orbitals))) l.fn.retarded (join l.u (forward_block l.points l.orbitals l.times l.free l.kernel l.fn.retarded l.t));
    }

abbrev pub decreases-loop-u : goal.decreases-loop-u
decreases-loop-u l = l.t + 1 - l.u
