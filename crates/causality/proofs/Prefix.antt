-- Two accepted runs to which demand 3 applies. Assumes nothing.
use Rattle.std.specs.Prelude.{◌≡◌, ◌∷◌}
use Rattle.lists.specs.Prelude.{refl, true, [], arith}
use Rattle.complex.specs.Arithmetic.{plus_zero, one}
use Rattle.block.specs.Block.{entries_in}
use Rattle.block.specs.Operations.{zeros}
use Rattle.transient_run.specs.Form.{g0_of}
use Rattle.transient_run.specs.Calls.{is_accepted, transient_run}
use Rattle.causality.specs.Statement.{SameTo, Comparable}
use Rattle.causality.specs.Prefix.{run, passes, short, short-passes, answered, one_entry, prefix_same, zero_block, short_from, occupied-passes}

pub prefix : Comparable 1 run (short one) (is_accepted (transient_run run).answer ≡ true) (is_accepted (transient_run (short one)).answer ≡ true)
prefix = record { within = omega arith; within' = omega arith; accepted = answered run passes; accepted' = answered (short one) short-passes.0; same = prefix_same }

occupied-same : SameTo 1 run (short_from zero_block)
unfolding g0_of
occupied-same =
    record {
      orbitals = refl;
      times = prefix_same.times;
      free = prefix_same.free;
      self_energy = prefix_same.self_energy;
      lesser_self_energy = prefix_same.lesser_self_energy;
      start = one_entry zeros (entries_in 1 (plus_zero ∷ plus_zero ∷ [])) refl;
    }

pub prefix-occupied : Comparable 1 run (short_from zero_block) (is_accepted (transient_run run).answer ≡ true) (is_accepted (transient_run (short_from zero_block)).answer ≡ true)
prefix-occupied =
    record { within = omega arith; within' = omega arith; accepted = answered run passes; accepted' = answered (short_from zero_block) occupied-passes; same = occupied-same }
