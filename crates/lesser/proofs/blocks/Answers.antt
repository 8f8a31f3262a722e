use Rattle.std.specs.Prelude.{◌≡◌, ◌&&◌, ◌∷◌, ◌+◌, ◌*◌}
use Rattle.lists.specs.Prelude.{refl, [], arith}
use Rattle.refusal.specs.Verdict.{pass}
use Rattle.block.specs.Length.{length-block}
use Rattle.two_time.specs.Calls.{size_checks}
use Rattle.two_time.specs.Start.{holds_block}
use Rattle.two_time.specs.Outcome.{flagged}
use Rattle.two_time.specs.SizeChecks.{sizes-passed}
use Rattle.groups.specs.Groups.{is_group, Grouped, group_is}
use Rattle.groups.specs.Onto.{group_made, group_failed}
use Rattle.groups.specs.Runs.{blocks_of, said_of}
use Rattle.starts.specs.Calls.{from_finite, from_block, group_from}
use Rattle.lesser.proofs.blocks.Goals as goal

pub returns : goal.returns
unfolding group_from
returns c =
    let x = c.args in let n = x.orbitals in let h = c.requires.t_lt_capacity in
    let z = sizes-passed _ _ _ _ h.2 in
    blocks_of x.out.now c.row_by_groups.ensures (from_finite x.capacity n x.times.now x.retarded.now x.lesser_advanced.now x.filled.now x.t) (from_block x.capacity n x.times.now x.retarded.now x.lesser_advanced.now x.filled.now x.t)
    (record { some = z.orbitals-least; few = z.orbitals-most; inside = omega (arith, h.1, z.points-most); whole = c.requires.out_len })
    record {
      wide = λ u. length-block n _;
      said = λ u places xs lo hi some most few long.
          let g : Grouped x.capacity n x.t u places =
          record { points-most = z.points-most; orbitals-most = z.orbitals-most; row = h.0; first = omega arith; some = some; most = most; fit = omega (arith, h.1); few = few } in
          let passed : size_checks x.capacity n (is_group x.capacity n x.t u places && holds_block n x.filled.now) (x.retarded.now ∷ x.lesser_advanced.now ∷ []) ≡ pass =
          flagged _ _ _ _ (rw (group_is g, h.3)) h.2 in
          let made = group_from x.capacity n x.times.now x.retarded.now x.lesser_advanced.now x.filled.now x.t u places xs in
          said_of made.answer _ (group_made n places _ _ _ xs passed long made.answer made.out refl refl) (group_failed n places _ _ _ xs passed long made.answer made.out refl refl);
    }
