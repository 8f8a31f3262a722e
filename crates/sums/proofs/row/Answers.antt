use Rattle.lists.specs.Prelude.{refl, arith}
use Rattle.block.specs.Block.{lay_out}
use Rattle.block.specs.Length.{length-block}
use Rattle.two_time.specs.SizeChecks.{sizes-passed}
use Rattle.groups.specs.PlaceSums.{sum_at, block_finite}
use Rattle.groups.specs.Groups.{Grouped, group_sums, group_finite_lem, group_overflow}
use Rattle.groups.specs.Runs.{blocks_of, said_of}
use Rattle.sums.proofs.row.Goals as goal

pub returns : goal.returns
returns c =
    let x = c.args in let n = x.orbitals in let h = c.requires.t_lt_capacity in
    let z = sizes-passed _ _ _ _ h.2 in
    blocks_of x.out.now c.row_by_groups.ensures (block_finite x.sums x.capacity n x.times.now x.left.now x.right.now x.t) (λ u. lay_out n n (sum_at x.sums x.capacity n x.times.now x.left.now x.right.now x.t u))
    (record { some = z.orbitals-least; few = z.orbitals-most; inside = omega (arith, h.1, z.points-most); whole = c.requires.out_len })
    record {
      wide = λ u. length-block n _;
      said = λ u places xs lo hi some most few long.
          let g : Grouped x.capacity n x.t u places =
          record { points-most = z.points-most; orbitals-most = z.orbitals-most; row = h.0; first = omega arith; some = some; most = most; fit = omega (arith, h.1); few = few } in
          let made = group_sums x.sums x.capacity n x.times.now x.left.now x.right.now x.t u places xs in
          said_of made.answer _
          (group_finite_lem x.sums x.capacity n x.times.now x.left.now x.right.now x.t u places xs g h.2 long made.answer made.out refl refl)
          (group_overflow x.sums x.capacity n x.times.now x.left.now x.right.now x.t u places xs g h.2 long made.answer made.out refl refl);
    }
