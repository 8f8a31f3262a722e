-- One call where every lane has the common weight, else three.
use Rattle.rows.specs.Numbers.{number_at}
use Rattle.rows.specs.Ranges.{all-stepped, three-stepped}
use Rattle.rows.proofs.add_scaled.Goals as goal

pub returns-then-below-above : goal.returns-then-below-above
returns-then-below-above c = let x = c.args in all-stepped x.term c.requires.0 (number_at x.sums.now) x.totals.now _ c.if-below-above.true c.scale_lanes.ensures

pub returns-else-below-above : goal.returns-else-below-above
returns-else-below-above c =
    let x = c.args in
    three-stepped x.term c.requires.0 (number_at x.sums.now) x.totals.now _ _ _ c.scale_lanes-else-below-above.ensures c.scale_lanes-else-below-above-2.ensures c.scale_lanes-else-below-above-3.ensures
