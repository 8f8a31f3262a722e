-- `groups::adding::add_in_place` meets its contract: one call where every lane has the common weight, else three. Assumes nothing.
use Rattle.lists.specs.Prelude.{◌∙◌, arith}
use Rattle.rows.specs.Ranges.{all-stepped, all_lanes, three-stepped}
use Rattle.groups.specs.InPlace.{in_place}
use Rattle.groups.proofs.adding.add_in_place.Statement.{statement}
use Rattle.groups.proofs.adding.add_in_place.Tie as tie

abbrev start : tie.Then-below-above → tie.Start
start i = i.before.before.before

abbrev start_2 : tie.After-add_lanes-else-below-above → tie.Start
start_2 a = a.before.before.before.before.before

abbrev first : tie.After-add_lanes-else-below-above-2 → tie.After-add_lanes-else-below-above
first a = a.before.before.before.before

returns : tie.Need-returns-then-below-above
returns c =
    let a = c.before.before in let i = a.before.before in let x = (start i).args in
    all-stepped x.term (start i).requires.0.0 (in_place x.factor x.x x.right.now x.stride x.j) x.totals.now _ i.if-below-above.true a.add_lanes.ensures

returns-2 : tie.Need-returns-else-below-above
returns-2 c =
    let a4 = c.before.before in let a3 = a4.before.before.before.before in let a2 = first a3 in let x = (start_2 a2).args in
    three-stepped x.term (start_2 a2).requires.0.0 (in_place x.factor x.x x.right.now x.stride x.j) x.totals.now _ _ _ a2.add_lanes-else-below-above.ensures a3.add_lanes-else-below-above-2.ensures a4.add_lanes-else-below-above-3.ensures

pub add_in_place_spec : {M : Type 1} → statement M
add_in_place_spec =
    tie.close (tie.spec
    (λ c κs. let s = start c.before in ((omega arith, omega arith, s.requires.0.1, s.requires.0.2), λ k h. s.requires.1 k (all_lanes s.args.term s.requires.0.0 c.before.if-below-above.true k h)))  -- add_lanes-requires
    (λ c κs. let s = c.before.before.before.before in let r = s.requires.0.0 in ((omega arith, omega (arith, r.low, r.middle, r.high, r.top, r.few), s.requires.0.1, s.requires.0.2), λ k h. s.requires.1 k (omega (arith, h, r.low, r.middle, r.high, r.top))))  -- add_lanes-requires-else-below-above
    (λ c κs. let a = c.before.before.before in let s = start_2 a in let r = s.requires.0.0 in ((r.middle, omega (arith, r.high, r.top, r.few), a.add_lanes-else-below-above.ensures.long ∙ s.requires.0.1, s.requires.0.2), λ k h. s.requires.1 k (omega (arith, h, r.high, r.top))))  -- add_lanes-requires-else-below-above-2
    (λ c κs. let a3 = c.before.before.before in let a = first a3 in let s = start_2 a in let r = s.requires.0.0 in ((r.top, r.few, a3.add_lanes-else-below-above-2.ensures.long ∙ a.add_lanes-else-below-above.ensures.long ∙ s.requires.0.1, s.requires.0.2), s.requires.1))  -- add_lanes-requires-else-below-above-3
    (λ c. c.before.before.add_lanes.ensures.long)  -- shape_of-totals-then-below-above
    returns
    (λ c. let a4 = c.before.before in let a3 = a4.before.before.before.before in a4.add_lanes-else-below-above-3.ensures.long ∙ a3.add_lanes-else-below-above-2.ensures.long ∙ (first a3).add_lanes-else-below-above.ensures.long)  -- shape_of-totals-else-below-above
    returns-2)
