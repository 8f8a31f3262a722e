-- Past its checks each query is answered as by the single call.
use Rattle.std.proofs.Common.{rules, ◌≡◌}
use Rattle.lists.specs.Prelude.{sym, ◌∙◌}
use Rattle.flows.specs.Calls.{Queries}
use Rattle.flows.specs.Asked.{fits-asked, list_nothing, list_fitting, list_written}
use Rattle.flows.proofs.bond_flows_into.Goals as goal

pub returns-in_err-check_list : goal.returns-in_err-check_list
returns-in_err-check_list c =
    let x = c.args in
    let q : Queries = record { times = x.times.now; a = x.a.now; b = x.b.now; hoppings = x.hoppings.now; factors = x.factors.now } in
    let n = list_nothing _ _ _ _ q x.flows.now x.numbers.now (fits-asked _ _ _ _ q x.flows.now x.numbers.now c.is_twice.ensures c.check_list.ensures) c.in_err-check_list.was in
    (rw (← n.0, c.in_err-check_list.was) (search rules), n.1, n.2)

pub fill-requires-clause-fit : goal.fill-requires-clause-fit
fill-requires-clause-fit c =
    let x = c.args in
    let q : Queries = record { times = x.times.now; a = x.a.now; b = x.b.now; hoppings = x.hoppings.now; factors = x.factors.now } in
    (list_fitting _ _ _ _ q x.flows.now x.numbers.now (fits-asked _ _ _ _ q x.flows.now x.numbers.now c.is_twice.ensures c.check_list.ensures) c.in_ok-check_list.was).0

pub fill-requires-clause-flows_len : goal.fill-requires-clause-flows_len
fill-requires-clause-flows_len c =
    let x = c.args in
    let q : Queries = record { times = x.times.now; a = x.a.now; b = x.b.now; hoppings = x.hoppings.now; factors = x.factors.now } in
    let f = list_fitting _ _ _ _ q x.flows.now x.numbers.now (fits-asked _ _ _ _ q x.flows.now x.numbers.now c.is_twice.ensures c.check_list.ensures) c.in_ok-check_list.was in
    (f.1, f.2)

pub returns : goal.returns
returns c =
    let x = c.args in
    let q : Queries = record { times = x.times.now; a = x.a.now; b = x.b.now; hoppings = x.hoppings.now; factors = x.factors.now } in
    let w = list_written _ _ _ _ q x.flows.now x.numbers.now (fits-asked _ _ _ _ q x.flows.now x.numbers.now c.is_twice.ensures c.check_list.ensures) c.in_ok-check_list.was c.fill.ensures.0 c.fill.ensures.1 in
    (sym c.in_ok-check_list.was ∙ w.0, w.1, w.2)
