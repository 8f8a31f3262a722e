-- The first row that is refused is the answer to all, and where none is all are finite.
use Rattle.lists.specs.Prelude.{sym, ◌∙◌, arith, rules}
use borrow.Author.Count.{below_more}
use Rattle.refusal.specs.Agreement.{all_asked}
use Rattle.refusal.specs.Search.{first-refused}
use Rattle.two_time.specs.Calls.{point_entries}
use Rattle.two_time.proofs.capacity.finite_points.Goals as goal

pub returns-in_err-entries_from : goal.returns-in_err-entries_from
unfolding point_entries
returns-in_err-entries_from c =
    rw (first-refused _ _ _ _ c.loop-t-test.true c.loop-t.invariant (sym c.entries_from.ensures ∙ c.in_err-entries_from.was)) (search rules)

pub loop-t-preserved : goal.loop-t-preserved
loop-t-preserved c = below_more _ _ c.loop-t.invariant (sym c.entries_from.ensures ∙ c.in_ok-entries_from.was)

pub returns : goal.returns
unfolding point_entries
returns c = sym (all_asked c.args.shape.points _ (λ k l. c.loop-t.invariant k (omega arith)))
