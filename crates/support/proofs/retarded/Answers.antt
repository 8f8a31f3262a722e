-- The first row that is refused is the answer to all.
use Rattle.std.proofs.Common.{rules, arith}
use Rattle.lists.specs.Prelude.{sym, ◌∙◌}
use borrow.Author.Count.{below_more}
use Rattle.refusal.specs.Agreement.{all_asked}
use Rattle.refusal.specs.Search.{first-refused}
use Rattle.support.specs.Support.{retarded}
use Rattle.support.proofs.retarded.Goals as goal

pub returns-in_err-row_within : goal.returns-in_err-row_within
unfolding retarded
returns-in_err-row_within c =
    rw (first-refused _ _ _ _ c.loop-t-test.true c.loop-t.invariant (sym c.row_within.ensures ∙ c.in_err-row_within.was)) (search rules)

pub loop-t-preserved : goal.loop-t-preserved
loop-t-preserved c = below_more _ _ c.loop-t.invariant (sym c.row_within.ensures ∙ c.in_ok-row_within.was)

pub returns : goal.returns
unfolding retarded
returns c = sym (all_asked c.args.shape.points _ (λ k l. c.loop-t.invariant k (omega arith)))
