-- By what check 10 says of the block that was made. Assumes nothing.
use Rattle.lists.specs.Prelude.{sym, ◌∙◌, rules}
use Rattle.matrix.proofs.Filled.{block_made}
use Rattle.matrix.proofs.Results.{answer-finite, answer-overflow}
use Rattle.matrix.proofs.answer.Goals as goal

pub returns-in_err-finite_work : goal.returns-in_err-finite_work
returns-in_err-finite_work c = let e = answer-overflow _ _ _ _ _ c.fill-finite.ensures.0 _ (sym c.finite_work.ensures ∙ c.in_err-finite_work.was) in search (rules, e)

pub returns : goal.returns
returns c = answer-finite _ _ _ _ _ c.fill-finite.ensures.0 _ (block_made _ _ _ _ c.fill-finite.ensures.1) (sym c.finite_work.ensures ∙ c.in_ok-finite_work.was)
