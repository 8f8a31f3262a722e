-- A block that passes is small; check 10 is not asked of what is made. Assumes nothing.
use Rattle.lists.specs.Prelude.{ap, sym, ◌∙◌}
use Rattle.refusal.specs.Verdict.{Verdict}
use Rattle.block.specs.Operations.{adjoint}
use Rattle.matrix.specs.Dense.{entries_of, block_of, checked}
use Rattle.matrix.specs.Calls.{adjoint_of}
use Rattle.matrix.specs.Made.{made_by}
use Rattle.matrix.proofs.Shapes.{block-passed}
use Rattle.matrix.proofs.Results.{untested}
use Rattle.matrix.proofs.DenseMatrix.adjoint.Goals as goal

pub answer-requires : goal.answer-requires
answer-requires c = let s = (block-passed _ _ (sym c.check_block.ensures ∙ c.in_ok-check_block.was)).0 in (s.columns-most, s.rows-most, s.columns-most, s.columns-most)

pub returns : goal.returns
unfolding adjoint_of made_by
returns c = c.answer.ensures ∙ untested _ _ _ _ ∙ let x = c.args.self in ap (λ (v : Verdict). checked v (block_of x.columns x.rows (adjoint (entries_of x)))) (sym (sym c.check_block.ensures ∙ c.in_ok-check_block.was))
