-- The rows that `all` asks are those of the definition. Assumes nothing.
use Rattle.std.proofs.Common.{rules}
use Rattle.std.proofs.lemmas.Iterator.{YieldsList-from_range}
use Rattle.std.proofs.lemmas.Iterator.Search.{all_from_yields_List}
use Rattle.lists.specs.Prelude.{◌∙◌, ℕ, arith}
use Rattle.lists.specs.Indexed.{all_below}
use Rattle.lists.specs.Steps.{all-listed}
use borrow.Author.Tests.{tests}
use Rattle.block.specs.Operations.{mirrors, hermitian_within}
use Rattle.matrix.specs.Dense.{entries_of}
use Rattle.matrix.proofs.measure.hermitian_within.Goals as goal

pub returns : goal.returns
unfolding hermitian_within
returns c =
    let x = c.args.x.now in
    let p = λ (i : ℕ). all_below x.rows (mirrors c.args.threshold (entries_of x) i) in
    let all = all_from_yields_List p _ _ c.all.result c.all.ensures.ran (YieldsList-from_range 0 x.rows x.rows (search rules) (omega arith)) (λ i b q k. search (rules, tests)) in
    all ∙ all-listed p x.rows
