-- The columns that `all` asks are those from the diagonal on; the definition asks nothing of the others. Assumes nothing.
use Rattle.std.specs.Prelude.{not}
use Rattle.std.proofs.Common.{rules, ◌-◌}
use Rattle.std.proofs.lemmas.Iterator.{YieldsList-from_range}
use Rattle.std.proofs.lemmas.Iterator.Search.{all_from_yields_List}
use Rattle.lists.specs.Prelude.{refl, ◌∙◌, ℕ, arith}
use borrow.Author.Tests.{tests}
use Rattle.complex.specs.Arithmetic.{csub, conj}
use Rattle.block.specs.Operations.{part_above}
use Rattle.matrix.specs.Dense.{entries_of}
use Rattle.matrix.proofs.Later.{all-later}
use Rattle.matrix.proofs.measure.row_hermitian.Goals as goal

pub returns : goal.returns
returns c =
    let x = c.args.x.now in
    let i = c.args.i in
    let p = λ (j : ℕ). not (part_above c.args.threshold (csub (entries_of x i j) (conj (entries_of x j i)))) in
    let all = all_from_yields_List p _ _ c.all.result c.all.ensures.ran (YieldsList-from_range i x.rows (x.rows - i) (search rules) refl) (λ j b q k. search (rules, tests)) in
    all ∙ all-later p i x.rows (omega arith)
