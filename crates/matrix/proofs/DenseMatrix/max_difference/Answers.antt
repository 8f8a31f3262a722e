-- Blocks that pass have one shape, so their numbers stand in one order. Assumes nothing.
use Rattle.std.proofs.Common.{◌≡◌, ◌*◌, ◌≤◌}
use Rattle.lists.specs.Prelude.{ap, ◌∙◌, ℕ, le_trans, arith, rules}
use Rattle.complex.specs.Largest.{largest_in_lem}
use Rattle.refusal.specs.Verdict.{pass}
use Rattle.block.specs.Block.{entries_in}
use Rattle.block.specs.Operations.{matrix_norm_max, subtracted}
use Rattle.matrix.specs.declared.DenseMatrix.{DenseMatrix}
use Rattle.matrix.specs.Dense.{entries_of}
use Rattle.matrix.specs.Calls.{pair_checks, same_shape, max_difference_of}
use Rattle.matrix.proofs.Places.{entries-most}
use Rattle.matrix.proofs.Shapes.{pair-passed, alike-passed, same-columns}
use Rattle.matrix.proofs.Results.{measure_is}
use Rattle.matrix.proofs.DenseMatrix.max_difference.Goals as goal

few : (x y : DenseMatrix) → pair_checks (same_shape x y) x y ≡ pass → x.rows * x.columns ≤ 256
few x y p = let s = (pair-passed _ x y p).0 in entries-most _ _ s.rows-most s.columns-most

pub overflow_mul-self : goal.overflow_mul-self
overflow_mul-self c = omega (arith, few c.args.self c.args.other (alike-passed _ _ _ _ c.same_shape.ensures c.check_pair.ensures c.in_ok-check_pair.was))

pub largest_difference-requires : goal.largest_difference-requires
largest_difference-requires c =
    let h : 2 * (c.args.self.rows * c.args.self.columns) ≤ 512 = omega (arith, few c.args.self c.args.other (alike-passed _ _ _ _ c.same_shape.ensures c.check_pair.ensures c.in_ok-check_pair.was)) in
    (le_trans h (search rules), le_trans h (search rules))

pub returns : goal.returns
unfolding max_difference_of matrix_norm_max subtracted
returns c =
    let x = c.args.self in
    let y = c.args.other in
    let p = alike-passed x y _ _ c.same_shape.ensures c.check_pair.ensures c.in_ok-check_pair.was in
    measure_is _ _ p
    (c.largest_difference.ensures ∙ largest_in_lem x.rows x.columns _
    ∙ ap (λ (m : ℕ). matrix_norm_max x.rows x.columns (subtracted (entries_of x) (entries_in m y.values))) (same-columns x y p))
