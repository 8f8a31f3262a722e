-- Past checks 1, 2, 3 and 16 the entries are few, and check 7 is asked.
use Rattle.std.proofs.Common.{rules, ◌≡◌, ◌*◌, ◌≤◌, ℕ, Bool, List, Err}
use Rattle.lists.specs.Prelude.{refl, sym, ◌∙◌, arith, le_trans, le_of_eq, Float}
use Rattle.refusal.specs.declared.Refusal.{Refusal}
use Rattle.refusal.specs.Verdict.{Verdict, pass}
use Rattle.refusal.specs.Agreement.{then-after, then-refused}
use Rattle.matrix.specs.declared.DenseMatrix.{DenseMatrix}
use Rattle.two_time.specs.declared.capacity.Shape.{Shape}
use Rattle.two_time.specs.Calls.{all_fit, block_sizes, point_checks}
use Rattle.two_time.specs.Places.{product-most}
use Rattle.observables.specs.Calls.{lesser_block_checks}
use Rattle.observables.specs.LesserChecks.{square, sizes, sizes_asked_lem, block_refused, block-asked, block-passed}
use Rattle.observables.proofs.checks.check_lesser_block.Goals as goal

pub returns-in_err-check_block_sizes : goal.returns-in_err-check_block_sizes
returns-in_err-check_block_sizes c =
    let s = c.args.shape in
    let asked = sizes_asked_lem s.capacity s.points s.orbitals c.args.lesser.now c.args.block.now c.has_length.ensures c.check_block_sizes.ensures in
    rw (← block_refused s.capacity s.points s.orbitals c.args.lesser.now c.args.block.now asked c.in_err-check_block_sizes.was, c.in_err-check_block_sizes.was) (search rules)

pub returns-in_err-check_points : goal.returns-in_err-check_points
returns-in_err-check_points c =
    let s = c.args.shape in
    let asked = sizes_asked_lem s.capacity s.points s.orbitals c.args.lesser.now c.args.block.now c.has_length.ensures c.check_block_sizes.ensures in
    rw (← block-asked s.capacity s.points s.orbitals c.args.lesser.now c.args.block.now asked c.in_ok-check_block_sizes.was c.check_points.ensures refl, c.in_err-check_points.was) (search rules)

pub overflow_mul-rows : goal.overflow_mul-rows
overflow_mul-rows c =
    let s = c.args.shape in
    let asked = sizes_asked_lem s.capacity s.points s.orbitals c.args.lesser.now c.args.block.now c.has_length.ensures c.check_block_sizes.ensures in
    let b = block-passed s.capacity s.points s.orbitals c.args.lesser.now c.args.block.now (sym asked ∙ c.in_ok-check_block_sizes.was) in
    let few = product-most c.args.block.now.rows c.args.block.now.columns (le_trans (le_of_eq b.square-rows) b.sized.orbitals-most) (le_trans (le_of_eq b.square-columns) b.sized.orbitals-most) in
    omega (arith, few)

pub overflow_mul-rows-2 : goal.overflow_mul-rows-2
overflow_mul-rows-2 c =
    let s = c.args.shape in
    let asked = sizes_asked_lem s.capacity s.points s.orbitals c.args.lesser.now c.args.block.now c.has_length.ensures c.check_block_sizes.ensures in
    let b = block-passed s.capacity s.points s.orbitals c.args.lesser.now c.args.block.now (sym asked ∙ c.in_ok-check_block_sizes.was) in
    let few = product-most c.args.block.now.rows c.args.block.now.columns (le_trans (le_of_eq b.square-rows) b.sized.orbitals-most) (le_trans (le_of_eq b.square-columns) b.sized.orbitals-most) in
    omega (arith, few)

pub returns : goal.returns
returns c =
    let s = c.args.shape in
    let asked = sizes_asked_lem s.capacity s.points s.orbitals c.args.lesser.now c.args.block.now c.has_length.ensures c.check_block_sizes.ensures in
    block-asked s.capacity s.points s.orbitals c.args.lesser.now c.args.block.now asked c.in_ok-check_block_sizes.was c.check_points.ensures (c.finite_entries.ensures ∙ sym (then-after _ _ c.in_ok-check_points.was))
