-- By its tests. Assumes nothing.
use Rattle.std.proofs.Common.{◌≡◌, ◌*◌, ◌≤◌}
use Rattle.std.specs.Prelude.{◌&&◌}
use Rattle.lists.specs.Prelude.{ap, sym, ◌∙◌, ℕ, Bool, Float, le_trans, arith, rules, eq-eqb}
use Rattle.complex.specs.Arithmetic.{mul, plus_zero}
use Rattle.complex.specs.Numbers.{entry_at}
use Rattle.complex.specs.Sum.{largest_from, largest_in}
use Rattle.complex.specs.Largest.{largest_in_lem}
use Rattle.refusal.specs.Verdict.{Verdict, pass, ◌then◌}
use Rattle.block.specs.Operations.{part_size, hermitian_within, hermitian}
use Rattle.matrix.specs.declared.DenseMatrix.{DenseMatrix}
use Rattle.matrix.specs.Dense.{entries_of}
use Rattle.matrix.specs.Calls.{square, is_hermitian}
use Rattle.matrix.proofs.Places.{entries-most}
use Rattle.matrix.proofs.Shapes.{block-passed}
use Rattle.matrix.proofs.Results.{decide_is}
use Rattle.matrix.proofs.DenseMatrix.is_hermitian.Goals as goal

-- of a square block: what both loops found
square-is : (x : DenseMatrix) (tolerance largest : Float) (within : Bool) → x.rows ≡ x.columns
    → largest ≡ largest_from plus_zero (x.rows * x.columns) (λ p. part_size (entry_at x.values (2 * p)))
    → within ≡ hermitian_within x.rows (mul tolerance largest) (entries_of x)
    → within ≡ square x && hermitian x.rows tolerance (entries_of x)
unfolding hermitian
square-is x tolerance largest within e l w =
    w
    ∙ ap (λ (m : Float). hermitian_within x.rows (mul tolerance m) (entries_of x)) (l ∙ largest_in_lem x.rows x.columns _ ∙ ap (λ (k : ℕ). largest_in x.rows k (λ a b. part_size (entries_of x a b))) (sym e))
    ∙ ap (λ (b : Bool). b && hermitian x.rows tolerance (entries_of x)) (sym (eq-eqb x.rows x.columns e))

then-both : {v w : Verdict} → v ≡ pass → w ≡ pass → (v then w) ≡ pass
then-both p q = rw (p, q)

pub overflow_mul-self : goal.overflow_mul-self
overflow_mul-self c = let s = (block-passed _ _ (sym c.check_block.ensures ∙ c.in_ok-check_block.was)).0 in omega (arith, entries-most _ _ s.rows-most s.columns-most)

pub largest_part-requires : goal.largest_part-requires
largest_part-requires c =
    let s = (block-passed _ _ (sym c.check_block.ensures ∙ c.in_ok-check_block.was)).0 in
    let h : 2 * (c.args.self.rows * c.args.self.columns) ≤ 512 = omega (arith, entries-most _ _ s.rows-most s.columns-most) in
    le_trans h (search rules)

pub hermitian_within-requires : goal.hermitian_within-requires
hermitian_within-requires c = let s = (block-passed _ _ (sym c.check_block.ensures ∙ c.in_ok-check_block.was)).0 in (s.rows-most, s.columns-most)

pub returns : goal.returns
unfolding is_hermitian
returns c =
    let x = c.args.self in
    let p = then-both (sym c.check_block.ensures ∙ c.in_ok-check_block.was) (sym c.valid_tolerance.ensures ∙ c.in_ok-valid_tolerance.was) in
    decide_is _ _ p (square-is x c.args.tolerance _ _ c.if-self.false c.largest_part.ensures c.hermitian_within.ensures)
