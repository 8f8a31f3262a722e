-- Numbers that pass check 3 are as many as the block's, at most 512. Assumes nothing.
use Rattle.std.specs.Prelude.{Result, Err}
use Rattle.refusal.specs.declared.Refusal.{Refusal}
use Rattle.matrix.specs.declared.DenseMatrix.{DenseMatrix}
use Rattle.std.proofs.Common.{List, ◌≡◌, ◌*◌, ◌≤◌}
use Rattle.lists.specs.Prelude.{ap, sym, ◌∙◌, ℕ, Float, eqb, eqb-true, min, arith, rules}
use Rattle.refusal.specs.Verdict.{Verdict, pass}
use Rattle.refusal.specs.Checks.{finite_entries}
use Rattle.matrix.specs.Dense.{checked}
use Rattle.matrix.specs.Calls.{shape_of, from_numbers}
use Rattle.matrix.proofs.Places.{entries-most}
use Rattle.matrix.proofs.Shapes.{shape-passed, shape-counted, uncut}
use Rattle.matrix.proofs.Results.{refused-last, made-last}
use Rattle.matrix.proofs.DenseMatrix.from_numbers.Goals as goal

-- n numbers of a shape, where the code's count k is cut to the limits
module _ (n rows columns k : ℕ) (e : k ≡ 2 * (min rows 16 * min columns 16)) where
  asked : (v : Verdict) → v ≡ shape_of (eqb n k) rows columns → v ≡ shape_of (eqb n (2 * (rows * columns))) rows columns
  asked v h = h ∙ rw e (shape-counted n rows columns)

  counted : shape_of (eqb n (2 * (rows * columns))) rows columns ≡ pass → (k ≡ n) × (n ≤ 512)
  counted p =
      let s = shape-passed _ _ _ p in
      let t = eqb-true n (2 * (rows * columns)) s.1 in
      (e ∙ uncut s.0 ∙ sym t, omega (arith, t, entries-most rows columns s.0.rows-most s.0.columns-most))

pub returns-in_err-shape : goal.returns-in_err-shape
unfolding from_numbers checked
returns-in_err-shape c = let h = sym (asked _ _ _ _ c.count-count.ensures _ c.shape.ensures) ∙ c.in_err-shape.was in search rules

pub returns-in_err-finite_entries : goal.returns-in_err-finite_entries
unfolding from_numbers
returns-in_err-finite_entries c =
    let p = sym (asked _ _ _ _ c.count-count.ensures _ c.shape.ensures) ∙ c.in_ok-shape.was in
    let k = (counted _ _ _ _ c.count-count.ensures p).0 in
    let h : ◌≡◌ {A = Result DenseMatrix Refusal} (Err c.in_err-finite_entries.field-0.0) (from_numbers c.args.rows c.args.columns c.args.numbers.now) = refused-last _ _ _ _ p (ap (finite_entries 0 c.args.numbers.now) (sym k) ∙ sym c.finite_entries.ensures ∙ c.in_err-finite_entries.was) in
    search rules

pub padded-requires : goal.padded-requires
padded-requires c = (counted _ _ _ _ c.count-count.ensures (sym (asked _ _ _ _ c.count-count.ensures _ c.shape.ensures) ∙ c.in_ok-shape.was)).1

pub returns : goal.returns
unfolding from_numbers
returns c =
    let p = sym (asked _ _ _ _ c.count-count.ensures _ c.shape.ensures) ∙ c.in_ok-shape.was in
    let k = (counted _ _ _ _ c.count-count.ensures p).0 in
    made-last _ _ p (ap (finite_entries 0 c.args.numbers.now) (sym k) ∙ sym c.finite_entries.ensures ∙ c.in_ok-finite_entries.was)
    (ap (λ (xs : List Float). record { rows = c.args.rows; columns = c.args.columns; values = xs }) c.padded.ensures)
