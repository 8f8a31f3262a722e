-- A block that passes is small, and the row and the column are within it. Assumes nothing.
use Rattle.std.proofs.Common.{◌≡◌, ◌<◌}
use Rattle.lists.specs.Prelude.{sym, ◌∙◌, ℕ, ltb, ltb-true, le_trans}
use Rattle.refusal.specs.Verdict.{pass, by}
use Rattle.refusal.specs.Agreement.{ask_pass}
use Rattle.refusal.specs.Checks.{orbital_below}
use Rattle.matrix.proofs.Shapes.{block-passed}
use Rattle.matrix.proofs.DenseMatrix.get.Goals as goal

index : (i count : ℕ) → orbital_below i count ≡ pass → i < count
unfolding orbital_below
index i count h = ltb-true i count (ask_pass (ltb i count) (by 12) h)

pub entry-requires : goal.entry-requires
entry-requires c =
    let s = (block-passed _ _ (sym c.check_block.ensures ∙ c.in_ok-check_block.was)).0 in (
      le_trans (index _ _ (sym c.orbital_below.ensures ∙ c.in_ok-orbital_below.was)) s.rows-most,
      le_trans (index _ _ (sym c.orbital_below-2.ensures ∙ c.in_ok-orbital_below-2.was)) s.columns-most,
      s.columns-most,
    )
