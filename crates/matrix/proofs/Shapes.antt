-- Checks 1 to 3 of blocks: what it says of the shapes that they pass. Assumes nothing.
use Rattle.std.specs.Prelude.{◌≡◌, ◌*◌, ◌≤◌}
use Rattle.lists.specs.Prelude.{refl, sym, ◌∙◌, Bool, true, ℕ, min, min-eq_left, leb, eqb, leb-true, eqb-true}
use Rattle.lists.specs.Agreement.{both}
use Rattle.refusal.specs.Verdict.{Verdict, pass, by, ◌then◌}
use Rattle.refusal.specs.Agreement.{ask_pass, then-pass, then-agree}
use Rattle.refusal.specs.Checks.{not_empty, within_block, fitting}
use Rattle.matrix.specs.declared.DenseMatrix.{DenseMatrix}
use Rattle.matrix.specs.Calls.{shape_of, pair_shape, block_checks, pair_checks, same_shape}

-- a block's rows and columns are at most 16
pub record Small (rows columns : ℕ) : Type 0 where
  pub rows-most : rows ≤ 16
  pub columns-most : columns ≤ 16

pub small : (rows columns : ℕ) → within_block rows columns ≡ pass → Small rows columns
unfolding within_block
small rows columns w = let most = both (leb rows 16) (leb columns 16) (ask_pass _ (by 2) w) in record { rows-most = leb-true _ _ most.0; columns-most = leb-true _ _ most.1 }

-- the count of its numbers is then not cut
pub uncut : {rows columns : ℕ} → Small rows columns → 2 * (min rows 16 * min columns 16) ≡ 2 * (rows * columns)
uncut s = rw (min-eq_left s.rows-most, min-eq_left s.columns-most)

-- the shapes, and their own question of shape was answered yes
pub shape-passed : (fits : Bool) (rows columns : ℕ) → shape_of fits rows columns ≡ pass → Small rows columns × (fits ≡ true)
unfolding fitting
shape-passed fits rows columns h =
    let p = then-pass (within_block rows columns) (fitting fits) (then-pass (not_empty rows columns) (within_block rows columns then fitting fits) h).1 in
    (small rows columns p.0, ask_pass fits (by 3) p.1)

pub pair_shape-passed : (fits : Bool) (rows inner below columns : ℕ) → pair_shape fits rows inner below columns ≡ pass → Small rows inner × Small below columns × (fits ≡ true)
unfolding fitting
pair_shape-passed fits rows inner below columns h =
    let p = then-pass (within_block rows inner then within_block below columns) (fitting fits) (then-pass (not_empty rows inner then not_empty below columns) _ h).1 in
    let most = then-pass (within_block rows inner) (within_block below columns) p.0 in
    (small rows inner most.0, small below columns most.1, ask_pass fits (by 3) p.1)

-- and so of the blocks that pass check 7 too
pub block-passed : (fits : Bool) (x : DenseMatrix) → block_checks fits x ≡ pass → Small x.rows x.columns × (fits ≡ true)
unfolding block_checks
block-passed fits x h = shape-passed fits x.rows x.columns (then-pass (shape_of fits x.rows x.columns) _ h).0

pub pair-passed : (fits : Bool) (x y : DenseMatrix) → pair_checks fits x y ≡ pass → Small x.rows x.columns × Small y.rows y.columns × (fits ≡ true)
unfolding pair_checks
pair-passed fits x y h = pair_shape-passed fits x.rows x.columns y.rows y.columns (then-pass (pair_shape fits x.rows x.columns y.rows y.columns) _ h).0

pub same-columns : (x y : DenseMatrix) → pair_checks (same_shape x y) x y ≡ pass → x.columns ≡ y.columns
same-columns x y h = eqb-true x.columns y.columns (both (eqb x.rows y.rows) (eqb x.columns y.columns) (pair-passed (same_shape x y) x y h).2).1

-- the same by the answers of two calls: whether the shapes are one, and the checks
pub alike-passed : (x y : DenseMatrix) (same : Bool) (v : Verdict) → same ≡ same_shape x y → v ≡ pair_checks same x y → v ≡ pass → pair_checks (same_shape x y) x y ≡ pass
alike-passed x y same v e h p = rw (← e) (sym h ∙ p)

-- numbers are counted with the limits cut: check 3 is reached within them
pub shape-counted : (len rows columns : ℕ) → shape_of (eqb len (2 * (min rows 16 * min columns 16))) rows columns ≡ shape_of (eqb len (2 * (rows * columns))) rows columns
shape-counted len rows columns = then-agree (not_empty rows columns) _ _ _ refl (λ e. then-agree (within_block rows columns) _ _ _ refl (λ w. rw (uncut (small rows columns w))))
