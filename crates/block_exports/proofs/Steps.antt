-- A chain of products before the first and after one more. Assumes nothing.
use Rattle.std.specs.Prelude.{◌≡◌, ◌+◌}
use Rattle.std.specs.Result.{result_unwrap_or}
use Rattle.lists.specs.Prelude.{refl, ℕ}
use Rattle.lists.specs.Indexed.{fold}
use Rattle.lists.specs.Steps.{fold_more}
use Rattle.matrix.specs.declared.DenseMatrix.{DenseMatrix}
use Rattle.matrix.specs.Dense.{no_block}
use Rattle.matrix.specs.Calls.{product_of}
use Rattle.block_exports.specs.Chain.{chain}

pub chain_none : (x y : DenseMatrix) → chain x y 0 ≡ x
unfolding chain fold
chain_none x y = refl

pub chain_more : (x y : DenseMatrix) (k : ℕ) → chain x y (k + 1) ≡ result_unwrap_or (product_of (chain x y k) y) no_block
unfolding chain
chain_more x y k = fold_more k (λ m z. result_unwrap_or (product_of z y) no_block) x
