-- A chain of products of blocks.
use Rattle.std.specs.Result.{result_unwrap_or}
use Rattle.lists.specs.Prelude.{ℕ, List, get_or, Float, nan}
use Rattle.lists.specs.Indexed.{fold}
use Rattle.matrix.specs.declared.DenseMatrix.{DenseMatrix}
use Rattle.matrix.specs.Dense.{no_block}
use Rattle.matrix.specs.Calls.{from_numbers, product_of}

-- x after `turns` products with y on the right
unfoldable pub chain : DenseMatrix → DenseMatrix → ℕ → DenseMatrix
chain x y turns = fold turns (λ k z. result_unwrap_or (product_of z y) no_block) x

unfoldable pub chained : List Float → List Float → ℕ → ℕ → Float
chained a b size turns = get_or (chain (result_unwrap_or (from_numbers size size a) no_block) (result_unwrap_or (from_numbers size size b) no_block) turns).values 0 nan
