-- After k turns what is made is the chain of k products. Assumes nothing.
use Rattle.std.proofs.Common.{◌≡◌}
use Rattle.std.specs.Result.{result_unwrap_or}
use Rattle.matrix.specs.Dense.{no_block}
use Rattle.block_exports.specs.Chain.{chain}
use Rattle.block_exports.proofs.leechgrommet_product_chain.Given as goal

abbrev pub invariant-loop : goal.invariant-loop
invariant-loop l = result_unwrap_or l.made no_block ≡ chain (result_unwrap_or l.initial.made no_block) l.y l.counter
