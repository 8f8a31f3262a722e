-- One more product, and what the turns leave. Assumes nothing.
use Rattle.lists.specs.Prelude.{sym, le_antisymm}
use Rattle.block_exports.specs.Chain.{chained}
use Rattle.block_exports.proofs.Steps.{chain_more}
use Rattle.block_exports.proofs.leechgrommet_product_chain.Goals as goal

pub loop-preserved : goal.loop-preserved
loop-preserved c = rw (c.multiply-made.ensures, c.unwrap_or.ensures, c.loop.invariant) (sym (chain_more _ _ c.loop.counter))

pub returns : goal.returns
unfolding chained
returns c = rw (c.unwrap_or-2.ensures, c.loop.invariant, le_antisymm c.loop.auto.counter-end c.loop-test.false, c.unwrap_or-y.ensures, c.from_numbers-made.ensures, c.from_numbers.ensures)
