-- `run_file::decoding::numbers` meets its contract: a number more, and all. Assumes nothing.
use Rattle.lists.specs.Prelude.{arith}
use Rattle.lists.specs.Singles.{singles-none, singles-step}
use Rattle.run_file.specs.Bytes.{number}
use Rattle.run_file.specs.LittleEndian.{all-numbers}
use Rattle.run_file.proofs.decoding.numbers.Goals as goal

pub loop-k-init : goal.loop-k-init
loop-k-init c = singles-none _ _

pub loop-k-preserved : goal.loop-k-preserved
loop-k-preserved c =
    rw (c.loop-k.invariant, c.from_bits.ensures, c.word.ensures) (singles-step _ (λ j. number _ _) c.loop-k.k (omega arith))

pub returns : goal.returns
returns c = all-numbers _ _ _ _ c.loop-k.auto.k-end c.loop-k-test.false c.loop-k.invariant
