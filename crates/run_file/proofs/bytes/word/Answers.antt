-- `run_file::bytes::word` meets its contract: a byte more, and all. Assumes nothing.
use Rattle.std.specs.Prelude.{◌+◌, ◌*◌, ◌^◌, ◌<◌}
use Rattle.lists.specs.Prelude.{ap₂, ◌∙◌, ℕ, arith}
use Rattle.run_file.specs.LittleEndian.{no_bytes, byte_below, all_bytes, byte_more, bytes_fit}
use Rattle.run_file.proofs.bytes.word.Goals as goal

-- what the next step makes fits
step_fits : (k n b : ℕ) → k < 8 → n < 256 ^ k → b < 256 → b + 256 * n < 18446744073709551616
step_fits k n b h l m =
    let more = byte_more k n b l m in
    let most = bytes_fit (k + 1) (omega arith) in
    omega arith

pub loop-k-init : goal.loop-k-init
loop-k-init c = (no_bytes _ _, omega arith)

pub overflow_mul-n : goal.overflow_mul-n
overflow_mul-n c = omega (arith, step_fits c.loop-k.k c.loop-k.n c.byte.result (omega arith) c.loop-k.invariant.1 c.byte.ensures.1)

pub overflow_add-n : goal.overflow_add-n
overflow_add-n c = omega (arith, step_fits c.loop-k.k c.loop-k.n c.byte.result (omega arith) c.loop-k.invariant.1 c.byte.ensures.1)

pub loop-k-preserved : goal.loop-k-preserved
loop-k-preserved c =
    let i = c.loop-k.invariant in
    let told = c.byte.ensures in
    (ap₂ (λ (b n : ℕ). b + 256 * n) told.0 i.0 ∙ byte_below _ _ _ _ c.loop-k-test.true, byte_more _ _ _ i.1 told.1)

pub returns : goal.returns
returns c = all_bytes _ _ _ _ c.loop-k.auto.k-end c.loop-k-test.false c.loop-k.invariant.0
