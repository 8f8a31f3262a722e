-- One block more, or the first that is not finite.
use Rattle.std.proofs.Common.{arith, ◌||◌, ◌+◌, ◌-◌, ◌*◌, Bool, List, not, length}
use Rattle.lists.specs.Prelude.{sym, ap, ◌∙◌, ltb, ℕ, Float}
use Rattle.lists.specs.Indexed.{all_in}
use Rattle.complex.specs.declared.Complex.{Complex}
use Rattle.complex.specs.Arithmetic.{cfinite}
use Rattle.block.specs.Block.{lay_out}
use Rattle.block.specs.Length.{length-block}
use Rattle.two_time.specs.Parts.{part-within}
use Rattle.lanes.specs.Filled.{filled_none, filled_next, filled-all, fails-one}
use Rattle.lanes.specs.Lanes.{lane_at}
use Rattle.lanes.proofs.Replaced.{length-put}
use Rattle.lanes.proofs.write_blocks.Goals as goal

abbrev at : List Float → ℕ → ℕ → ℕ → ℕ → Complex
at totals n p a b = lane_at totals a (p * n + b)

abbrev laid : List Float → ℕ → ℕ → List Float
laid totals n p = lay_out n n (at totals n p)

abbrev finite : List Float → ℕ → ℕ → ℕ → Bool
finite totals n until p = all_in n n (λ a b. not (ltb p until) || cfinite (at totals n p a b))

pub loop-p-init : goal.loop-p-init
loop-p-init c = filled_none _ _ _ _

pub returns-then-not-finite : goal.returns-then-not-finite
returns-then-not-finite c =
    let x = c.args in
    fails-one _ (finite x.totals.now x.orbitals x.until) (laid x.totals.now x.orbitals) c.loop-p.p _ c.loop-p-test.true (sym c.write_block-finite.ensures.0 ∙ c.if-not-finite.true)

pub loop-p-preserved : goal.loop-p-preserved
loop-p-preserved c =
    let x = c.args in
    let n = x.orbitals in
    let p = c.loop-p.p in
    let v = 2 * (n * n) in
    let ok = c.if-not-finite.false in
    let block = c.write_block-finite.ensures.1 ok in
    let part = part-within v c.loop-p-test.true in
    filled_next x.places (finite x.totals.now n x.until) (laid x.totals.now n) v (λ k. length-block n (at x.totals.now n k)) x.out.now p (p * v + v - p * v) c.loop-p.out c.write_block-finite.new.out
    c.loop-p.invariant c.loop-p-test.true (sym c.write_block-finite.ensures.0 ∙ ok) block (omega arith)
    (length-put (p * v) (p * v + v - p * v) c.loop-p.out c.write_block-finite.new.out (ap length block ∙ length-block n (at x.totals.now n p) ∙ omega arith) (omega (arith, c.requires.3, c.loop-p.invariant.long)))

pub returns : goal.returns
returns c =
    let x = c.args in
    let n = x.orbitals in
    filled-all x.places (finite x.totals.now n x.until) (laid x.totals.now n) (2 * (n * n)) (λ k. length-block n (at x.totals.now n k)) x.out.now c.loop-p.p _ c.loop-p.invariant c.loop-p-test.false c.requires.3
