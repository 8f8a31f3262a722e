-- One row more, or the first that is not finite.
use Rattle.std.proofs.Common.{arith, ◌||◌, ◌+◌, ◌-◌, ◌*◌, Bool, List, not, length}
use Rattle.lists.specs.Prelude.{sym, ap, ◌∙◌, mul_left_comm, ℕ, Float}
use Rattle.lists.specs.Indexed.{all_below}
use Rattle.complex.specs.declared.Complex.{Complex}
use Rattle.complex.specs.Arithmetic.{cfinite}
use Rattle.complex.specs.Filling.{length-cells}
use Rattle.block.specs.Block.{lay_out}
use Rattle.two_time.specs.Parts.{part-within}
use Rattle.lanes.specs.Filled.{filled_none, filled_next, filled-all, fails-one}
use Rattle.lanes.specs.Lanes.{lane_at}
use Rattle.lanes.specs.Writing.{row_of}
use Rattle.lanes.proofs.Replaced.{length-put}
use Rattle.lanes.proofs.write_block.Goals as goal

abbrev at : List Float → ℕ → ℕ → ℕ → Complex
at totals from a b = lane_at totals a (from + b)

abbrev finite : List Float → ℕ → ℕ → Bool → ℕ → Bool
finite totals from n asked a = all_below n (λ b. not asked || cfinite (at totals from a b))

pub loop-a-init : goal.loop-a-init
loop-a-init c = filled_none _ _ _ _

pub returns-then-not-write_entries : goal.returns-then-not-write_entries
unfolding lay_out
returns-then-not-write_entries c =
    let x = c.args in
    fails-one _ (finite x.totals.now x.from x.orbitals x.asked) (row_of x.orbitals (at x.totals.now x.from)) c.loop-a.a _ c.loop-a-test.true (sym c.write_entries.ensures.0 ∙ c.if-not-write_entries.true)

pub loop-a-preserved : goal.loop-a-preserved
loop-a-preserved c =
    let x = c.args in
    let n = x.orbitals in
    let a = c.loop-a.a in
    let v = 2 * n in
    let f = at x.totals.now x.from in
    let ok = c.if-not-write_entries.false in
    let row = c.write_entries.ensures.1 ok in
    let part = part-within (2 * n) c.loop-a-test.true in
    let room = mul_left_comm n 2 n in
    filled_next n (finite x.totals.now x.from n x.asked) (row_of n f) v (λ k. length-cells n (f k)) x.out.now a (a * v + v - a * v) c.loop-a.out c.write_entries.new.out
    c.loop-a.invariant c.loop-a-test.true (sym c.write_entries.ensures.0 ∙ ok) row (omega arith)
    (length-put (a * v) (a * v + v - a * v) c.loop-a.out c.write_entries.new.out (ap length row ∙ length-cells n (f a) ∙ omega arith) (omega (arith, c.requires.3, c.loop-a.invariant.long)))

pub returns : goal.returns
unfolding lay_out
returns c =
    let x = c.args in
    let n = x.orbitals in
    let f = at x.totals.now x.from in
    filled-all n (finite x.totals.now x.from n x.asked) (row_of n f) (2 * n) (λ k. length-cells n (f k)) x.out.now c.loop-a.a _ c.loop-a.invariant c.loop-a-test.false (c.requires.3 ∙ sym (mul_left_comm n 2 n))
