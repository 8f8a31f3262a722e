-- A solver that reads later data is excluded. Assumes nothing.
use Rattle.std.specs.Prelude.{◌≡◌}
use Rattle.lists.specs.Prelude.{sym, ap, ◌∙◌, ℕ, arith, binary64, to_bits}
use Rattle.std.specs.Float.Ieee as Ieee
use Rattle.complex.specs.declared.Complex.{Complex}
use Rattle.causality.specs.Statement.{of, Demand3}
use Rattle.causality.specs.Prefix.{run, passes, short, two, short-passes}
use Rattle.causality.specs.Excluded.{late_start, starts-late, accepted, start-same}

pub late_start_excluded : Demand3 late_start → ⊥
unfolding Ieee.of_bits to_bits
late_start_excluded demand =
    let rows = (demand run (short two)).blind 0
    (record { within = omega arith; within' = omega arith; accepted = accepted run passes; accepted' = accepted (short two) short-passes.1; same = start-same }) in
    let same : of run run.free 2 2 0 0 ≡ of (short two) (short two).free 1 1 0 0 =
    sym (starts-late run passes (omega arith) (omega arith)) ∙ rows.retarded 0 0 (omega arith) (omega arith) (omega arith) 0 0 (omega arith) (omega arith)
    ∙ starts-late (short two) short-passes.1 (omega arith) (omega arith) in
    let bits : ◌≡◌ {A = ℕ} 0x3ff0_0000_0000_0000 0x4000_0000_0000_0000 = ap (λ (z : Complex). to_bits binary64 z.re) same in
    omega arith
