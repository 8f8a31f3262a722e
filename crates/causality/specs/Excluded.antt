-- Demand 3 excludes a solver that reads later data: the transient run but for G(0,0), which it takes from free at the last point. Assumes nothing.
use Rattle.std.specs.Prelude.{◌≡◌, ◌&&◌, ◌-◌, ◌<◌}
use Rattle.lists.specs.Prelude.{refl, sym, ap, ◌∙◌, true, cond, ℕ, arith, eqb, get_or, nan, binary64, to_bits}
use Rattle.std.specs.Float.Ieee as Ieee
use Rattle.complex.specs.declared.Complex.{Complex}
use Rattle.refusal.specs.Verdict.{pass, zeroed}
use Rattle.block.specs.Agreement.{Agree}
use Rattle.two_time.specs.Layout.{TwoTime}
use Rattle.transient_run.specs.Calls.{Run, solved, is_accepted, kernel_made, lesser_advanced_made, verdict_of}
use Rattle.causality.specs.Statement.{Solver, of, SameTo, Demand3}
use Rattle.causality.specs.Stages.{SquareTo}
use Rattle.causality.specs.Solvers.{left-made, sizes, solver_of, read_left}
use Rattle.causality.specs.Made.{call_retarded, call_lesser}
use Rattle.causality.specs.Prefix.{run, passes, short, two, short-passes, to_zero, one_entry}

abbrev last : Run → ℕ
last r = r.points - 1

abbrev late_retarded : Run → TwoTime
late_retarded r t u a b = cond (eqb t 0 && eqb u 0) (of r r.free (last r) (last r) a b) (call_retarded 0 r.points r t u a b)

abbrev pub late_start : Solver
late_start = solver_of late_retarded (λ r. call_lesser 0 r.points r) (λ r. kernel_made 0 r.points r) (λ r. lesser_advanced_made 0 r.points r)

-- what it leaves at G(0,0)
pub starts-late : (r : Run) → verdict_of 0 r.points r ≡ pass → 0 < r.points → 0 < r.orbitals → of r (late_start r).retarded 0 0 0 0 ≡ of r r.free (last r) (last r) 0 0
unfolding solver_of
starts-late r v hp ho = rw (left-made zeroed (verdict_of 0 r.points r) _ r.retarded v) (read_left r (late_retarded r) r.retarded (sizes 0 r.points r v).1 0 0 hp hp 0 0 ho ho)

pub accepted : (r : Run) → verdict_of 0 r.points r ≡ pass → is_accepted (late_start r).answer ≡ true
unfolding solver_of solved is_accepted
accepted r v = rw v

-- two accepted runs that agree up to 0; free's last entries are 1 and 2
pub start-same : SameTo 0 run (short two)
start-same =
    record {
      orbitals = refl;
      times = to_zero (λ i. get_or run.times i nan ≡ get_or (short two).times i nan) refl;
      free = λ t u ht hu. at-start (of run run.free) (of (short two) (short two).free) refl t u ht (omega arith);
      self_energy = λ t u ht hu. at-start (of run run.self_energy) (of (short two) (short two).self_energy) refl t u ht (omega arith);
      lesser_self_energy = at-start (of run run.lesser_self_energy) (of (short two) (short two).lesser_self_energy) refl;
      start = λ a b ha hb. refl;
    }
  where
    at-start : (y z : TwoTime) → y 0 0 0 0 ≡ z 0 0 0 0 → SquareTo 1 0 y z
    at-start y z h t u ht hu = to_zero (λ i. Agree 1 (y i u) (z i u)) (to_zero (λ j. Agree 1 (y 0 j) (z 0 j)) (one_entry (y 0 0) (z 0 0) h) u hu) t ht
