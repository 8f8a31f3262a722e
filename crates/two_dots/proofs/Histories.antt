-- L12 of histories: a run and any list of appends leave what the run over all points leaves (document 02, L1), so two of them leave the same first group.
-- Assumes nothing.
use Rattle.lists.specs.Prelude.{refl, ℕ, arith}
use Rattle.transient_run.specs.Calls.{Run, Outcome, is_accepted}
use Rattle.causality.specs.Sessions.{opened, in_session}
use Rattle.causality.specs.History.{History, together}
use Rattle.causality.proofs.Appends.{append_law, in-opened}
use Rattle.two_dots.specs.Statement.{Split, Uncoupled, SameGiven, TwoDots}
use Rattle.two_dots.proofs.Theorem.{two_dots}

-- at desk 0 of a session opened at zero
abbrev alone : Run → Run
alone = in_session opened 0

split-alone : {first : Split} {r : Run} → Uncoupled first r → Uncoupled first (alone r)
split-alone s = record { free = s.free; self_energy = s.self_energy; lesser_self_energy = s.lesser_self_energy; start = s.start }

same-alone : {first : Split} {r r' : Run} → SameGiven first r r' → SameGiven first (alone r) (alone r')
same-alone s =
    record {
      points = s.points;
      orbitals = s.orbitals;
      times = s.times;
      free = s.free;
      self_energy = s.self_energy;
      lesser_self_energy = s.lesser_self_energy;
      start = s.start;
    }

-- any two histories, of any capacities, sessions and desks; r and r' are the runs over all points
pub histories_dots : {r r' : Run} {o o' : Outcome} {count count' : ℕ} → History r o count → History r' o' count' → TwoDots r r' o o'
histories_dots {r} {r'} {o} {o'} {count} {count'} h h' first d =
    let law = append_law h in
    let law' = append_law h' in
    let dots : TwoDots (alone r) (alone r') (together count o) (together count' o') = rw (← (in-opened law 0 (omega arith)), ← (in-opened law' 0 (omega arith))) (two_dots (alone r) (alone r')) in
    let left = dots first
    (record {
      accepted = unfold is_accepted in refl;
      accepted' = unfold is_accepted in refl;
      uncoupled = split-alone d.uncoupled;
      uncoupled' = split-alone d.uncoupled';
      same = same-alone d.same;
    }) in
    record { retarded = left.retarded; lesser = left.lesser; flows = left.flows }
