-- Document 02, L1: "After an accepted run and any list of accepted appends, each told the n and capacity of the call before and the points it left, with
-- inputs at old points, outputs and scratch untouched between calls, the buffers hold the run over all points, and demand 3 holds of them as of that run."
-- L3: "A run and its appends count like the run over all points."
use Rattle.std.specs.Prelude.{Ok, ◌≡◌, ◌+◌, ◌≤◌, ◌<◌}
use Rattle.lists.specs.Prelude.{ℕ, suc}
use Rattle.transient_run.specs.declared.Session.{Session}
use Rattle.transient_run.specs.Products.{count_of}
use Rattle.transient_run.specs.Form.{start_products}
use Rattle.transient_run.specs.Calls.{Run, run_of, Outcome, transient_run, append_point}
use Rattle.causality.specs.Statement.{SameTo, SameKind}
use Rattle.causality.specs.Sessions.{in_session, Room}

-- An append, given as c, after calls that were those of the run r and left o: it is told the points and the capacity that they left; its n is theirs, and
-- its inputs agree with theirs up to every old index, as demand 3 supposes it; L5: "L1's law, and the count of a run with its appends, ask the same form and
-- g0 in each call"; its outputs and scratch are what they left. The session, the desk and
-- the tolerance are free, and so are inputs at new points and in the room beyond.
pub record Onto (r : Run) (o : Outcome) (c : Run) : Type 0 where
  pub points : r.points ≡ c.points
  pub capacity : r.capacity ≡ c.capacity
  pub form : SameKind r.form c.form
  pub inputs : (k : ℕ) → k < r.points → SameTo k r c
  pub retarded : o.retarded ≡ c.retarded
  pub lesser : o.lesser ≡ c.lesser
  pub kernel : o.kernel ≡ c.kernel
  pub lesser_advanced : o.lesser_advanced ≡ c.lesser_advanced

-- the run over one point more: the append's inputs and tolerance, on what r's outputs and scratch held
abbrev pub longer : Run → Run → Run
longer r c =
    run_of c.form r.session r.desk (record { points = suc r.points; capacity = c.capacity; orbitals = c.orbitals }) c.tolerance c.times c.free c.self_energy c.lesser_self_energy r.retarded r.lesser
    r.kernel r.lesser_advanced

-- An accepted run and any list of accepted appends, which left o and whose counts sum to `count`. They are the calls of the run r: over all points, with the
-- last call's inputs and tolerance, on what the outputs and the scratch held before the first call, in the first call's session and at its desk.
pub data History : Run → Outcome → ℕ → Type 0 where
  ran : (r : Run) {count : ℕ} → (transient_run r).answer ≡ Ok count → History r (transient_run r) count
  appended : {r : Run} {o : Outcome} {count more : ℕ} → History r o count → (c : Run) → Onto r o c → (append_point c).answer ≡ Ok more → History (longer r c) (append_point c) (count + more)

-- what accepted calls that left o answer and leave together
abbrev pub together : ℕ → Outcome → Outcome
together count o = record { answer = Ok count; retarded = o.retarded; lesser = o.lesser; kernel = o.kernel; lesser_advanced = o.lesser_advanced }

-- The law of appends, of such calls: they count like the run over all points, and that run, at any desk with room for its count (each desk of a session
-- opened at zero has), is accepted, carries that count and leaves what they left.
pub record LikeRun (r : Run) (o : Outcome) (count : ℕ) : Type 0 where
  pub counts : count ≡ count_of (start_products r.form) r.points
  pub fits : count ≤ 0xffff_ffff_ffff_ffff
  pub leaves : (session : Session) (desk : ℕ) → Room session desk count → transient_run (in_session session desk r) ≡ together count o
