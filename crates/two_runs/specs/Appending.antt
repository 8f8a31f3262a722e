-- A run over the first points, then one append after another at the same desk of the session, all lent the same operands; the first refusal ends it
-- (document 02, L1, L3 and L13).
use Rattle.std.specs.Prelude.{Result, Ok, Err, ◌≡◌, ◌+◌, ◌-◌}
use Rattle.lists.specs.Prelude.{ℕ, zero, suc, min}
use Rattle.refusal.specs.declared.Refusal.{Refusal}
use Rattle.transient_run.specs.Products.{count_of}
use Rattle.transient_run.specs.Form.{start_products}
use Rattle.transient_run.specs.Calls.{Run, run_of, booked, transient_run, append_point}
use Rattle.causality.specs.Sessions.{Room}
use Rattle.causality.specs.History.{together}
use Rattle.two_runs.specs.Promises.{Step, step_of, run_step}

-- the call that is told p points: a run on what r's outputs and scratch hold, and an append after calls
abbrev pub over : Run → ℕ → Run
over r p =
    run_of r.form r.session r.desk (record { points = p; capacity = r.capacity; orbitals = r.orbitals }) r.tolerance r.times r.free r.self_energy r.lesser_self_energy
    r.retarded r.lesser r.kernel r.lesser_advanced

abbrev pub onto : Run → ℕ → Step → Run
onto r p s =
    let o = s.outcome in
    run_of r.form s.session r.desk (record { points = p; capacity = r.capacity; orbitals = r.orbitals }) r.tolerance r.times r.free r.self_energy r.lesser_self_energy o.retarded o.lesser
    o.kernel o.lesser_advanced

abbrev pub append_step : Run → ℕ → Step → Step
append_step r p s = step_of s.session r.desk (append_point (onto r p s))

-- another call is made only where those before were accepted: what they left, or what it leaves
unfoldable pub next : Result ℕ Refusal → Step → Step → Step
next (Ok count) before after = after
next (Err refusal) before after = before

-- k appends, from p points on, after calls that ended in s
unfoldable pub appends : Run → ℕ → Step → ℕ → Step
appends r p s zero = s
appends r p s (suc k) = let before = appends r p s k in next before.outcome.answer before (append_step r (p + k) before)

-- from the first points, or from all where there are no more, up to all of r
unfoldable pub run_then_append : ℕ → Run → Step
run_then_append first r = let start = min first r.points in appends r start (run_step (over r start)) (r.points - start)

-- "the buffers hold the run over all points", and "a run and its appends count like" it: that run, in the session that they began in, is accepted with its
-- count and leaves what they left; the desk's counter has room for the count, and the session is as after that run alone: the desk's counter has moved by the
-- count, and "no other desk's counter changes"
pub record AllPoints (r : Run) (s : Step) : Type 0 where
  pub left : transient_run r ≡ together (count_of (start_products r.form) r.points) s.outcome
  pub session : s.session ≡ booked r.session r.desk (Ok (count_of (start_products r.form) r.points))
  pub room : Room r.session r.desk (count_of (start_products r.form) r.points)
