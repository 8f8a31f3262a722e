-- Counters of another length, and eight: then the call runs in the session that they tell.
use Rattle.refusal.specs.declared.Refusal.{Refusal}
use Rattle.std.specs.Prelude.{Result, ◌≡◌}
use Rattle.lists.specs.Prelude.{sym, ap, ◌∙◌, ℕ}
use Rattle.transient_run.specs.declared.Session.{Session}
use Rattle.transient_run.specs.Form.Form.{empty}
use Rattle.transient_run.specs.Calls.{Outcome, run_of, booked, transient_run}
use Rattle.counters.specs.Counters.{session_of, counted_run}
use Rattle.counters.specs.Counting.{answer-written, session-left, session_in_lem, counters_after_lem, run-counted, run-desk, run-uncounted}
use Rattle.run_exports.proofs.leechgrommet_transient_run.Goals as goal

pub returns-then-counters-ne8 : goal.returns-then-counters-ne8
returns-then-counters-ne8 c =
    let unfit = run-uncounted _ c.if-counters-ne8.true c.no_counters.ensures in
    (rw unfit.verdict at c.write_answer.ensures, unfit.counters, unfit.slices.0, unfit.slices.1, unfit.slices.2, unfit.slices.3)

pub returns : goal.returns
returns c =
    let x = c.args in
    let long = c.if-counters-ne8.false in
    let session = session_of x.counters.now in
    let opened = c.session_of-session.ensures ∙ session_in_lem _ long in
    let run = λ (s : Session). run_of empty s x.desk (record { points = x.points; capacity = x.capacity; orbitals = x.orbitals }) x.tolerance x.times.now x.free.now x.self_energy.now x.lesser_self_energy.now
    x.retarded.now x.lesser.now x.kernel.now x.lesser_advanced.now in
    let made = run c.session_of-session.result in
    let same : transient_run made ≡ counted_run (run session) = ap (λ (s : Session). transient_run (run s)) opened ∙ run-counted (run session) long in
    let v = c.transient_run-made.ensures in
    let answer = v.0 ∙ ap (λ (o : Outcome). o.answer) same in (
      c.write_booked.ensures.0 ∙ answer-written answer _ _,
      c.write_booked.ensures.1
          ∙ counters_after_lem _ long x.desk c.transient_run-made.result.answer c.transient_run-made.result.session (v.1 ∙ session-left (sym v.0) x.desk opened) (run-desk made v.0)
          ∙ ap (λ (a : Result ℕ Refusal). (booked session x.desk a).products) answer,
      v.2 ∙ ap (λ (o : Outcome). o.retarded) same,
      v.3 ∙ ap (λ (o : Outcome). o.lesser) same,
      v.4 ∙ ap (λ (o : Outcome). o.kernel) same,
      v.5 ∙ ap (λ (o : Outcome). o.lesser_advanced) same,
    )
