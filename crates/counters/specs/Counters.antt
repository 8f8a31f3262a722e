-- A run or an append at a desk of a session as it crosses: the session's counters (document 02, L3 and L13) are passed as a slice of eight numbers, desk
-- 0's first, which afterwards holds those of the session that the call leaves (`booked`): an accepted call alone moves its desk's.
use Rattle.refusal.specs.declared.Refusal.{Refusal}
use Rattle.std.specs.Prelude.{Result, Ok, Err, ◌&&◌}
use Rattle.lists.specs.Prelude.{ℕ, suc, false, cond, List, eqb, ltb, length, get_or, set, replicate}
use Rattle.refusal.specs.Verdict.{pass, Verdict, ◌then◌}
use Rattle.refusal.specs.Checks.{desk_known}
use Rattle.transient_run.specs.declared.Session.{Session}
use Rattle.transient_run.specs.Form.{form_sizes}
use Rattle.transient_run.specs.Calls.{Run, Outcome, solved, transient_run, append_point}

-- the verdict of its answer
abbrev pub solved_verdict : Result ℕ Refusal → Verdict
solved_verdict (Ok count) = pass
solved_verdict (Err r) = Err r

-- the session whose counters the slice holds
abbrev pub session_of : List ℕ → Session
session_of counters = record { products = counters }

-- and of a slice of any length: another than eight has none, and stands for zeros
unfoldable pub session_in : List ℕ → Session
session_in counters = cond (eqb (length counters) 8) (session_of counters) (session_of (replicate 8 0))

-- what a slice of any length holds after an answer and its session: an accepted one leaves the desk's counter in its place, if it has one
unfoldable pub counters_after : Result ℕ Refusal → Session → ℕ → List ℕ → List ℕ
counters_after (Ok count) session desk counters = cond (ltb desk 8 && ltb desk (length counters)) (set counters desk (get_or session.products desk 0)) counters
counters_after (Err r) session desk counters = counters

-- "Has each lent slice its exact length? 3", of counters that are not eight: 22 and checks 1 and 2, the block's too, come before it, and every slice is as it
-- was
unfoldable pub uncounted : ℕ → Run → Outcome
uncounted points r =
    record {
      answer = solved (desk_known r.desk then form_sizes r.form r.capacity points r.orbitals false) 0;
      retarded = r.retarded;
      lesser = r.lesser;
      kernel = r.kernel;
      lesser_advanced = r.lesser_advanced;
    }

-- the run, and the append, whose check 1 counts the new point too
unfoldable pub counted_run : Run → Outcome
counted_run r = cond (eqb (length r.session.products) 8) (transient_run r) (uncounted r.points r)

unfoldable pub counted_append : Run → Outcome
counted_append r = cond (eqb (length r.session.products) 8) (append_point r) (uncounted (suc r.points) r)
