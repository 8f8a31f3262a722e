-- Document 02, L3: "a session adds it to one 64-bit counter, opened at the total carried over from the session before. ... A refused run adds nothing."
-- L13: "Keep eight counters, one for each desk numbered 0 to 7, in place of the session's one, each opened at the total its own desk carries over. A run or
-- append names its desk; no other desk's counter changes, and over any list of calls from zero the eight sum to the counts of the accepted ones."
-- Lists of calls in a session: runs and appends, accepted or refused, at any desks.
use Rattle.std.specs.Prelude.{Result, Ok, Err, ◌∷◌, ◌+◌, ◌≤◌, ◌<◌}
use Rattle.lists.specs.Prelude.{List, [], ℕ, Bool, true, cond, eqb, replicate}
use Rattle.refusal.specs.declared.Refusal.{Refusal}
use Rattle.transient_run.specs.declared.Session.{Session}
use Rattle.transient_run.specs.Products.{total}
use Rattle.transient_run.specs.Calls.{Run, counter_of, run_of, booked, transient_run, append_point}

-- "from zero"
abbrev pub opened : Session
opened = record { products = replicate 8 0 }

-- the same call in a session, at a desk
abbrev pub in_session : Session → ℕ → Run → Run
in_session session desk r =
    run_of r.form session desk (record { points = r.points; capacity = r.capacity; orbitals = r.orbitals }) r.tolerance r.times r.free r.self_energy r.lesser_self_energy r.retarded r.lesser
    r.kernel r.lesser_advanced

-- what 22 and 17 ask: a desk of the eight, whose counter has room for a count
pub record Room (session : Session) (desk count : ℕ) : Type 0 where
  pub known : desk < 8
  pub fits : counter_of session desk + count ≤ 0xffff_ffff_ffff_ffff

-- a call: a run or an append, given anything; "A run or append names its desk"
pub data Call : Type 0 where
  run : Run → Call
  append : Run → Call

unfoldable pub desk_of : Call → ℕ
desk_of (run r) = r.desk
desk_of (append r) = r.desk

unfoldable pub answer_in : Session → Call → Result ℕ Refusal
answer_in session (run r) = (transient_run (in_session session r.desk r)).answer
answer_in session (append r) = (append_point (in_session session r.desk r)).answer

-- the session after a call that is made in it, and after calls that are made one after another
abbrev pub after_call : Session → Call → Session
after_call session c = booked session (desk_of c) (answer_in session c)

unfoldable pub after : Session → List Call → Session
after session [] = session
after session (c ∷ calls) = after (after_call session c) calls

-- the count that an answer carries
unfoldable pub carried : Result ℕ Refusal → ℕ
carried (Ok count) = count
carried (Err r) = 0

-- "the counts of the accepted ones" among the calls that are asked for: all, or those at a desk
unfoldable pub counts : (Call → Bool) → Session → List Call → ℕ
counts asked session [] = 0
counts asked session (c ∷ calls) = cond (asked c) (carried (answer_in session c)) 0 + counts asked (after_call session c) calls

abbrev pub all : Call → Bool
all c = true

abbrev pub at : ℕ → Call → Bool
at desk c = eqb (desk_of c) desk

-- "the eight" together
abbrev pub eight : Session → ℕ
eight session = total 8 (λ desk. counter_of session desk)
