-- Calls that are all accepted are a history of the run over all points, so they leave what it leaves and count like it; a refusal stays. Assumes nothing.
use Rattle.std.specs.Prelude.{Result, Ok, Err, ◌≡◌, ◌+◌, ◌-◌, ◌≤◌}
use Rattle.lists.specs.Prelude.{refl, sym, ap, ◌∙◌, true, ℕ, zero, suc, min, le_antisymm, add-zero, add-suc, arith}
use Rattle.lists.specs.Agreement.{never}
use Rattle.refusal.specs.declared.Refusal.{Refusal}
use Rattle.transient_run.specs.Products.{count_of}
use Rattle.transient_run.specs.Form.{start_products}
use Rattle.transient_run.specs.Calls.{Run, is_accepted, booked, worked, transient_run, append_point}
use Rattle.causality.specs.Statement.{SameTo}
use Rattle.causality.specs.Sessions.{Room}
use Rattle.causality.specs.Counter.{room, books_both, room_for-both}
use Rattle.causality.specs.History.{History, together}
use Rattle.causality.specs.History.History.{ran, appended}
use Rattle.causality.proofs.Appends.{own-kind, append_law}
use Rattle.two_runs.specs.Promises.{Step, run_step}
use Rattle.two_runs.specs.Appending.{over, onto, append_step, next, appends, run_then_append, AllPoints}

-- ---- calls that are accepted

module _ (r : Run) where
  -- all are lent the same operands
  same_inputs : (p k : ℕ) (s : Step) → SameTo k (over r p) (onto r p s)
  same_inputs p k s =
      record {
        orbitals = refl;
        times = λ i hi. refl;
        free = λ t u ht hu a b ha hb. refl;
        self_energy = λ t u ht hu a b ha hb. refl;
        lesser_self_energy = λ t u ht hu a b ha hb. refl;
        start = λ a b ha hb. refl;
      }

  -- to p points they are a history, and the desk's counter has moved by their counts
  record AcceptedTo (p : ℕ) (s : Step) : Type 0 where
    count : ℕ
    history : History (over r p) s.outcome count
    session : s.session ≡ booked r.session r.desk (Ok count)
    room : Room r.session r.desk count

  begins : (p : ℕ) (a : Result ℕ Refusal) → (transient_run (over r p)).answer ≡ a → is_accepted a ≡ true → AcceptedTo p (run_step (over r p))
  unfolding is_accepted transient_run worked
  begins p (Ok k) e ok = record { count = k; history = ran (over r p) e; session = rw e; room = room 0 p (over r p) e }
  begins p (Err x) e ok = never ok

  goes_on : (p : ℕ) (s : Step) → AcceptedTo p s → (a : Result ℕ Refusal) → (append_point (onto r p s)).answer ≡ a → is_accepted a ≡ true → AcceptedTo (suc p) (append_step r p s)
  unfolding is_accepted append_point worked
  goes_on p s before (Ok k) e ok =
      let longer : History (over r (suc p)) (append_point (onto r p s)) (before.count + k) =
      appended before.history (onto r p s)
      (record { points = refl; capacity = refl; form = own-kind r.form; inputs = λ j l. same_inputs p j s; retarded = refl; lesser = refl; kernel = refl; lesser_advanced = refl })
      e in
      record {
        count = before.count + k;
        history = longer;
        session = rw (e, before.session) (books_both r.session r.desk before.count k);
        room = room_for-both r.session r.desk before.count k (append_law longer).fits (rw before.session at (room p (suc p) (onto r p s) e));
      }
  goes_on p s before (Err x) e ok = never ok

  one_more : (p : ℕ) (s : Step) (a : Result ℕ Refusal) → s.outcome.answer ≡ a → (is_accepted s.outcome.answer ≡ true → AcceptedTo p s) → is_accepted (next a s (append_step r p s)).outcome.answer ≡ true
      → AcceptedTo (suc p) (next a s (append_step r p s))
  unfolding next is_accepted
  one_more p s (Ok k) e before ok = goes_on p s (before (rw e)) _ refl ok
  one_more p s (Err x) e before ok = never (rw e at ok)

  so_far : (first k : ℕ) → is_accepted (appends r first (run_step (over r first)) k).outcome.answer ≡ true → AcceptedTo (first + k) (appends r first (run_step (over r first)) k)
  unfolding appends
  so_far first zero ok = rw (add-zero first) (begins first _ refl ok)
  so_far first (suc k) ok = rw (add-suc first k) (one_more (first + k) (appends r first (run_step (over r first)) k) _ refl (λ before. so_far first k before) ok)

  of-all : (p : ℕ) (s : Step) → p ≡ r.points → AcceptedTo p s → AllPoints r s
  of-all p s e h =
      let law = append_law h.history in
      let number : h.count ≡ count_of (start_products r.form) r.points = law.counts ∙ ap (λ (n : ℕ). count_of (start_products r.form) n) e in
      record {
        left = ap (λ (q : ℕ). transient_run (over r q)) (sym e) ∙ law.leaves r.session r.desk h.room ∙ ap (λ (n : ℕ). together n s.outcome) number;
        session = h.session ∙ ap (λ (n : ℕ). booked r.session r.desk (Ok n)) number;
        room = rw number at h.room;
      }

whole : (first : ℕ) (r : Run) → is_accepted (run_then_append first r).outcome.answer ≡ true → AllPoints r (run_then_append first r)
unfolding run_then_append
whole first r ok =
    let start = min first r.points in
    let all : start + (r.points - start) ≡ r.points = omega arith in
    of-all r _ _ all (so_far r start (r.points - start) ok)

-- ---- one call after another, as the code makes them: from p points on, onto what calls left as o

module _ (r : Run) (p : ℕ) (o : Step) where
  pub none_yet : o ≡ appends r p o (p - p)
  unfolding appends
  none_yet = let none : p - p ≡ 0 = omega arith in rw none

  stays : (k j : ℕ) (x : Refusal) → (appends r p o k).outcome.answer ≡ Err x → appends r p o (k + j) ≡ appends r p o k
  unfolding appends next
  stays k zero x e = rw (add-zero k)
  stays k (suc j) x e = rw (add-suc k j, stays k j x e, e)

  -- at q points: an append, a refusal, or no point more
  module _ (q : ℕ) (from : p ≤ q) {before : Step} (so : before ≡ appends r p o (q - p)) where
    pub go_on : {count : ℕ} {after : Step} → before.outcome.answer ≡ Ok count → after ≡ append_step r q before → after ≡ appends r p o (q + 1 - p)
    unfolding appends next
    go_on ok e =
        let at : p + (q - p) ≡ q = omega arith in
        let more : q + 1 - p ≡ suc (q - p) = omega arith in
        e ∙ rw (more, at, ← so, ok)

    pub refused : {x : Refusal} (all : ℕ) → q ≤ all → before.outcome.answer ≡ Err x → before ≡ appends r p o (all - p)
    refused {x} all within e =
        let rest : all - p ≡ q - p + (all - q) = omega arith in
        so ∙ sym (ap (appends r p o) rest ∙ stays (q - p) (all - q) x (ap (λ (z : Step). z.outcome.answer) (sym so) ∙ e))

    pub finished : (all : ℕ) → q ≤ all → all ≤ q → before ≡ appends r p o (all - p)
    finished all within past = so ∙ ap (λ (k : ℕ). appends r p o (k - p)) (le_antisymm within past)

-- at all points of r, from the first on
pub ends : (first : ℕ) (r : Run) {p : ℕ} {o after : Step} → p ≡ min first r.points → o ≡ run_step (over r p) → after ≡ appends r p o (r.points - p)
    → (after ≡ run_then_append first r) × (is_accepted after.outcome.answer ≡ true → AllPoints r after)
unfolding run_then_append
ends first r {p} {o} {after} start begun e =
    let all : after ≡ run_then_append first r = e ∙ rw (begun, start) in
    (all, λ ok. rw all (whole first r (rw (← all) ok)))
