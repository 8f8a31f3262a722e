-- A run or an append as its contract says it of its counters: a slice of eight numbers, and one of another length. Assumes nothing.
use Rattle.refusal.specs.declared.Refusal.{Refusal}
use Rattle.std.specs.Prelude.{Result, Ok, Err, ◌≡◌, ◌∷◌, ◌+◌, ◌<◌}
use Rattle.lists.specs.Prelude.{refl, sym, ap, ◌∙◌, true, false, List, [], ℕ, zero, suc, min, length, get_or, get_or-set_same, eq-eqb, ne_eqb, lt-ltb, arith, leb, leb-true, le-leb, Float}
use Rattle.refusal.specs.Verdict.{pass, Verdict, by, ask, ◌then◌}
use Rattle.refusal.specs.Checks.{large_enough, within_limits, fitting, within_capacity, desk_known}
use Rattle.refusal.specs.Agreement.{not_pass, then-pass, same_test}
use Rattle.transient_run.specs.declared.Session.{Session}
use Rattle.transient_run.specs.Form.{Form, form_sizes}
use Rattle.transient_run.specs.Form.Form.{empty, occupied}
use Rattle.transient_run.specs.FormChecks.{sizes-plain}
use Rattle.transient_run.specs.Calls.{Run, Outcome, solved, is_accepted, booked, verdict_of, worked, transient_run, append_point}
use Rattle.transient_run.specs.Checks.{accepted, desk-below}
use Rattle.answers.specs.Answer.{answer_of}
use Rattle.counters.specs.Counters.{solved_verdict, session_of, session_in, counters_after, uncounted, counted_run, counted_append}

-- ---- eight numbers

-- a list, one number after the other
unfoldable listed : ℕ → (ℕ → ℕ) → List ℕ
listed zero f = []
listed (suc k) f = f 0 ∷ listed k (λ i. f (suc i))

all_listed : (xs : List ℕ) → listed (length xs) (λ i. get_or xs i 0) ≡ xs
unfolding listed
all_listed [] = refl
all_listed (x ∷ xs) = ap (λ (ys : List ℕ). x ∷ ys) (all_listed xs)

pub eight : (xs : List ℕ) → length xs ≡ 8
    → get_or xs 0 0 ∷ get_or xs 1 0 ∷ get_or xs 2 0 ∷ get_or xs 3 0 ∷ get_or xs 4 0 ∷ get_or xs 5 0 ∷ get_or xs 6 0 ∷ get_or xs 7 0 ∷ [] ≡ xs
unfolding listed
eight xs e = ap (λ (k : ℕ). listed k (λ i. get_or xs i 0)) (sym e) ∙ all_listed xs

module _ (r : Run) where
  module _ (long : length r.session.products ≡ 8) where
    pub run-counted : transient_run r ≡ counted_run r
    unfolding counted_run
    run-counted = rw (eq-eqb (length r.session.products) 8 long)

    pub append-counted : append_point r ≡ counted_append r
    unfolding counted_append
    append-counted = rw (eq-eqb (length r.session.products) 8 long)

  -- the desk of a call that is accepted is one of the eight
  worked-desk : (old points : ℕ) (clear : List Float → List Float) → is_accepted (worked old points r clear).answer ≡ true → r.desk < 8
  unfolding worked verdict_of
  worked-desk old points clear h = desk-below points r old (then-pass _ _ (accepted (verdict_of old points r) _ h)).0

  pub run-desk : {a : Result ℕ Refusal} → a ≡ (transient_run r).answer → is_accepted a ≡ true → r.desk < 8
  unfolding transient_run
  run-desk e h = worked-desk _ _ _ (sym (ap is_accepted e) ∙ h)

  pub append-desk : {a : Result ℕ Refusal} → a ≡ (append_point r).answer → is_accepted a ≡ true → r.desk < 8
  unfolding append_point
  append-desk e h = worked-desk _ _ _ (sym (ap is_accepted e) ∙ h)

-- what is written of an answer that is known otherwise
module _ {a b : Result ℕ Refusal} (same : a ≡ b) where
  pub answer-written : (places : List ℕ) (part : List Float) → answer_of (solved_verdict a) places part ≡ answer_of (solved_verdict b) places part
  answer-written places part = rw same

  pub session-left : {s t : Session} (desk : ℕ) → s ≡ t → booked s desk a ≡ booked t desk b
  session-left desk e = rw (same, e)

-- the session of eight counters, and what an answer leaves in their slice
module _ (counters : List ℕ) (long : length counters ≡ 8) where
  pub session_in_lem : session_in counters ≡ session_of counters
  unfolding session_in
  session_in_lem = rw (eq-eqb (length counters) 8 long)

  pub counters_after_lem : (desk : ℕ) (a : Result ℕ Refusal) (session : Session) → session ≡ booked (session_of counters) desk a → (is_accepted a ≡ true → desk < 8)
      → counters_after a session desk counters ≡ (booked (session_of counters) desk a).products
  unfolding counters_after booked is_accepted
  counters_after_lem desk (Ok count) session s h =
      let below : desk < 8 = h refl in
      let within : desk < length counters = (omega arith) in
      rw s (rw (lt-ltb desk 8 below, lt-ltb desk (length counters) within, get_or-set_same counters desk _ 0 within))
  counters_after_lem desk (Err r) session s h = refl

-- ---- another length

-- 22, 1, 2, then 3
abbrev pub unfit : Form → ℕ → ℕ → ℕ → ℕ → Verdict
unfit form desk points capacity n = desk_known desk then form_sizes form capacity points n false

verdict_of_lem : (v : Verdict) (count : ℕ) → v ≡ solved_verdict (solved v count)
unfolding solved
verdict_of_lem (Ok tt) count = refl
verdict_of_lem (Err r) count = refl

-- a refusal adds nothing
stays : (session : Session) (desk : ℕ) (v : Verdict) (count : ℕ) → (v ≡ pass → ⊥) → session.products ≡ (booked session desk (solved v count)).products
unfolding solved booked
stays session desk (Ok tt) count h = absurd (h refl)
stays session desk (Err r) count h = refl

-- and it is one
refuses : (form : Form) (desk points capacity n : ℕ) → unfit form desk points capacity n ≡ pass → ⊥
unfolding fitting ask
refuses form desk points capacity n e =
    let plain = (sizes-plain capacity points n form false (then-pass (desk_known desk) (form_sizes form capacity points n false) e).1).0 in
    let later = fitting false then within_capacity points capacity in
    not_pass (by 3) (then-pass (within_limits capacity n) later (then-pass (large_enough points n) (within_limits capacity n then later) plain).1).1

-- each slice as it was, beside that verdict
pub record Left (r : Run) (made : Outcome) (v : Verdict) : Type 0 where
  pub verdict : v ≡ solved_verdict made.answer
  pub counters : r.session.products ≡ (booked r.session r.desk made.answer).products
  pub slices : (r.retarded ≡ made.retarded) × (r.lesser ≡ made.lesser) × (r.kernel ≡ made.kernel) × (r.lesser_advanced ≡ made.lesser_advanced)

-- points that are cut, and one more: check 1 asks whether there is one
large-cut : (k points n : ℕ) → k ≡ min points 256 → large_enough (k + 1) n ≡ large_enough (suc points) n
unfolding large_enough
large-cut k points n e =
    rw (same_test (leb 2 (k + 1)) (leb 2 (suc points)) (λ t. le-leb 2 (suc points) (let l = leb-true 2 (k + 1) t in omega arith)) (λ t. le-leb 2 (k + 1) (let l = leb-true 2 (suc points) t in omega arith)))

-- what comes after 3 is not asked
unfit_alike : (x y : Verdict) → (fitting false then x) ≡ (fitting false then y)
unfolding fitting ask
unfit_alike x y = refl

cut : (form : Form) (desk k points capacity n : ℕ) → k ≡ min points 256 → unfit form desk (k + 1) capacity n ≡ unfit form desk (suc points) capacity n
unfolding form_sizes
cut empty desk k points capacity n e = rw (large-cut k points n e, unfit_alike (within_capacity (k + 1) capacity) (within_capacity (suc points) capacity))
cut (occupied g0) desk k points capacity n e = rw (large-cut k points n e, unfit_alike (within_capacity (k + 1) capacity) (within_capacity (suc points) capacity))

module _ (r : Run) {v : Verdict} where
  left : (points : ℕ) → v ≡ unfit r.form r.desk points r.capacity r.orbitals → Left r (uncounted points r) v
  unfolding uncounted
  left points e =
      record {
        verdict = e ∙ verdict_of_lem _ 0;
        counters = stays r.session r.desk _ 0 (refuses r.form r.desk points r.capacity r.orbitals);
        slices = (refl, refl, refl, refl);
      }

  module _ (other : length r.session.products ≡ 8 → ⊥) where
    pub run-uncounted : v ≡ unfit r.form r.desk r.points r.capacity r.orbitals → Left r (counted_run r) v
    unfolding counted_run
    run-uncounted e = rw (ne_eqb (length r.session.products) 8 other) (left r.points e)

    pub append-uncounted : {k : ℕ} → k ≡ min r.points 256 → v ≡ unfit r.form r.desk (k + 1) r.capacity r.orbitals → Left r (counted_append r) v
    unfolding counted_append
    append-uncounted k e = rw (ne_eqb (length r.session.products) 8 other) (left (suc r.points) (e ∙ cut r.form _ _ _ _ _ k))
