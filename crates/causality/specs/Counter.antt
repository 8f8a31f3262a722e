-- Whatever calls are made in a session: each desk's counter is the total that it was opened at and the counts of the accepted calls at that desk; the eight
-- together are the opening totals and the counts of all accepted calls; and none passes 2^64 − 1. Assumes nothing.
use Rattle.std.specs.Prelude.{Result, Ok, Err, ◌≡◌, ◌∷◌, ◌+◌, ◌≤◌, ◌<◌}
use Rattle.lists.specs.Prelude.{refl, sym, ap, ap₂, ◌∙◌, Bool, true, false, cond, List, [], ℕ, zero, suc, add-zero, zero-add, add_assoc, arith, dec_lt, eqb-true, eqb-false, length, get_or, set, length-set, get_or-set_same, get_or-set_other}
use Rattle.refusal.specs.declared.Refusal.{Refusal}
use Rattle.refusal.specs.Agreement.{then-pass}
use Rattle.transient_run.specs.declared.Session.{Session}
use Rattle.transient_run.specs.Products.{total, formed}
use Rattle.transient_run.specs.Form.{start_products}
use Rattle.transient_run.specs.Calls.{Run, counter_of, solved, booked, checks_of, verdict_of, worked, transient_run, append_point}
use Rattle.transient_run.specs.Checks.{accepted_with, counter_room, desk-below}
use Rattle.causality.specs.Sessions.{opened, in_session, Room, Call, desk_of, answer_in, after_call, after, carried, counts, all, at, eight}
use Rattle.causality.specs.Sessions.Call.{run, append}

-- ---- what an answer books

module _ (session : Session) (desk : ℕ) where
  books_length : (answer : Result ℕ Refusal) → length (booked session desk answer).products ≡ length session.products
  unfolding booked
  books_length (Ok count) = length-set session.products desk _
  books_length (Err r) = refl

  pub books_own : (count : ℕ) → desk < length session.products → counter_of (booked session desk (Ok count)) desk ≡ counter_of session desk + count
  unfolding booked
  books_own count below = get_or-set_same session.products desk _ 0 below

  pub books_no-other : (answer : Result ℕ Refusal) (other : ℕ) → (other ≡ desk → ⊥) → counter_of (booked session desk answer) other ≡ counter_of session other
  unfolding booked
  books_no-other (Ok count) other h = get_or-set_other session.products desk other _ 0 h
  books_no-other (Err r) other h = refl

  -- two counts at one desk are booked like their sum
  module _ (first second : ℕ) where
    pub books_both : booked (booked session desk (Ok first)) desk (Ok second) ≡ booked session desk (Ok (first + second))
    unfolding booked
    books_both = ap (λ (xs : List ℕ). record { products = xs }) (stored session.products desk)
      where
        stored : (xs : List ℕ) (i : ℕ) → (let ys = set xs i (get_or xs i 0 + first) in set ys i (get_or ys i 0 + second)) ≡ set xs i (get_or xs i 0 + (first + second))
        stored [] i = refl
        stored (x ∷ xs) zero = ap (λ (y : ℕ). y ∷ xs) (add_assoc x first second)
        stored (x ∷ xs) (suc i) = ap (λ (ys : List ℕ). x ∷ ys) (stored xs i)

    pub room_for-both : first + second ≤ 0xffff_ffff_ffff_ffff → Room (booked session desk (Ok first)) desk second → Room session desk (first + second)
    unfolding booked
    room_for-both most space = record { known = space.known; fits = fits session.products desk space.fits }
      where
        fits : (xs : List ℕ) (i : ℕ) → get_or (set xs i (get_or xs i 0 + first)) i 0 + second ≤ 0xffff_ffff_ffff_ffff → get_or xs i 0 + (first + second) ≤ 0xffff_ffff_ffff_ffff
        fits [] i h = omega arith
        fits (x ∷ xs) zero h = omega arith
        fits (x ∷ xs) (suc i) h = fits xs i h

-- ---- one call

-- an accepted call is made at a desk of the eight, whose counter has room for the count that it carries
pub room : (old points : ℕ) (r : Run) {k : ℕ} → solved (verdict_of old points r) (formed (start_products r.form) old points) ≡ Ok k → Room r.session r.desk k
unfolding verdict_of
room old points r ok =
    let passed = accepted_with (verdict_of old points r) _ _ ok in
    let count = passed.1 in
    let checks = (then-pass (checks_of old points r) _ passed.0).0 in
    let holds = counter_room points r old checks in
    record { known = desk-below points r old checks; fits = omega arith }

call-room : (session : Session) (c : Call) {k : ℕ} → answer_in session c ≡ Ok k → Room session (desk_of c) k
unfolding answer_in desk_of transient_run append_point worked
call-room session (run r) e = room 0 r.points (in_session session r.desk r) e
call-room session (append r) e = room r.points _ (in_session session r.desk r) e

-- "no other desk's counter changes"
pub kept : (session : Session) (c : Call) (desk : ℕ) → (desk ≡ desk_of c → ⊥) → counter_of (after_call session c) desk ≡ counter_of session desk
kept session c = books_no-other session (desk_of c) (answer_in session c)

-- where the session has eight counters: it keeps them, and that of the desk moves by the count that the call carries
module _ (session : Session) (long : length session.products ≡ 8) (c : Call) where
  stays-long : length (after_call session c).products ≡ 8
  stays-long = books_length session (desk_of c) (answer_in session c) ∙ long

  own : counter_of (after_call session c) (desk_of c) ≡ counter_of session (desk_of c) + carried (answer_in session c)
  unfolding booked carried
  own = of-answer (answer_in session c) refl
    where
      of-answer : (answer : Result ℕ Refusal) → answer_in session c ≡ answer → counter_of (booked session (desk_of c) answer) (desk_of c) ≡ counter_of session (desk_of c) + carried answer
      of-answer (Ok k) e = let known = (call-room session c e).known in books_own session (desk_of c) k (omega arith)
      of-answer (Err r) e = sym (add-zero _)

  adds : (desk : ℕ) → counter_of (after_call session c) desk ≡ counter_of session desk + cond (at desk c) (carried (answer_in session c)) 0
  adds desk = by-desk (at desk c) refl
    where
      by-desk : (b : Bool) → at desk c ≡ b → counter_of (after_call session c) desk ≡ counter_of session desk + cond b (carried (answer_in session c)) 0
      by-desk true e = rw (sym (eqb-true (desk_of c) desk e)) own
      by-desk false e = kept session c desk (λ z. eqb-false (desk_of c) desk e (sym z)) ∙ sym (add-zero _)

-- ---- sums of which one term changes

module _ (f g : ℕ → ℕ) (d k : ℕ) (moves : g d ≡ f d + k) (others : (i : ℕ) → (i ≡ d → ⊥) → g i ≡ f i) where
  unchanged : (n : ℕ) → n ≤ d → total n g ≡ total n f
  unfolding total
  unchanged zero h = refl
  unchanged (suc n) h = ap₂ ◌+◌ (unchanged n (omega arith)) (others n (λ e. omega arith))

  moved : (n : ℕ) → d < n → total n g ≡ total n f + k
  unfolding total
  moved zero h = absurd (omega arith)
  moved (suc n) h =
      elim (dec_lt d n) [
        | yes l ↦
            let rest = moved n l in
            let last = others n (λ e. omega arith) in
            omega arith
        | no l ↦
            let here : d ≡ n = omega arith in
            let rest = unchanged n (omega arith) in
            let last : g n ≡ f n + k = rw (← here) moves in
            omega arith
      ]

-- ---- any list of calls

-- each desk's counter is the total that it was opened at and the counts of the accepted calls at that desk
pub counted : (session : Session) → length session.products ≡ 8 → (desk : ℕ) (calls : List Call)
    → counter_of (after session calls) desk ≡ counter_of session desk + counts (at desk) session calls
unfolding after counts
counted session long desk [] = sym (add-zero _)
counted session long desk (c ∷ calls) =
    let rest = counted (after_call session c) (stays-long session long c) desk calls in
    let this = adds session long c desk in
    omega arith

-- the eight together are the opening totals and the counts of all accepted calls
pub summed : (session : Session) → length session.products ≡ 8 → (calls : List Call) → eight (after session calls) ≡ eight session + counts all session calls
unfolding after counts carried booked
summed session long [] = sym (add-zero _)
summed session long (c ∷ calls) =
    let rest = summed (after_call session c) (stays-long session long c) calls in
    let this = of-answer (answer_in session c) refl in
    omega arith
  where
    of-answer : (answer : Result ℕ Refusal) → answer_in session c ≡ answer → eight (after_call session c) ≡ eight session + carried answer
    of-answer (Ok k) e =
        moved (λ desk. counter_of session desk) (λ desk. counter_of (after_call session c) desk) (desk_of c) k (own session long c ∙ rw e) (kept session c) 8 (call-room session c e).known
    of-answer (Err r) e = rw e (sym (add-zero _))

-- "over any list of calls from zero the eight sum to the counts of the accepted ones"
pub from_zero : (calls : List Call) → eight (after opened calls) ≡ counts all opened calls
unfolding total
from_zero calls = summed opened refl calls ∙ zero-add _

-- where no counter is past 2^64 − 1 at the opening, none ever is
pub never-past : (session : Session) (calls : List Call) → ((desk : ℕ) → counter_of session desk ≤ 0xffff_ffff_ffff_ffff)
    → (desk : ℕ) → counter_of (after session calls) desk ≤ 0xffff_ffff_ffff_ffff
unfolding after booked
never-past session [] h = h
never-past session (c ∷ calls) h = never-past (after_call session c) calls (of-answer (answer_in session c) refl)
  where
    stored : (xs : List ℕ) (i j : ℕ) {x most : ℕ} → x ≤ most → get_or xs j 0 ≤ most → get_or (set xs i x) j 0 ≤ most
    stored [] i j new old = old
    stored (y ∷ xs) zero zero new old = new
    stored (y ∷ xs) zero (suc j) new old = old
    stored (y ∷ xs) (suc i) zero new old = old
    stored (y ∷ xs) (suc i) (suc j) new old = stored xs i j new old

    of-answer : (answer : Result ℕ Refusal) → answer_in session c ≡ answer → (desk : ℕ) → counter_of (booked session (desk_of c) answer) desk ≤ 0xffff_ffff_ffff_ffff
    of-answer (Ok k) e desk = stored session.products (desk_of c) desk (call-room session c e).fits (h desk)
    of-answer (Err r) e desk = h desk
