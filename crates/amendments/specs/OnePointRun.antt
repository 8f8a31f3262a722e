-- Document 02, L2: "Runs that had an answer keep it." A transient run in a capacity, as it was where the term was formed also at an interval of one
-- point (OnePoint): accepted then, it is accepted now and leaves the same bits. Assumes nothing.
use Rattle.std.specs.Prelude.{Ok, ◌≡◌, ◌&&◌, ◌||◌, ◌<◌}
use Rattle.lists.specs.Prelude.{refl, sym, ap, ap₂, ◌∙◌, Bool, true, false, not, cond, List, ℕ, max, arith, leb, ltb-true, Float}
use Rattle.lists.specs.Indexed.{all_in}
use Rattle.lists.specs.Agreement.{both, all-each, each_all}
use Rattle.refusal.specs.Verdict.{pass, ask, ◌then◌, zeroed, afterwards}
use Rattle.refusal.specs.Checks.{finite_work}
use Rattle.refusal.specs.Agreement.{ask_pass, then-pass}
use Rattle.two_time.specs.declared.sums.Sums.{Sums}
use Rattle.two_time.specs.declared.sums.Sums.TheVariants.{Causal, LesserAdvanced, Lesser}
use Rattle.two_time.specs.Layout.{read_as}
use Rattle.two_time.specs.New.{is_new, written, every_new}
use Rattle.two_time.specs.WeightedSum.{weighted_sum, finite_sum}
use Rattle.two_time.specs.Sums.{sums_of, new_numbers, new_finite}
use Rattle.two_time.specs.Written.{laid_agree}
use Rattle.two_time.specs.Start.{new_lesser_numbers, new_lesser_finite}
use Rattle.two_time.specs.Started.{empty-numbers, empty-finite}
use Rattle.dyson.specs.Retarded.{new_retarded, new_retarded_finite}
use Rattle.dyson.specs.Calls.{solved_new_finite}
use Rattle.transient_run.specs.Products.{formed}
use Rattle.transient_run.specs.Form.{Form, start_of, start_products}
use Rattle.transient_run.specs.Form.Form.{empty}
use Rattle.transient_run.specs.Calls.{Run, kernel_made, retarded_made, lesser_advanced_made, lesser_start, lesser_made, made_finite, checks_of, verdict_of, worked, solved, transient_run}
use Rattle.amendments.specs.OnePoint.{now, before, kept}

-- ---- the sums at new places

module _ (sums : Sums) (capacity n old points : ℕ) (times left right : List Float) where
  abbrev pub new_numbers_before : List Float → List Float
  new_numbers_before out = written capacity n old points (λ t u. weighted_sum n (before sums capacity n times left right t u)) out

  abbrev pub new_finite_before : Bool
  new_finite_before = every_new n old points (λ t u. finite_sum n (before sums capacity n times left right t u))

-- what holds of every entry at every new place holds of one
new-each : (n old points : ℕ) (p : ℕ → ℕ → ℕ → ℕ → Bool) → every_new n old points p ≡ true → (t u a b : ℕ) → is_new old points t u ≡ true → a < n → b < n → p t u a b ≡ true
unfolding every_new is_new
new-each n old points p h t u a b e ha hb =
    let within = ltb-true (max t u) points (both (leb old (max t u)) _ e).1 in
    let place = all-each points _ (all-each points _ h t (omega arith)) u (omega arith) in
    all-each n _ (all-each n _ (rw e at place) a ha) b hb

-- and what holds of each new one holds of all
each-new : (n old points : ℕ) (p : ℕ → ℕ → ℕ → ℕ → Bool) → ((t u a b : ℕ) → is_new old points t u ≡ true → a < n → b < n → p t u a b ≡ true) → every_new n old points p ≡ true
unfolding every_new
each-new n old points p h = each_all points _ (λ t ht. each_all points _ (λ u hu. at t u (is_new old points t u) refl))
  where
    at : (t u : ℕ) (c : Bool) → is_new old points t u ≡ c → not c || all_in n n (p t u) ≡ true
    at t u true e = each_all n _ (λ a ha. each_all n _ (λ b hb. h t u a b e ha hb))
    at t u false e = refl

module _ (sums : Sums) (capacity n old points : ℕ) (times left right : List Float) (h : new_finite_before sums capacity n old points times left right ≡ true) where
  at : (t u a b : ℕ) → is_new old points t u ≡ true → a < n → b < n
      → (finite_sum n (now sums capacity n times left right t u) a b ≡ true)
      × (weighted_sum n (before sums capacity n times left right t u) a b ≡ weighted_sum n (now sums capacity n times left right t u) a b)
  at t u a b e ha hb =
      kept capacity n times (read_as capacity n left) (read_as capacity n right) t u a b sums
      (new-each n old points (λ v w. finite_sum n (before sums capacity n times left right v w)) h t u a b e ha hb)

  new_finite-kept : new_finite sums capacity n old points times left right ≡ true
  unfolding new_finite
  new_finite-kept = each-new n old points _ (λ t u a b e ha hb. (at t u a b e ha hb).0)

  new_numbers-kept : (out : List Float) → new_numbers_before sums capacity n old points times left right out ≡ new_numbers sums capacity n old points times left right out
  unfolding new_numbers written sums_of
  new_numbers-kept out = laid_agree capacity n _ _ (λ t u ht hu a b ha hb. place t u a b ha hb (is_new old points t u) refl)
    where
      place : (t u a b : ℕ) → a < n → b < n → (c : Bool) → is_new old points t u ≡ c
          → cond c (weighted_sum n (before sums capacity n times left right t u)) (read_as capacity n out t u) a b
          ≡ cond c (weighted_sum n (now sums capacity n times left right t u)) (read_as capacity n out t u) a b
      place t u a b ha hb true e = (at t u a b e ha hb).1
      place t u a b ha hb false e = refl

-- ---- the run

-- document 01's G^< of the empty form
module _ (old points : ℕ) (r : Run) (start : r.form ≡ empty) where
  empty-lesser : lesser_made old points r ≡ new_numbers Lesser r.capacity r.orbitals old points r.times (retarded_made old points r) (lesser_advanced_made old points r) r.lesser
  unfolding start_of
  empty-lesser = rw start (empty-numbers r.capacity r.orbitals old points r.times (retarded_made old points r) (lesser_advanced_made old points r) r.lesser)

  empty-lesser_finite : new_lesser_finite (lesser_start old points r) r.capacity r.orbitals old points r.times (retarded_made old points r) (lesser_advanced_made old points r)
      ≡ new_finite Lesser r.capacity r.orbitals old points r.times (retarded_made old points r) (lesser_advanced_made old points r)
  unfolding start_of
  empty-lesser_finite = rw start (empty-finite r.capacity r.orbitals old points r.times (retarded_made old points r) (lesser_advanced_made old points r))

module _ (old points : ℕ) (r : Run) where
  abbrev pub kernel_before : List Float
  kernel_before = new_numbers_before Causal r.capacity r.orbitals old points r.times r.free r.self_energy r.kernel

  abbrev pub retarded_before : List Float
  retarded_before = new_retarded r.capacity r.orbitals old points r.times r.free kernel_before r.retarded

  abbrev pub lesser_advanced_before : List Float
  lesser_advanced_before = new_numbers_before LesserAdvanced r.capacity r.orbitals old points r.times r.lesser_self_energy retarded_before r.lesser_advanced

  abbrev pub lesser_before : List Float
  lesser_before = new_numbers_before Lesser r.capacity r.orbitals old points r.times retarded_before lesser_advanced_before r.lesser

  abbrev causal : Bool
  causal = new_finite_before Causal r.capacity r.orbitals old points r.times r.free r.self_energy

  abbrev green : Bool
  green = new_retarded_finite r.capacity r.orbitals old points r.times r.free kernel_before r.retarded

  abbrev advanced : Bool
  advanced = new_finite_before LesserAdvanced r.capacity r.orbitals old points r.times r.lesser_self_energy retarded_before

  abbrev lesser : Bool
  lesser = new_finite_before Lesser r.capacity r.orbitals old points r.times retarded_before lesser_advanced_before

  abbrev pub made_before : Bool
  made_before = (causal && green) && (advanced && lesser)

  module _ (start : r.form ≡ empty) (h : made_before ≡ true) where
    first : (causal ≡ true) × (green ≡ true)
    first = both causal green (both (causal && green) (advanced && lesser) h).0

    second : (advanced ≡ true) × (lesser ≡ true)
    second = both advanced lesser (both (causal && green) (advanced && lesser) h).1

    kernel-kept : kernel_before ≡ kernel_made old points r
    kernel-kept = new_numbers-kept Causal r.capacity r.orbitals old points r.times r.free r.self_energy first.0 r.kernel

    retarded-kept : retarded_before ≡ retarded_made old points r
    retarded-kept = ap (λ (k : List Float). new_retarded r.capacity r.orbitals old points r.times r.free k r.retarded) kernel-kept

    lesser_advanced-kept : lesser_advanced_before ≡ lesser_advanced_made old points r
    lesser_advanced-kept =
        new_numbers-kept LesserAdvanced r.capacity r.orbitals old points r.times r.lesser_self_energy retarded_before second.0 r.lesser_advanced
        ∙ ap (λ (g : List Float). new_numbers LesserAdvanced r.capacity r.orbitals old points r.times r.lesser_self_energy g r.lesser_advanced) retarded-kept

    lesser-kept : lesser_before ≡ lesser_made old points r
    lesser-kept =
        new_numbers-kept Lesser r.capacity r.orbitals old points r.times retarded_before lesser_advanced_before second.1 r.lesser
        ∙ ap₂ (λ (g x : List Float). new_numbers Lesser r.capacity r.orbitals old points r.times g x r.lesser) retarded-kept lesser_advanced-kept
        ∙ sym (empty-lesser old points r start)

    finite-kept : made_finite old points r ≡ true
    unfolding made_finite solved_new_finite
    finite-kept =
        ap₂ ◌&&◌
        (ap₂ ◌&&◌ (new_finite-kept Causal r.capacity r.orbitals old points r.times r.free r.self_energy first.0)
        (sym (ap (λ (k : List Float). new_retarded_finite r.capacity r.orbitals old points r.times r.free k r.retarded) kernel-kept) ∙ first.1))
        (ap₂ ◌&&◌
        (sym (ap (new_finite LesserAdvanced r.capacity r.orbitals old points r.times r.lesser_self_energy) retarded-kept)
        ∙ new_finite-kept LesserAdvanced r.capacity r.orbitals old points r.times r.lesser_self_energy retarded_before second.0)
        (empty-lesser_finite old points r start ∙ sym (ap₂ (new_finite Lesser r.capacity r.orbitals old points r.times) retarded-kept lesser_advanced-kept)
        ∙ new_finite-kept Lesser r.capacity r.orbitals old points r.times retarded_before lesser_advanced_before second.1))

  worked_kept : r.form ≡ empty → (cleared : List Float → List Float) → (checks_of old points r then finite_work made_before) ≡ pass
      → worked old points r cleared ≡ record { answer = Ok (formed 0 old points); retarded = retarded_before; lesser = lesser_before; kernel = kernel_before; lesser_advanced = lesser_advanced_before }
  unfolding worked verdict_of solved finite_work ask afterwards start_products
  worked_kept start cleared h =
      let p = then-pass (checks_of old points r) _ h in
      let e = ask_pass made_before _ p.1 in
      rw (p.0, finite-kept start e, lesser-kept start e, lesser_advanced-kept start e, retarded-kept start e, kernel-kept start e) (ap (λ (form : Form). record { answer = Ok (formed (start_products form) old points); retarded = retarded_made old points r; lesser = lesser_made old points r; kernel = kernel_made old points r; lesser_advanced = lesser_advanced_made old points r }) start)

-- `transient_run`
pub run-kept : (r : Run) → r.form ≡ empty → (checks_of 0 r.points r then finite_work (made_before 0 r.points r)) ≡ pass
    → transient_run r
    ≡ record { answer = Ok (formed 0 0 r.points); retarded = retarded_before 0 r.points r; lesser = lesser_before 0 r.points r; kernel = kernel_before 0 r.points r; lesser_advanced = lesser_advanced_before 0 r.points r }
unfolding transient_run
run-kept r start h = worked_kept 0 r.points r start zeroed h
