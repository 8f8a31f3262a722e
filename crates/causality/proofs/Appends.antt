-- The law of appends: calls leave what the run over all points leaves, and count like it. What an append reads at old places is what that run makes there,
-- by the theorem on which demand 3 rests. Assumes nothing.
use Rattle.std.specs.Prelude.{Ok, ◌≡◌, ◌-◌, ◌*◌, ◌≤◌, ◌<◌}
use Rattle.lists.specs.Prelude.{refl, sym, ap, subst, ◌∙◌, true, List, ℕ, suc, zero-mul, eqb, length, max, le_refl, le-leb, lt-ltb, dec_lt, arith, get_or-replicate, Float}
use Rattle.refusal.specs.Verdict.{pass, Verdict, by, zeroed, ◌then◌}
use Rattle.refusal.specs.Checks.{finite_work, counter_holds, desk_known}
use Rattle.refusal.specs.Agreement.{ask_yes, then-pass, then-after}
use Rattle.grid.specs.Calls.{grid_checks}
use Rattle.two_time.specs.Sums.{new_numbers}
use Rattle.two_time.specs.Start.{new_lesser_numbers}
use Rattle.two_time.specs.Started.{SameStart}
use Rattle.two_time.proofs.NewPlaces.{at_once}
use Rattle.two_time.specs.SizeChecks.{SizesPassed}
use Rattle.two_time.specs.Lengths.{lengths, none-asked, also_asked}
use Rattle.dyson.specs.Retarded.{new_retarded}
use Rattle.transient_run.specs.declared.Session.{Session}
use Rattle.transient_run.specs.Products.{formed, count_of, formed-count, formed-on, steps}
use Rattle.transient_run.specs.Form.{Form, start_products}
use Rattle.transient_run.specs.Form.Form.{empty, occupied}
use Rattle.transient_run.specs.Calls.{Run, counter_of, run_of, Outcome, is_accepted, kernel_made, retarded_made, lesser_advanced_made, lesser_start, lesser_made, made_finite, checks_of, verdict_of, worked, transient_run, append_point}
use Rattle.transient_run.specs.Checks.{accepted, accepted_with, sizes_asked, support_asked, slices, all_lent}
use Rattle.transient_run.specs.FormChecks.{sizes-there, sizes-again}
use Rattle.transient_run.specs.Ends.{work-end}
use Rattle.causality.specs.Statement.{SameTo, SameKind, Demanded}
use Rattle.causality.specs.Made.{HeldTo, none-held, MadeTo, made-fine, fine-made}
use Rattle.causality.proofs.Made.{retardeds, made_agree, fine_agree}
use Rattle.causality.specs.Starts.{one_form}
use Rattle.causality.specs.Solvers.{sizes}
use Rattle.causality.proofs.Theorem.{all_finite_lem, entries_asked, demand_3}
use Rattle.causality.specs.Sessions.{opened, in_session, Room}
use Rattle.causality.specs.History.{Onto, longer, History, together, LikeRun}
use Rattle.causality.specs.History.History.{ran, appended}

-- ---- two accepted calls

-- questions that pass, of which the first and the last are asked otherwise
otherwise : (a a' b c d e e' : Verdict) → (a then b then c then d then e) ≡ pass → a' ≡ pass → e' ≡ pass → (a' then b then c then d then e') ≡ pass
otherwise a a' b c d e e' h ha he =
    let z = then-pass a _ h in
    let y = then-pass b _ z.1 in
    let x = then-pass c _ y.1 in
    let w = then-pass d _ x.1 in
    then-after a' _ ha ∙ then-after b _ y.0 ∙ then-after c _ x.0 ∙ then-after d _ w.0 ∙ he

-- 22 and 17 of a desk with room
module _ (session : Session) (desk count : ℕ) (space : Room session desk count) where
  known : desk_known desk ≡ pass
  unfolding desk_known
  known = ask_yes _ (by 22) (lt-ltb _ _ space.known)

  holds : counter_holds (counter_of session desk) count ≡ pass
  unfolding counter_holds
  holds = ask_yes _ (by 17) (le-leb _ _ space.fits)

-- an accepted call leaves what it made
module _ (old points : ℕ) (r : Run) where
  abbrev made_by : Outcome
  made_by =
      record {
        answer = Ok (formed (start_products r.form) old points);
        retarded = retarded_made old points r;
        lesser = lesser_made old points r;
        kernel = kernel_made old points r;
        lesser_advanced = lesser_advanced_made old points r;
      }

  made-left : (cleared : List Float → List Float) → verdict_of old points r ≡ pass → worked old points r cleared ≡ made_by
  unfolding verdict_of
  made-left cleared passed = work-end old points r cleared (then-pass (checks_of old points r) _ passed).0 (all_finite_lem old points r passed)

-- ---- a run at another desk

module _ (r : Run) (passed : verdict_of 0 r.points r ≡ pass) (session : Session) (desk : ℕ) (space : Room session desk (formed (start_products r.form) 0 r.points)) where
  again : verdict_of 0 r.points (in_session session desk r) ≡ pass
  unfolding verdict_of checks_of finite_work made_finite
  again =
      let asked = then-pass (checks_of 0 r.points r) _ passed in
      let sized = (then-pass (desk_known r.desk) _ (then-pass (sizes_asked r.points r) _ asked.0).0).1 in
      then-after (checks_of 0 r.points (in_session session desk r)) _
      (otherwise (sizes_asked r.points r) (sizes_asked r.points (in_session session desk r)) (grid_checks r.points r.times) (entries_asked r.points r) (support_asked r.points r) (counter_holds (counter_of r.session r.desk) (formed (start_products r.form) 0 r.points)) _ asked.0 (then-after (desk_known desk) _ (known session desk _ space) ∙ sized) (holds session desk _ space)) ∙ asked.1

  any_desk : transient_run (in_session session desk r) ≡ together (formed (start_products r.form) 0 r.points) (transient_run r)
  unfolding transient_run
  any_desk = made-left 0 r.points (in_session session desk r) zeroed again ∙ ap (together (formed (start_products r.form) 0 r.points)) (sym (made-left 0 r.points r zeroed passed))

pub own-kind : (form : Form) → SameKind form form
own-kind empty = tt
own-kind (occupied g0) = tt

-- ---- one append, with the inputs of c, onto what the run r made of its p points; and the run over one point more, at whatever desk

module _ (r c : Run) (session : Session) (desk : ℕ) where
  abbrev p : ℕ
  p = r.points

  abbrev append : Run
  append =
      run_of c.form c.session c.desk (record { points = p; capacity = r.capacity; orbitals = r.orbitals }) c.tolerance c.times c.free c.self_energy c.lesser_self_energy (retarded_made 0 p r) (lesser_made 0 p r)
      (kernel_made 0 p r) (lesser_advanced_made 0 p r)

  abbrev whole : Run
  whole = in_session session desk (longer r append)

  module _ (passed : verdict_of 0 p r ≡ pass) (inputs : (k : ℕ) → k < p → SameTo k r append) (passed' : verdict_of p (suc p) append ≡ pass)
      (kind : SameKind r.form c.form) (space : Room session desk (formed (start_products c.form) 0 (suc p))) where
    room : p ≤ r.capacity
    room = (sizes 0 p r passed).1

    room' : suc p ≤ r.capacity
    room' = (sizes p (suc p) append passed').1

    -- the last old point
    abbrev last : ℕ
    last = p - 1

    old : last < p
    old = let least = (sizes 0 p r passed).0 in omega arith

    old-inputs : SameTo last r whole
    old-inputs = let s = inputs last old in record { orbitals = refl; times = s.times; free = s.free; self_energy = s.self_energy; lesser_self_energy = s.lesser_self_energy; start = s.start }

    all-inputs : SameTo p append whole
    all-inputs =
        record {
          orbitals = refl;
          times = λ i hi. refl;
          free = λ t u ht hu a b ha hb. refl;
          self_energy = λ t u ht hu a b ha hb. refl;
          lesser_self_energy = λ t u ht hu a b ha hb. refl;
          start = λ a b ha hb. refl;
        }

    -- G^< starts from the same at old points
    old-starts : (t u : ℕ) → t ≤ last → u ≤ last → SameStart r.orbitals (lesser_start 0 p r) (lesser_start 0 (suc p) whole) t u
    old-starts t u ht hu =
        let made = retardeds last 0 p (suc p) r whole old room (omega arith) room' old-inputs (none-held last (suc p) r whole) in
        one_form r.orbitals r.capacity r.capacity _ _ t u (made t 0 ht (omega arith)) (made u 0 hu (omega arith)) r.form c.form kind old-inputs.start

    -- demand 3: the runs over p points and over one more make the same at old places
    old-made : MadeTo last 0 p (suc p) r whole
    old-made = made_agree last 0 p (suc p) r whole old room (omega arith) room' old-inputs (none-held last (suc p) r whole) old-starts

    held : HeldTo p p (suc p) append whole
    held =
        let m = old-made in
        record {
          kernel = λ t u ht hu lt lu. m.kernel t u (omega arith) (omega arith);
          retarded = λ t u ht hu lt lu. m.retarded t u (omega arith) (omega arith);
          lesser_advanced = λ t u ht hu lt lu. m.lesser_advanced t u (omega arith) (omega arith);
          lesser = λ t u ht hu lt lu. m.lesser t u (omega arith) (omega arith);
        }

    -- and at all points
    all-starts : (t u : ℕ) → t ≤ p → u ≤ p → SameStart r.orbitals (lesser_start p (suc p) append) (lesser_start 0 (suc p) whole) t u
    all-starts t u ht hu =
        let made = retardeds p p (suc p) (suc p) append whole (le_refl (suc p)) room' (le_refl (suc p)) room' all-inputs held in
        one_form r.orbitals r.capacity r.capacity _ _ t u (made t 0 ht (omega arith)) (made u 0 hu (omega arith)) c.form c.form (own-kind c.form) (λ a b ha hb. refl)

    -- so the append and the run over one point more make the same at all places of the points
    all_made : MadeTo p p (suc p) (suc p) append whole
    all_made = made_agree p p (suc p) (suc p) append whole (le_refl (suc p)) room' (le_refl (suc p)) room' all-inputs held all-starts

    -- what that run makes is finite: at old places as what r made is, at new ones as what the append made is
    finite : made_finite 0 (suc p) whole ≡ true
    finite =
        fine-made 0 (suc p) whole
        (λ t u a b new ht hu ha hb. elim (dec_lt (max t u) p) [
          | yes l ↦
              fine_agree last 0 p (suc p) r whole old room (omega arith) room' old-inputs (none-held last (suc p) r whole) old-starts t u a b (omega arith) (omega arith) ha hb
              (made-fine 0 p r (all_finite_lem 0 p r passed) t u a b (omega arith) (omega arith) (omega arith) ha hb)
          | no l ↦
              fine_agree p p (suc p) (suc p) append whole (le_refl (suc p)) room' (le_refl (suc p)) room' all-inputs held all-starts t u a b (omega arith) (omega arith) ha hb
              (made-fine p (suc p) append (all_finite_lem p (suc p) append passed') t u a b (omega arith) ht hu ha hb)
        ])

    -- its questions are the append's but the last: they ask inputs and lengths, and the lengths of outputs and scratch are r's
    checks : checks_of 0 (suc p) whole ≡ pass
    unfolding verdict_of checks_of
    checks =
        let asked = (then-pass (checks_of p (suc p) append) _ passed').0 in
        let asked-sizes = (then-pass (desk_known c.desk) _ (then-pass (sizes_asked (suc p) append) _ asked).0).1 in
        let z = sizes p (suc p) append passed' in
        let there = sizes-there r.capacity (suc p) r.orbitals c.form (eqb (length c.times) r.capacity) (slices (suc p) append) asked-sizes in
        let i = lengths z.2 in
        let o = (lengths (sizes 0 p r passed).2).1.1.1 in
        let long : SizesPassed r.capacity r.orbitals true (slices (suc p) whole) = also_asked i.0 (also_asked i.1.0 (also_asked i.1.1.0 (also_asked o.0 (also_asked o.1.0 (also_asked o.1.1.0 (also_asked o.1.1.1.0 (none-asked z.2))))))) in
        let sized : sizes_asked (suc p) whole ≡ pass = then-after (desk_known desk) _ (known session desk _ space) ∙ sizes-again r.capacity (suc p) r.orbitals c.form (all_lent (suc p) append) (all_lent (suc p) whole) asked-sizes (rw (there, long.long)) in
        otherwise (sizes_asked (suc p) append) (sizes_asked (suc p) whole) (grid_checks (suc p) c.times) (entries_asked (suc p) append) (support_asked (suc p) append) (counter_holds (counter_of c.session c.desk) (formed (start_products c.form) p (suc p))) _ asked sized (holds session desk _ space)

    verdict : verdict_of 0 (suc p) whole ≡ pass
    unfolding verdict_of finite_work
    verdict = then-after (checks_of 0 (suc p) whole) _ checks ∙ ask_yes (made_finite 0 (suc p) whole) (by 10) finite

    -- each slice holds the same, made at once or appended
    one_more : transient_run whole ≡ together (formed (start_products c.form) 0 (suc p)) (append_point append)
    unfolding transient_run append_point new_numbers new_retarded new_lesser_numbers
    one_more =
        let m = all_made in
        let alike : made_by 0 (suc p) whole ≡ together (formed (start_products c.form) 0 (suc p)) (made_by p (suc p) append) = λ i.
        record {
          answer = Ok (formed (start_products c.form) 0 (suc p));
          retarded = sym (at_once r.capacity r.orbitals p (suc p) (omega arith) _ _ _ r.retarded (λ t u ht hu. m.retarded t u (omega arith) (omega arith))) i;
          lesser = sym (at_once r.capacity r.orbitals p (suc p) (omega arith) _ _ _ r.lesser (λ t u ht hu. m.lesser t u (omega arith) (omega arith))) i;
          kernel = sym (at_once r.capacity r.orbitals p (suc p) (omega arith) _ _ _ r.kernel (λ t u ht hu. m.kernel t u (omega arith) (omega arith))) i;
          lesser_advanced = sym (at_once r.capacity r.orbitals p (suc p) (omega arith) _ _ _ r.lesser_advanced (λ t u ht hu. m.lesser_advanced t u (omega arith) (omega arith))) i;
        } in
        made-left 0 (suc p) whole zeroed verdict ∙ alike ∙ ap (together (formed (start_products c.form) 0 (suc p))) (sym (made-left p (suc p) append _ passed'))

-- ---- the law

-- session and desk are free where two calls agree
same_in : {k : ℕ} {r r' : Run} (session session' : Session) (desk desk' : ℕ) → SameTo k r r' → SameTo k (in_session session desk r) (in_session session' desk' r')
same_in session session' desk desk' s = record { orbitals = s.orbitals; times = s.times; free = s.free; self_energy = s.self_energy; lesser_self_energy = s.lesser_self_energy; start = s.start }

-- at desk 0 of a session opened at zero
abbrev alone : Run → Run
alone = in_session opened 0

-- an accepted append onto what an accepted run left: the run over one point more leaves what it leaves
append-one : {r : Run} {o : Outcome} {c : Run} {count more : ℕ} → transient_run (alone r) ≡ together count o → Onto r o c → (append_point c).answer ≡ Ok more
    → (session : Session) (desk : ℕ) → Room session desk (formed (start_products c.form) 0 (suc r.points))
    → transient_run (in_session session desk (longer r c)) ≡ together (formed (start_products c.form) 0 (suc r.points)) (append_point c)
unfolding transient_run append_point worked is_accepted
append-one {r} {o} {c} {count} {more} e f ok session desk space =
    let r' = alone r in
    let passed : verdict_of 0 r.points r' ≡ pass = accepted _ _ (ap (λ (x : Outcome). is_accepted x.answer) e) in
    let least = (sizes 0 r.points r' passed).0 in
    let made = sym (made-left 0 r.points r' zeroed passed) ∙ e in
    let it : append r' c session desk ≡ c = λ i.
    record {
      form = c.form;
      session = c.session;
      desk = c.desk;
      points = f.points i;
      capacity = f.capacity i;
      orbitals = (f.inputs 0 (omega arith)).orbitals i;
      tolerance = c.tolerance;
      times = c.times;
      free = c.free;
      self_energy = c.self_energy;
      lesser_self_energy = c.lesser_self_energy;
      retarded = (ap (λ (x : Outcome). x.retarded) made ∙ f.retarded) i;
      lesser = (ap (λ (x : Outcome). x.lesser) made ∙ f.lesser) i;
      kernel = (ap (λ (x : Outcome). x.kernel) made ∙ f.kernel) i;
      lesser_advanced = (ap (λ (x : Outcome). x.lesser_advanced) made ∙ f.lesser_advanced) i;
    } in
    subst (λ (x : Run). ((k : ℕ) → k < r.points → SameTo k r' x) → (append_point x).answer ≡ Ok more → transient_run (in_session session desk (longer r x)) ≡ together (formed (start_products c.form) 0 (suc r.points)) (append_point x)) it
    (λ inputs ok'. one_more r' c session desk passed inputs (accepted_with (verdict_of r.points (suc r.points) (append r' c session desk)) _ _ ok').0 f.form space) (λ k l. same_in opened c.session 0 c.desk (f.inputs k l)) ok

-- to 256 points a counter at 0 has room
most : (form : Form) (n : ℕ) → n ≤ 256 → count_of (start_products form) n ≤ 0xffff_ffff_ffff_ffff
unfolding start_products
most empty n h = let s = steps n h in let e = zero-mul (n * n) in omega arith
most (occupied g0) n h = let s = steps n h in omega arith

kind-products : (form form' : Form) → SameKind form form' → start_products form ≡ start_products form'
unfolding start_products
kind-products empty empty same = refl
kind-products empty (occupied g0) same = absurd same
kind-products (occupied g0) empty same = absurd same
kind-products (occupied g0) (occupied g0') same = refl

-- what the run over all points makes, at each desk with room for it
like_run : {r : Run} {o : Outcome} {count : ℕ} → r.points ≤ 256 → count ≡ formed (start_products r.form) 0 r.points
    → ((session : Session) (desk : ℕ) → Room session desk (formed (start_products r.form) 0 r.points) → transient_run (in_session session desk r) ≡ together (formed (start_products r.form) 0 r.points) o)
    → LikeRun r o count
like_run {r} small e law =
    let number = formed-count (start_products r.form) r.points in
    let fits = most r.form r.points small in
    record { counts = e ∙ number; fits = omega arith; leaves = λ session desk room. rw e (law session desk (rw e at room)) }

-- as each desk of a session opened at zero has
pub in-opened : {r : Run} {o : Outcome} {count : ℕ} → LikeRun r o count → (desk : ℕ) → desk < 8 → transient_run (in_session opened desk r) ≡ together count o
in-opened law desk known =
    let fits = law.fits in
    let none = get_or-replicate {A = ℕ} 8 desk 0 0 known in
    law.leaves opened desk (record { known = known; fits = omega arith })

pub append_law : {r : Run} {o : Outcome} {count : ℕ} → History r o count → LikeRun r o count
unfolding transient_run append_point worked
append_law (ran r ok) =
    let s = accepted_with (verdict_of 0 r.points r) _ _ ok in
    let z = sizes 0 r.points r s.0 in
    let room = z.1 in
    let limit = z.2.points-most in
    like_run (omega arith) s.1 (any_desk r s.0)
append_law (appended {r} {o} {count} {more} h c f ok) =
    let law = append_law h in
    let p = r.points in
    let s = accepted_with (verdict_of c.points (suc c.points) c) _ _ ok in
    let z = sizes c.points (suc c.points) c s.0 in
    let room = z.1 in
    let limit = z.2.points-most in
    let told = f.points in
    let before = law.counts in
    let same : start_products r.form ≡ start_products c.form = kind-products r.form c.form f.form in
    let number = formed-count (start_products c.form) p in
    let before-is : count ≡ count_of (start_products c.form) p = before ∙ ap (λ (k : ℕ). count_of k p) same in
    let more-is : more ≡ formed (start_products c.form) p (suc p) = rw told s.1 in
    let sum = formed-on (start_products c.form) p (suc p) (omega arith) in
    like_run (omega arith) (omega arith) (append-one (in-opened law 0 (omega arith)) f ok)

-- "and demand 3 holds of them as of that run": any two histories, of any points, capacities, sessions and desks
pub histories_demand : {r r' : Run} {o o' : Outcome} {count count' : ℕ} → History r o count → History r' o' count' → Demanded r r' o o'
histories_demand {r} {r'} {o} {o'} {count} {count'} h h' =
    let law = append_law h in
    let law' = append_law h' in
    let demand : Demanded (alone r) (alone r') (together count o) (together count' o') = rw (← (in-opened law 0 (omega arith)), ← (in-opened law' 0 (omega arith))) (demand_3 (alone r) (alone r')) in
    record {
      blind = λ k c.
          let rows = demand.blind k (record { within = c.within; within' = c.within'; accepted = unfold is_accepted in refl; accepted' = unfold is_accepted in refl; same = same_in opened opened 0 0 c.same }) in
          record { retarded = rows.retarded; lesser = rows.lesser; particles = rows.particles; expectations = rows.expectations; flows = rows.flows };
      above = λ _. demand.above (unfold is_accepted in refl);
      above' = λ _. demand.above' (unfold is_accepted in refl);
    }
