-- The checks of a list of queries as the code asks them, and what it says that they pass: each query is answered as by the single call. Assumes nothing.
use Rattle.std.specs.Prelude.{Err, ◌≡◌, ◌&&◌, ◌∷◌, ◌-◌, ◌*◌, ◌≤◌}
use Rattle.lists.specs.Prelude.{refl, sym, ap, ◌∙◌, Bool, true, false, List, [], ℕ, arith, eqb, length, get_or, Float, nan, eqb-true, eq-eqb}
use Rattle.lists.specs.Indexed.{join}
use Rattle.lists.specs.Agreement.{both, join_agree}
use Rattle.complex.specs.Numbers.{entry_at}
use Rattle.refusal.specs.declared.Refusal.{Refusal}
use Rattle.refusal.specs.Verdict.{pass, Verdict, ◌then◌}
use Rattle.refusal.specs.Agreement.{then-pass, then-assoc, then-after, then-refused, same_test}
use Rattle.refusal.specs.Checks.{within_list}
use Rattle.two_time.specs.Calls.{capacity_checks, point_entries, point_checks}
use Rattle.two_time.specs.SizeChecks.{SizesPassed}
use Rattle.two_time.specs.CapacityChecks.{capacity-passed, capacity_pass, points-asked}
use Rattle.observables.specs.declared.Observed.{Observed}
use Rattle.observables.specs.Calls.{observed_number, lesser_checks}
use Rattle.observables.specs.Query.{queried, query_passed}
use Rattle.flows.specs.Calls.{Queries, count, fitting, flow_of, written, Flows, list_checks, answer_to, bond_flows_into}

-- twice as long, by a difference, as the product may wrap
pub twice-more : (long n : ℕ) → n ≤ long → eqb (long - n) n ≡ eqb long (2 * n)
twice-more long n h = same_test _ _ (λ e. eq-eqb long (2 * n) (let d = eqb-true (long - n) n e in omega arith)) (λ e. eq-eqb (long - n) n (let d = eqb-true long (2 * n) e in omega arith))

-- a slice after a call that is refused, and after one that is accepted
module _ {A : Type 0} {v : Verdict} (made before : List A) where
  pub written-refused : {r : Refusal} → v ≡ Err r → before ≡ written v made before
  unfolding written
  written-refused p = rw p

  pub written-accepted : {out : List A} → v ≡ pass → out ≡ made → out ≡ written v made before
  unfolding written
  written-accepted p e = rw (p, e)

-- what it says that every slice fits
pub record Fit (q : Queries) : Type 0 where
  pub firsts : length q.a ≡ count q
  pub seconds : length q.b ≡ count q
  pub hopped : length q.hoppings ≡ 2 * count q
  pub factored : length q.factors ≡ count q

pub fits_said : (q : Queries) (flows : List Float) (numbers : List ℕ) → fitting q flows numbers ≡ true → Fit q × (length flows ≡ count q) × (length numbers ≡ count q)
fits_said q flows numbers e =
    let all = both (eqb (length q.a) (count q) && eqb (length q.b) (count q)) _ e in
    let bonds = both (eqb (length q.a) (count q)) _ all.0 in
    let rest = both (eqb (length q.hoppings) (2 * count q) && eqb (length q.factors) (count q)) _ all.1 in
    let factors = both (eqb (length q.hoppings) (2 * count q)) _ rest.0 in
    let outs = both (eqb (length flows) (count q)) _ rest.1 in (
      record { firsts = eqb-true _ _ bonds.0; seconds = eqb-true _ _ bonds.1; hopped = eqb-true _ _ factors.0; factored = eqb-true _ _ factors.1 },
      eqb-true _ _ outs.0,
      eqb-true _ _ outs.1,
    )

module _ (capacity points orbitals : ℕ) (lesser : List Float) (queries : ℕ) (fits : Bool) where
  abbrev sizes : Verdict
  sizes = capacity_checks capacity points orbitals fits (lesser ∷ [])

  in-line : ((sizes then within_list queries) then point_entries capacity points orbitals 0 lesser) ≡ list_checks capacity points orbitals lesser queries fits
  unfolding list_checks
  in-line = then-assoc sizes (within_list queries) (point_entries capacity points orbitals 0 lesser)

  -- refused before 7
  pub list_refused : {v : Verdict} {r : Refusal} → v ≡ (sizes then within_list queries) → v ≡ Err r → v ≡ list_checks capacity points orbitals lesser queries fits
  list_refused e p = p ∙ sym (then-refused _ _ _ (sym e ∙ p)) ∙ in-line

  -- 7, by the checks of one function, of which the others passed
  pub list_asked : {v all : Verdict} → v ≡ (sizes then within_list queries) → v ≡ pass → all ≡ point_checks capacity points orbitals 0 lesser → all ≡ list_checks capacity points orbitals lesser queries fits
  list_asked e p q =
      let passes = sym e ∙ p in
      let s = capacity-passed capacity points orbitals fits (lesser ∷ []) (then-pass _ _ passes).0 in
      let z = s.2 in
      points-asked capacity points orbitals s.0 s.1 0
      (record { points-least = z.points-least; orbitals-least = z.orbitals-least; points-most = z.points-most; orbitals-most = z.orbitals-most; others = refl; long = z.long }) q
      ∙ sym (then-after _ _ passes) ∙ in-line

  module _ (passed : list_checks capacity points orbitals lesser queries fits ≡ pass) where
    parts : (sizes ≡ pass) × ((within_list queries then point_entries capacity points orbitals 0 lesser) ≡ pass)
    unfolding list_checks
    parts = then-pass _ _ passed

    pub list_fits : fits ≡ true
    list_fits = (capacity-passed capacity points orbitals fits (lesser ∷ []) parts.0).2.others

    -- the checks of the single call
    pub lesser-passed : lesser_checks capacity points orbitals lesser ≡ pass
    unfolding lesser_checks point_checks
    lesser-passed =
        let s = capacity-passed capacity points orbitals fits (lesser ∷ []) parts.0 in
        let z = s.2 in
        then-after _ _
        (capacity_pass s.0 s.1
        (record { points-least = z.points-least; orbitals-least = z.orbitals-least; points-most = z.points-most; orbitals-most = z.orbitals-most; others = refl; long = z.long }))
        ∙ (then-pass _ _ parts.1).1

-- the checks with the hoppings' length asked apart
pub fits-asked : (capacity points orbitals : ℕ) (lesser : List Float) (q : Queries) (flows : List Float) (numbers : List ℕ) {twice : Bool} {v : Verdict} → twice ≡ eqb (length q.hoppings) (2 * count q)
    → v ≡ list_checks capacity points orbitals lesser (count q)
    ((eqb (length q.a) (count q) && eqb (length q.b) (count q)) && ((twice && eqb (length q.factors) (count q)) && (eqb (length flows) (count q) && eqb (length numbers) (count q))))
    → v ≡ list_checks capacity points orbitals lesser (count q) (fitting q flows numbers)
fits-asked capacity points orbitals lesser q flows numbers t e = e ∙ rw t

-- a query as the code asks it
abbrev pub asked_of : ℕ → ℕ → ℕ → List Float → Queries → ℕ → Observed
asked_of capacity points orbitals lesser q k =
    queried capacity points orbitals lesser (get_or q.times k 0) (get_or q.a k 0) (get_or q.b k 0) (entry_at q.hoppings (2 * k)) (get_or q.factors k nan)

-- what the call leaves
module _ (capacity points orbitals : ℕ) (lesser : List Float) (q : Queries) (flows : List Float) (numbers : List ℕ) where
  abbrev made : Flows
  made = bond_flows_into capacity points orbitals lesser q flows numbers

  module _ {v : Verdict} (asked : v ≡ list_checks capacity points orbitals lesser (count q) (fitting q flows numbers)) where
    pub list_nothing : {r : Refusal} → v ≡ Err r → (v ≡ made.answer) × (flows ≡ made.flows) × (numbers ≡ made.numbers)
    unfolding bond_flows_into
    list_nothing p = let h = sym asked ∙ p in (asked, written-refused _ flows h, written-refused _ numbers h)

    module _ (p : v ≡ pass) where
      pub list_fitting : Fit q × (length flows ≡ count q) × (length numbers ≡ count q)
      list_fitting = fits_said q flows numbers (list_fits capacity points orbitals lesser (count q) _ (sym asked ∙ p))

      same : (k : ℕ) → asked_of capacity points orbitals lesser q k ≡ answer_to capacity points orbitals lesser q k
      same k = query_passed _ _ _ _ _ _ _ _ _ (lesser-passed capacity points orbitals lesser (count q) _ (sym asked ∙ p))

      pub list_written : {out : List Float} {told : List ℕ} → out ≡ join (count q) (λ k. flow_of (asked_of capacity points orbitals lesser q k) ∷ [])
          → told ≡ join (count q) (λ k. observed_number (asked_of capacity points orbitals lesser q k) ∷ []) → (v ≡ made.answer) × (out ≡ made.flows) × (told ≡ made.numbers)
      unfolding bond_flows_into
      list_written f n =
          let h = sym asked ∙ p in (
            asked,
            written-accepted (join (count q) (λ k. flow_of (answer_to capacity points orbitals lesser q k) ∷ [])) flows h (f ∙ join_agree (count q) _ _ (λ k l. ap (λ (o : Observed). flow_of o ∷ []) (same k))),
            written-accepted (join (count q) (λ k. observed_number (answer_to capacity points orbitals lesser q k) ∷ [])) numbers h (n ∙ join_agree (count q) _ _ (λ k l. ap (λ (o : Observed). observed_number o ∷ []) (same k))),
          )
