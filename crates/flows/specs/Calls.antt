-- Document 02, L6: "Take a list of queries (time, a, b, hopping, factor) as slices, and write each answer in list order into two lent slices of the
-- list's length: the flow (+0 on a refusal) and the refusal's number (0 if none)."
use Rattle.std.specs.Prelude.{Ok, Err, ◌*◌, ◌&&◌, ◌∷◌}
use Rattle.lists.specs.Prelude.{ℕ, Bool, List, [], eqb, length, get_or, Float, nan}
use Rattle.lists.specs.Indexed.{join}
use Rattle.complex.specs.Arithmetic.{plus_zero}
use Rattle.complex.specs.Numbers.{entry_at}
use Rattle.refusal.specs.Verdict.{Verdict, ◌then◌}
use Rattle.refusal.specs.Checks.{within_list}
use Rattle.two_time.specs.Calls.{capacity_checks, point_entries}
use Rattle.observables.specs.declared.Observed.{Observed}
use Rattle.observables.specs.declared.Observed.TheVariants.{Number, NotReal, Refused as NotObserved}
use Rattle.observables.specs.Calls.{observed_number, bond_flow_into}

-- the queries, slice by slice: the hoppings have two numbers each
pub record Queries : Type 0 where
  pub times : List ℕ
  pub a : List ℕ
  pub b : List ℕ
  pub hoppings : List Float
  pub factors : List Float

-- the list's length is that of the times
abbrev pub count : Queries → ℕ
count q = length q.times

-- "the flow (+0 on a refusal)" of an answer; "the refusal's number (0 if none)" is `observed_number`
unfoldable pub flow_of : Observed → Float
flow_of (Number x) = x
flow_of (NotReal part) = plus_zero
flow_of (NotObserved r) = plus_zero

-- each slice of the queries and each output fits the list
abbrev pub fitting : Queries → List Float → List ℕ → Bool
fitting q flows numbers =
    (eqb (length q.a) (count q) && eqb (length q.b) (count q))
    && ((eqb (length q.hoppings) (2 * count q) && eqb (length q.factors) (count q))
    && (eqb (length flows) (count q) && eqb (length numbers) (count q)))

-- what a slice holds after a call that has no 10: what was made where it is accepted, and else what it held
unfoldable pub written : {A : Type 0} → Verdict → List A → List A → List A
written (Ok tt) made before = made
written (Err r) made before = before

-- the answer and what the two slices hold afterwards
pub record Flows : Type 0 where
  pub answer : Verdict
  pub flows : List Float
  pub numbers : List ℕ

module _ (capacity points orbitals : ℕ) (lesser : List Float) where
  -- "Lines 1 to 7 refuse the whole call. Answers: 18 if the list exceeds 1,024 queries, after line 3 and after 16": `fits` says whether each slice fits
  -- the list, and 7 asks the lesser function alone
  unfoldable pub list_checks : ℕ → Bool → Verdict
  list_checks queries fits = capacity_checks capacity points orbitals fits (lesser ∷ []) then within_list queries then point_entries capacity points orbitals 0 lesser

  -- "Each answer equals the single call's, refusals included": that to query k
  abbrev pub answer_to : Queries → ℕ → Observed
  answer_to q k =
      bond_flow_into capacity points orbitals lesser (get_or q.times k 0) (get_or q.a k 0) (get_or q.b k 0) (entry_at q.hoppings (2 * k)) (get_or q.factors k nan)

  -- `bond_flows_into`: "a refused query does not stop the list"
  unfoldable pub bond_flows_into : Queries → List Float → List ℕ → Flows
  bond_flows_into q flows numbers =
      let verdict = list_checks (count q) (fitting q flows numbers) in
      record {
        answer = verdict;
        flows = written verdict (join (count q) (λ k. flow_of (answer_to q k) ∷ [])) flows;
        numbers = written verdict (join (count q) (λ k. observed_number (answer_to q k) ∷ [])) numbers;
      }
