-- Closed cases of a list of bond flows: refused queries among others, lists that are refused whole, none and 1,025 of them, flows that are not finite.
use Rattle.std.specs.Prelude.{Err, ◌≡◌, ◌∷◌, ◌+◌}
use Rattle.lists.specs.Prelude.{refl, List, [], ℕ, replicate, Float, nan, inf, true, false, binary64}
use Rattle.std.specs.Float.Ieee as Ieee
use Rattle.lists.specs.Indexed.{join}
use Rattle.complex.specs.Arithmetic.{plus_zero, one, finite, cmul, cfinite}
use Rattle.refusal.specs.Verdict.{pass, by, ask, ◌then◌, ask_all}
use Rattle.refusal.specs.Checks.{large_enough, within_limits, fitting, time_below, orbital_below, within_capacity, within_list, finite_factors}
use Rattle.two_time.specs.Calls.{all_long, capacity_checks, point_entries, point_checks}
use Rattle.observables.specs.Density.{density}
use Rattle.observables.specs.Calls.{observed_number, observed, lesser_checks, bond_flow_into}
use Rattle.flows.specs.Calls.{Queries, Flows, flow_of, written, list_checks, bond_flows_into}

abbrev two : Float
two = Ieee.of_bits binary64 0x4000_0000_0000_0000

abbrev largest : Float
largest = Ieee.of_bits binary64 0x7fef_ffff_ffff_ffff

-- two points, one orbital: G^<(0,0) is this number times i, all else +0
abbrev lesser : Float → List Float
lesser x = plus_zero ∷ x ∷ replicate 6 plus_zero

-- 2·Im(i·1) where G^<(0,0) is i; then a time past the points, an orbital past n, and a hopping that is no number
abbrev four : Queries
four = record {
  times = 0 ∷ 2 ∷ 0 ∷ 0 ∷ [];
  a = 0 ∷ 0 ∷ 1 ∷ 0 ∷ [];
  b = replicate 4 0;
  hoppings = plus_zero ∷ one ∷ plus_zero ∷ one ∷ plus_zero ∷ one ∷ nan ∷ one ∷ [];
  factors = replicate 4 one;
}

-- the refused queries first
abbrev backward : Queries
backward = record {
  times = 0 ∷ 0 ∷ 2 ∷ 0 ∷ [];
  a = 0 ∷ 1 ∷ 0 ∷ 0 ∷ [];
  b = replicate 4 0;
  hoppings = nan ∷ one ∷ plus_zero ∷ one ∷ plus_zero ∷ one ∷ plus_zero ∷ one ∷ [];
  factors = replicate 4 one;
}

-- flows of the largest number: infinite ones, and one that is no number
abbrev wild : Queries
wild = record {
  times = replicate 3 0;
  a = replicate 3 0;
  b = replicate 3 0;
  hoppings = plus_zero ∷ two ∷ plus_zero ∷ Ieee.neg two ∷ plus_zero ∷ two ∷ [];
  factors = one ∷ one ∷ plus_zero ∷ [];
}

-- "the flow (+0 on a refusal) and the refusal's number (0 if none)", "a refused query does not stop the list"; flows that are not finite are answers
answered : bond_flows_into 2 2 1 (lesser one) four (replicate 4 nan) (replicate 4 7) ∷ bond_flows_into 2 2 1 (lesser one) backward (replicate 4 nan) (replicate 4 7)
    ∷ bond_flows_into 2 2 1 (lesser largest) wild (replicate 3 one) (replicate 3 7) ∷ []
    ≡ record { answer = pass; flows = two ∷ plus_zero ∷ plus_zero ∷ plus_zero ∷ []; numbers = 0 ∷ 11 ∷ 12 ∷ 13 ∷ [] }
    ∷ record { answer = pass; flows = plus_zero ∷ plus_zero ∷ plus_zero ∷ two ∷ []; numbers = 13 ∷ 12 ∷ 11 ∷ 0 ∷ [] }
    ∷ record { answer = pass; flows = inf false ∷ inf true ∷ nan ∷ []; numbers = 0 ∷ 0 ∷ 0 ∷ [] } ∷ []
unfolding bond_flows_into written flow_of observed_number list_checks bond_flow_into observed lesser_checks point_checks capacity_checks all_long large_enough within_limits fitting within_capacity within_list point_entries time_below orbital_below finite_factors ask ask_all join density cmul cfinite finite Ieee.of_bits Ieee.add Ieee.sub Ieee.mul Ieee.neg
answered = refl

-- so many times the same query
abbrev many : ℕ → Queries
many n = record { times = replicate n 0; a = replicate n 0; b = replicate n 0; hoppings = replicate (n + n) one; factors = replicate n one }

-- an empty list is accepted; 1,025 queries are 18 before 7, and 3 and 16 come before 18; 1,024 are let through to 7
whole : (bond_flows_into 2 2 1 (lesser one) (many 0) [] []).answer ∷ (bond_flows_into 2 2 1 (lesser nan) (many 1025) (replicate 1025 one) (replicate 1025 7)).answer
    ∷ (bond_flows_into 2 2 1 (lesser nan) (many 1025) (replicate 1025 one) (replicate 1024 7)).answer ∷ (bond_flows_into 2 3 1 (lesser nan) (many 1025) (replicate 1025 one) (replicate 1025 7)).answer
    ∷ (bond_flows_into 2 2 1 (lesser nan) (many 1024) (replicate 1024 one) (replicate 1024 7)).answer ∷ []
    ≡ pass ∷ Err (by 18) ∷ Err (by 3) ∷ Err (by 16) ∷ Err (record { number = 7; operand = 0; first = 1; second = 0; part = plus_zero }) ∷ []
unfolding bond_flows_into list_checks capacity_checks all_long large_enough within_limits fitting within_capacity within_list point_entries ask ask_all finite Ieee.of_bits
whole = refl

-- both slices are as they were
nothing_written : bond_flows_into 2 3 1 (lesser one) four (replicate 4 nan) (replicate 4 7) ≡ record { answer = Err (by 16); flows = replicate 4 nan; numbers = replicate 4 7 }
unfolding bond_flows_into written list_checks capacity_checks all_long large_enough within_limits fitting within_capacity ask
nothing_written = refl
