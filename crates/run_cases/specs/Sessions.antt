-- Closed cases of L3 and L13: P12 at the edge of its desk's counter and at two desks, a run whose work overflows, and an append at another desk.
use Rattle.std.specs.Prelude.{Err, ◌≡◌, ◌∷◌, ◌+◌, ◌-◌}
use Rattle.lists.specs.Prelude.{refl, ap, List, [], ℕ, replicate, set, Float}
use Rattle.complex.specs.Arithmetic.{plus_zero, one}
use Rattle.refusal.specs.Verdict.{pass, by, ask}
use Rattle.refusal.specs.Checks.{counter_holds, desk_known}
use Rattle.two_time.specs.Layout.{read_as}
use Rattle.two_time.specs.New.{is_new}
use Rattle.two_time.specs.Sums.{interval_count}
use Rattle.two_time.specs.Example.{floats, bits}
use Rattle.dyson.specs.Calls.{support_checks}
use Rattle.dyson.specs.Cases.{dyson_computation}
use Rattle.transient_run.specs.declared.Session.{Session}
use Rattle.transient_run.specs.Products.{total, over_new, formed}
use Rattle.transient_run.specs.Form.Form.{empty}
use Rattle.transient_run.specs.Calls.{Run, counter_of, run_of, booked, transient_run, append_point}
use Rattle.transient_run.specs.Computation.{run_computation}
use Rattle.transient_run.specs.P12 as P12
use Rattle.transient_run.proofs.P12 as P12Made

-- the largest word
abbrev most : ℕ
most = 0xffff_ffff_ffff_ffff

-- a session in which desk 3 stands at so much, and the others at 0
abbrev at : ℕ → Session
at products = record { products = set (replicate 8 0) 3 products }

-- ---- P12, which forms 41 products, onto slices of ones

passed : support_checks 3 1 one (read_as 3 1 P12.lower) (read_as 3 1 P12.lower) ≡ pass
unfolding dyson_computation
passed = refl

room : (counter_holds (most - 41) (formed 0 0 3) ≡ pass) × (counter_holds (most - 40) (formed 0 0 3) ≡ Err (by 17)) × (counter_holds 0 (formed 0 0 3) ≡ pass)
unfolding counter_holds ask formed over_new total is_new interval_count
room = (refl, refl, refl)

desks : (desk_known 0 ≡ pass) × (desk_known 3 ≡ pass) × (desk_known 4 ≡ pass) × (desk_known 7 ≡ pass)
unfolding desk_known ask
desks = (refl, refl, refl, refl)

-- a session after P12 was asked in it
abbrev after : Session → ℕ → Session
after session desk = booked session desk (transient_run (P12.run_in session desk one (replicate 18 one))).answer

counts : (session : Session) (desk : ℕ) → desk_known desk ≡ pass → counter_holds (counter_of session desk) (formed 0 0 3) ≡ pass → after session desk ≡ record { products = set session.products desk (counter_of session desk + 41) }
unfolding booked
counts session desk known holds = rw (P12Made.outcome_in one (replicate 18 one) refl passed session desk known holds)

-- a counter with room for 41 and no more: accepted, and it stands at the largest word
accepted : after (at (most - 41)) 3 ≡ at most
accepted = counts (at (most - 41)) 3 desks.1 room.0

-- one more: 17, and every slice is as it was
full : (let ones = replicate 18 one in transient_run (P12.run_in (at (most - 40)) 3 one ones) ≡ record { answer = Err (by 17); retarded = ones; lesser = ones; kernel = ones; lesser_advanced = ones })
full = P12.full one (replicate 18 one) refl passed (at (most - 40)) 3 desks.1 room.1

-- a full counter at desk 3 does not concern desk 4; runs at desks 0 and 7 from zero
beside : (after (at most) 4).products ≡ 0 ∷ 0 ∷ 0 ∷ most ∷ 41 ∷ 0 ∷ 0 ∷ 0 ∷ []
beside = ap (λ (s : Session). s.products) (counts (at most) 4 desks.2 room.2)

first-and-last : (after (after (at 0) 0) 7).products ≡ 41 ∷ 0 ∷ 0 ∷ 0 ∷ 0 ∷ 0 ∷ 0 ∷ 41 ∷ []
first-and-last = rw (counts (at 0) 0 desks.0 room.2) (ap (λ (s : Session). s.products) (counts (record { products = set (replicate 8 0) 0 41 }) 7 desks.3 room.2))

-- ---- two points, one orbital: Σ^<(0,0) = 2^1023 meets G^A(0,1) = 2

abbrev overflowing : ℕ → Run
overflowing products =
    let ones = replicate 8 one in
    run_of empty (at products) 3 (record { points = 2; capacity = 2; orbitals = 1 }) one (plus_zero ∷ one ∷ []) (floats (0 ∷ 0 ∷ 0 ∷ 0 ∷ 0x4000000000000000 ∷ 0 ∷ 0 ∷ 0 ∷ []))
    (replicate 8 plus_zero) (floats (0x7fe0000000000000 ∷ 0 ∷ 0 ∷ 0 ∷ 0 ∷ 0 ∷ 0 ∷ 0 ∷ [])) ones ones ones ones

-- a full counter is asked before any product: 17; with room for the 11 products 10, and the counter is as it was
overflow : ((transient_run (overflowing most)).answer ≡ Err (by 17)) × ((transient_run (overflowing (most - 11))).answer ≡ Err (by 10))
    × (booked (at (most - 11)) 3 (transient_run (overflowing (most - 11))).answer ≡ at (most - 11))
unfolding run_computation booked
overflow = (refl, refl, refl)

-- ---- one point and no point in a capacity of 2, +0 everywhere

abbrev zeros_over : ℕ → Session → ℕ → Run
zeros_over points session desk =
    let none = replicate 8 plus_zero in
    run_of empty session desk (record { points = points; capacity = 2; orbitals = 1 }) one (plus_zero ∷ one ∷ []) none none none none none none none

-- desk 8 is no desk, asked before line 1: 22 where no point is told
no-desk : (transient_run (zeros_over 0 (at 0) 8)).answer ≡ Err (by 22)
unfolding run_computation
no-desk = refl

-- a run at desk 3 and an append that names desk 5: each counts at its own
other-desk : (booked (at 11) 5 (append_point (zeros_over 1 (at 11) 5)).answer).products ≡ 0 ∷ 0 ∷ 0 ∷ 11 ∷ 0 ∷ 11 ∷ 0 ∷ 0 ∷ []
unfolding run_computation booked
other-desk = refl
