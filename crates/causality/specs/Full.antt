-- A desk's counter that is filled: "17 if the session counter would pass 2^64 − 1", which exactly 2^64 − 1 does not; "Number 17 then concerns that desk's
-- counter"; "22 if the desk is above 7, before line 1". Assumes nothing.
use Rattle.std.specs.Prelude.{Ok, Err, ◌≡◌, ◌∷◌, ◌-◌}
use Rattle.lists.specs.Prelude.{refl, List, [], ℕ, replicate, set}
use Rattle.complex.specs.Arithmetic.{one}
use Rattle.refusal.specs.Verdict.{pass, by}
use Rattle.transient_run.specs.declared.Session.{Session}
use Rattle.transient_run.specs.Calls.{booked}
use Rattle.transient_run.specs.Computation.{run_computation}
use Rattle.causality.specs.Sessions.{opened, in_session, Call, desk_of, answer_in, after}
use Rattle.causality.specs.Sessions.Call.{run}
use Rattle.causality.specs.Prefix.{short}

-- the run of two points, which counts 11, at a desk
abbrev at_desk : ℕ → Call
at_desk desk = run (in_session opened desk (short one))

-- a session whose desk 2 stands at so much, and the others at 0
abbrev standing : ℕ → Session
standing products = record { products = set (replicate 8 0) 2 products }

-- with room for that run at desk 2 and for no product more: the run is accepted there and fills the counter, then refused there, and accepted at desk 5; 8 is
-- no desk
pub filled : (answer_in (standing (0xffff_ffff_ffff_ffff - 11)) (at_desk 2) ≡ Ok 11) × (answer_in (standing 0xffff_ffff_ffff_ffff) (at_desk 2) ≡ Err (by 17))
    × (answer_in (standing 0xffff_ffff_ffff_ffff) (at_desk 5) ≡ Ok 11) × (answer_in (standing 0xffff_ffff_ffff_ffff) (at_desk 8) ≡ Err (by 22))
unfolding run_computation answer_in
filled = (refl, refl, refl, refl)

-- one after another
abbrev calls : List Call
calls = at_desk 2 ∷ at_desk 2 ∷ at_desk 5 ∷ at_desk 8 ∷ []

pub each-own : (after (standing (0xffff_ffff_ffff_ffff - 11)) calls).products ≡ 0 ∷ 0 ∷ 0xffff_ffff_ffff_ffff ∷ 0 ∷ 0 ∷ 11 ∷ 0 ∷ 0 ∷ []
unfolding run_computation desk_of answer_in after booked
each-own = refl
