-- P12's run and the run of its first two points: both are accepted and agree up to 1, so what demand 3 supposes can be met, by runs of different
-- N, capacity, session and desk too, and of different forms. Assumes nothing.
use Rattle.refusal.specs.Verdict.{pass}
use Rattle.std.specs.Prelude.{◌≡◌, ◌∷◌, ◌≤◌}
use Rattle.lists.specs.Prelude.{refl, true, [], ℕ, zero, suc, arith, get_or, replicate, Float, nan, binary64}
use Rattle.std.specs.Float.Ieee as Ieee
use Rattle.complex.specs.Arithmetic.{plus_zero, one}
use Rattle.refusal.specs.Checks.{not_empty, within_block}
use Rattle.block.specs.Block.{Entries, entries_in}
use Rattle.block.specs.Operations.{zeros}
use Rattle.block.specs.Agreement.{Agree}
use Rattle.two_time.specs.Layout.{TwoTime, read_as}
use Rattle.dyson.specs.Calls.{support_checks}
use Rattle.dyson.specs.Cases.{dyson_computation}
use Rattle.transient_run.specs.Form.{Form, g0_of}
use Rattle.transient_run.specs.Form.Form.{empty, occupied}
use Rattle.transient_run.specs.Calls.{Run, run_of, solved, is_accepted, verdict_of, worked, transient_run}
use Rattle.transient_run.specs.Computation.{run_computation}
use Rattle.transient_run.specs.P12 as P12
use Rattle.transient_run.proofs.P12 as P12Made
use Rattle.causality.specs.Statement.{of, SameTo, Comparable}
use Rattle.causality.specs.Stages.{SquareTo}

-- P12's run, with the tolerance 1
abbrev pub run : Run
run = P12.run one (replicate 18 one)

pub inputs_pass : support_checks 3 1 one (read_as 3 1 P12.lower) (read_as 3 1 P12.lower) ≡ pass
unfolding dyson_computation
inputs_pass = refl

pub passes : verdict_of 0 3 run ≡ pass
passes = P12Made.verdict one (replicate 18 one) refl inputs_pass

-- the run of its first two points, with x for free's last entry
abbrev pub short : Float → Run
short x =
    let before = replicate 8 one in
    run_of empty (record { products = replicate 8 7 }) 2 (record { points = 2; capacity = 2; orbitals = 1 }) one (plus_zero ∷ one ∷ []) (one ∷ plus_zero ∷ plus_zero ∷ plus_zero ∷ one ∷ plus_zero ∷ x ∷ plus_zero ∷ [])
    (one ∷ plus_zero ∷ plus_zero ∷ plus_zero ∷ one ∷ plus_zero ∷ one ∷ plus_zero ∷ []) (plus_zero ∷ one ∷ plus_zero ∷ one ∷ plus_zero ∷ one ∷ plus_zero ∷ one ∷ []) before before before before

abbrev pub two : Float
two = Ieee.of_bits binary64 0x4000_0000_0000_0000

pub short-passes : (verdict_of 0 2 (short one) ≡ pass) × (verdict_of 0 2 (short two) ≡ pass)
unfolding run_computation
short-passes = (refl, refl)

pub answered : (r : Run) → verdict_of 0 r.points r ≡ pass → is_accepted (transient_run r).answer ≡ true
unfolding transient_run worked solved is_accepted
answered r e = rw e

-- ---- what holds at 0 and 1, and what holds at 0

pub to_one : (P : ℕ → Type 0) → P 0 → P 1 → (i : ℕ) → i ≤ 1 → P i
to_one P p q zero h = p
to_one P p q (suc zero) h = q
to_one P p q (suc (suc i)) h = absurd (omega arith)

pub to_zero : (P : ℕ → Type 0) → P 0 → (i : ℕ) → i ≤ 0 → P i
to_zero P p zero h = p
to_zero P p (suc i) h = absurd (omega arith)

-- one orbital: two entries that are the same agree as blocks
pub one_entry : (x y : Entries) → x 0 0 ≡ y 0 0 → Agree 1 x y
one_entry x y h a b ha hb = to_zero (λ i. x i b ≡ y i b) (to_zero (λ j. x 0 j ≡ y 0 j) h b (omega arith)) a (omega arith)

pub square : (x y : TwoTime) → x 0 0 0 0 ≡ y 0 0 0 0 → x 0 1 0 0 ≡ y 0 1 0 0 → x 1 0 0 0 ≡ y 1 0 0 0 → x 1 1 0 0 ≡ y 1 1 0 0 → SquareTo 1 1 x y
square x y p q r s t u ht hu =
    to_one (λ i. Agree 1 (x i u) (y i u))
    (to_one (λ j. Agree 1 (x 0 j) (y 0 j)) (one_entry (x 0 0) (y 0 0) p) (one_entry (x 0 1) (y 0 1) q) u hu)
    (to_one (λ j. Agree 1 (x 1 j) (y 1 j)) (one_entry (x 1 0) (y 1 0) r) (one_entry (x 1 1) (y 1 1) s) u hu) t ht

pub prefix_same : SameTo 1 run (short one)
prefix_same =
    record {
      orbitals = refl;
      times = to_one (λ i. get_or run.times i nan ≡ get_or (short one).times i nan) refl refl;
      free = λ t u ht hu. square (of run run.free) (of (short one) (short one).free) refl refl refl refl t u ht (omega arith);
      self_energy = λ t u ht hu. square (of run run.self_energy) (of (short one) (short one).self_energy) refl refl refl refl t u ht (omega arith);
      lesser_self_energy = square (of run run.lesser_self_energy) (of (short one) (short one).lesser_self_energy) refl refl refl refl;
      start = λ a b ha hb. refl;
    }

-- ---- "the old form counts as g0 at +0": the same two points with a block of +0

abbrev pub zero_block : Form
zero_block = occupied (record { rows = 1; columns = 1; values = plus_zero ∷ plus_zero ∷ [] })

abbrev pub short_from : Form → Run
short_from form =
    let r = short one in
    run_of form r.session r.desk (record { points = 2; capacity = 2; orbitals = 1 }) r.tolerance r.times r.free r.self_energy r.lesser_self_energy r.retarded r.lesser r.kernel r.lesser_advanced

pub occupied-passes : verdict_of 0 2 (short_from zero_block) ≡ pass
unfolding run_computation not_empty within_block
occupied-passes = refl
