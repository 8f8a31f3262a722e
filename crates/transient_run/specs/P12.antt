-- P12 of document 01, made stage by stage: each stage is computed from what the stage before it left. Assumes nothing.
use Rattle.std.specs.Prelude.{Err, ◌≡◌, ◌&&◌, ◌∷◌}
use Rattle.lists.specs.Prelude.{refl, ap, ◌∙◌, true, List, [], ℕ, eqb, length, replicate, Float}
use Rattle.refusal.specs.Verdict.{pass, by, ask, ◌then◌, afterwards}
use Rattle.refusal.specs.Checks.{finite_work, within_capacity, counter_holds, desk_known}
use Rattle.grid.specs.Calls.{grid_checks}
use Rattle.two_time.specs.declared.sums.Sums.TheVariants.{Causal, LesserAdvanced, Lesser}
use Rattle.two_time.specs.Layout.{read_as, length_of}
use Rattle.two_time.specs.New.{is_new}
use Rattle.two_time.specs.Sums.{sums_numbers, sums_finite}
use Rattle.two_time.specs.Sums.{new_numbers}
use Rattle.two_time.specs.Calls.{all_long, point_entries, point_operands}
use Rattle.two_time.specs.Outcome.{all_finite_lem, all-numbers}
use Rattle.two_time.specs.Start.{empty as from_nothing, new_lesser_numbers}
use Rattle.two_time.specs.Started.{empty-numbers, empty-finite}
use Rattle.two_time.specs.Computation.{computation}
use Rattle.two_time.specs.Example.{floats}
use Rattle.dyson.specs.Retarded.{solve, retarded_onward, retarded_numbers, retarded_finite}
use Rattle.dyson.specs.Calls.{support_checks, new_green, solved_finite}
use Rattle.dyson.specs.NewSolved.{finite-all, green-all}
use Rattle.transient_run.specs.declared.Session.{Session}
use Rattle.transient_run.specs.Products.{total, over_new, formed}
use Rattle.transient_run.specs.Form.{form_sizes, form_entries, start_of, start_products}
use Rattle.transient_run.specs.Form.Form.{empty}
use Rattle.transient_run.specs.Calls.{Run, counter_of, run_of, solved, made_finite, checks_of, verdict_of, worked, transient_run}

-- 0, 1, 2
abbrev pub times : List Float
times = floats (0 ∷ 0x3ff0000000000000 ∷ 0x4000000000000000 ∷ [])

-- "free and self-energy 1 on and below the diagonal, +0 above"
abbrev pub lower : List Float
lower = floats (
    0x3ff0000000000000 ∷ 0 ∷ 0 ∷ 0 ∷ 0 ∷ 0 ∷
    0x3ff0000000000000 ∷ 0 ∷ 0x3ff0000000000000 ∷ 0 ∷ 0 ∷ 0 ∷
    0x3ff0000000000000 ∷ 0 ∷ 0x3ff0000000000000 ∷ 0 ∷ 0x3ff0000000000000 ∷ 0 ∷ [])

-- "Σ^< = i everywhere"
abbrev pub imaginary : List Float
imaginary = floats (
    0 ∷ 0x3ff0000000000000 ∷ 0 ∷ 0x3ff0000000000000 ∷ 0 ∷ 0x3ff0000000000000 ∷
    0 ∷ 0x3ff0000000000000 ∷ 0 ∷ 0x3ff0000000000000 ∷ 0 ∷ 0x3ff0000000000000 ∷
    0 ∷ 0x3ff0000000000000 ∷ 0 ∷ 0x3ff0000000000000 ∷ 0 ∷ 0x3ff0000000000000 ∷ [])

abbrev pub kernel_bits : List ℕ
kernel_bits =
    0 ∷ 0 ∷ 0 ∷ 0 ∷ 0 ∷ 0 ∷
    0x3ff0000000000000 ∷ 0 ∷ 0 ∷ 0 ∷ 0 ∷ 0 ∷
    0x4000000000000000 ∷ 0 ∷ 0x3ff0000000000000 ∷ 0 ∷ 0 ∷ 0 ∷ []

abbrev pub retarded_bits : List ℕ
retarded_bits =
    0x3ff0000000000000 ∷ 0 ∷ 0 ∷ 0 ∷ 0 ∷ 0 ∷
    0x3ff8000000000000 ∷ 0 ∷ 0x3ff0000000000000 ∷ 0 ∷ 0 ∷ 0 ∷
    0x400c000000000000 ∷ 0 ∷ 0x3ff8000000000000 ∷ 0 ∷ 0x3ff0000000000000 ∷ 0 ∷ []

abbrev pub lesser_advanced_bits : List ℕ
lesser_advanced_bits =
    0 ∷ 0 ∷ 0 ∷ 0x3ff4000000000000 ∷ 0 ∷ 0x400e000000000000 ∷
    0 ∷ 0 ∷ 0 ∷ 0x3ff4000000000000 ∷ 0 ∷ 0x400e000000000000 ∷
    0 ∷ 0 ∷ 0 ∷ 0x3ff4000000000000 ∷ 0 ∷ 0x400e000000000000 ∷ []

abbrev pub lesser_bits : List ℕ
lesser_bits =
    0 ∷ 0 ∷ 0 ∷ 0 ∷ 0 ∷ 0 ∷
    0 ∷ 0 ∷ 0 ∷ 0x3ff9000000000000 ∷ 0 ∷ 0x4012c00000000000 ∷
    0 ∷ 0 ∷ 0 ∷ 0x4012c00000000000 ∷ 0 ∷ 0x402c200000000000 ∷ []

pub kernel_stage : sums_numbers Causal 3 1 times lower lower ≡ floats kernel_bits
unfolding computation
kernel_stage = refl

pub retarded_stage : retarded_numbers 3 1 times lower (floats kernel_bits) ≡ floats retarded_bits
unfolding computation solve retarded_onward retarded_numbers retarded_finite
retarded_stage = refl

lesser_advanced_stage : sums_numbers LesserAdvanced 3 1 times imaginary (floats retarded_bits) ≡ floats lesser_advanced_bits
unfolding computation
lesser_advanced_stage = refl

lesser_stage : sums_numbers Lesser 3 1 times (floats retarded_bits) (floats lesser_advanced_bits) ≡ floats lesser_bits
unfolding computation
lesser_stage = refl

-- every block of each stage is finite
pub kernel-finite : sums_finite Causal 3 1 times lower lower ≡ true
unfolding computation
kernel-finite = refl

pub retarded_finite_lem : retarded_finite 3 1 times lower (floats kernel_bits) ≡ true
unfolding computation solve retarded_onward retarded_numbers retarded_finite
retarded_finite_lem = refl

lesser_advanced-finite : sums_finite LesserAdvanced 3 1 times imaginary (floats retarded_bits) ≡ true
unfolding computation
lesser_advanced-finite = refl

lesser_finite_lem : sums_finite Lesser 3 1 times (floats retarded_bits) (floats lesser_advanced_bits) ≡ true
unfolding computation
lesser_finite_lem = refl

-- the run in a session, with outputs and scratch that hold `before`; at desk 0 of one opened at 0
abbrev pub run_in : Session → ℕ → Float → List Float → Run
run_in session desk tolerance before = run_of empty session desk (record { points = 3; capacity = 3; orbitals = 1 }) tolerance times lower lower imaginary before before before before

abbrev pub opened : Session
opened = record { products = replicate 8 0 }

abbrev pub run : Float → List Float → Run
run = run_in opened 0

sizes : (before : List Float) → length before ≡ 18
    → form_sizes empty 3 3 1 (eqb (length times) 3 && all_long (length_of 3 1) (lower ∷ lower ∷ imaginary ∷ before ∷ before ∷ before ∷ before ∷ [])) ≡ pass
unfolding computation form_sizes within_capacity
sizes before h = rw h

inputs : (grid_checks 3 times ≡ pass) × (point_operands 3 3 1 0 (lower ∷ lower ∷ imaginary ∷ []) ≡ pass)
unfolding computation point_operands point_entries
inputs = (refl, refl)

-- "N(N+1)(2N+1)/6 + N·N·(N+1) − 3N" at three points, which a counter at 0 holds; desk 0 is a desk
pub counted : (formed 0 0 3 ≡ 41) × (counter_holds 0 (formed 0 0 3) ≡ pass) × (desk_known 0 ≡ pass)
unfolding computation counter_holds desk_known formed over_new total is_new
counted = (refl, refl, refl)

module _ (tolerance : Float) (before : List Float) (long : length before ≡ 18) (passed : support_checks 3 1 tolerance (read_as 3 1 lower) (read_as 3 1 lower) ≡ pass) where
  -- all places of slices laid out for the points
  pub kernel_made_lem : new_numbers Causal 3 1 0 3 times lower lower before ≡ floats kernel_bits
  kernel_made_lem = all-numbers Causal 3 1 times lower lower before ∙ kernel_stage

  pub retarded_made_lem : new_green 3 1 0 3 times lower lower before before ≡ floats retarded_bits
  retarded_made_lem = green-all 3 1 times lower lower before before ∙ ap (retarded_numbers 3 1 times lower) kernel_stage ∙ retarded_stage

  pub lesser_advanced_made_lem : new_numbers LesserAdvanced 3 1 0 3 times imaginary (floats retarded_bits) before ≡ floats lesser_advanced_bits
  lesser_advanced_made_lem = all-numbers LesserAdvanced 3 1 times imaginary (floats retarded_bits) before ∙ lesser_advanced_stage

  pub lesser_made_lem : new_lesser_numbers from_nothing 3 1 0 3 times (floats retarded_bits) (floats lesser_advanced_bits) before ≡ floats lesser_bits
  lesser_made_lem = empty-numbers 3 1 0 3 times (floats retarded_bits) (floats lesser_advanced_bits) before ∙ all-numbers Lesser 3 1 times (floats retarded_bits) (floats lesser_advanced_bits) before ∙ lesser_stage

  finite : (session : Session) (desk : ℕ) → made_finite 0 3 (run_in session desk tolerance before) ≡ true
  unfolding made_finite solved_finite start_of
  finite session desk =
      rw (retarded_made_lem, lesser_advanced_made_lem, finite-all 3 1 times lower lower before before, all_finite_lem LesserAdvanced 3 1 times imaginary (floats retarded_bits) before)
      (rw (empty-finite 3 1 0 3 times (floats retarded_bits) (floats lesser_advanced_bits), all_finite_lem Lesser 3 1 times (floats retarded_bits) (floats lesser_advanced_bits) before, kernel-finite, kernel_stage, retarded_finite_lem, lesser_advanced-finite, lesser_finite_lem))

  pub verdict_in : (session : Session) (desk : ℕ) → desk_known desk ≡ pass → counter_holds (counter_of session desk) (formed 0 0 3) ≡ pass → verdict_of 0 3 (run_in session desk tolerance before) ≡ pass
  unfolding verdict_of checks_of finite_work ask form_sizes form_entries start_products
  verdict_in session desk known room = simp (finite session desk, known, sizes before long, inputs.0, inputs.1, passed, room) refl

  -- and 17 where it has none: every slice is as it was
  pub full : (session : Session) (desk : ℕ) → desk_known desk ≡ pass → counter_holds (counter_of session desk) (formed 0 0 3) ≡ Err (by 17) → transient_run (run_in session desk tolerance before)
      ≡ record { answer = Err (by 17); retarded = before; lesser = before; kernel = before; lesser_advanced = before }
  unfolding transient_run worked verdict_of checks_of afterwards solved start_products form_entries
  full session desk known none = rw (known, sizes before long, inputs.0, inputs.1, passed, none)
