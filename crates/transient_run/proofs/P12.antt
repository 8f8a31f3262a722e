-- P12: what the run answers and leaves at three points. Assumes nothing.
use Rattle.std.specs.Prelude.{Ok, ◌≡◌}
use Rattle.lists.specs.Prelude.{List, ℕ, length, Float}
use Rattle.refusal.specs.Verdict.{pass, afterwards}
use Rattle.refusal.specs.Checks.{counter_holds, desk_known}
use Rattle.two_time.specs.Layout.{read_as}
use Rattle.two_time.specs.Example.{floats}
use Rattle.dyson.specs.Calls.{support_checks}
use Rattle.transient_run.specs.declared.Session.{Session}
use Rattle.transient_run.specs.Products.{formed}
use Rattle.transient_run.specs.Form.{start_of, start_products}
use Rattle.transient_run.specs.Calls.{counter_of, solved, verdict_of, worked, transient_run}
use Rattle.transient_run.specs.P12.{lower, kernel_bits, retarded_bits, lesser_advanced_bits, lesser_bits, run_in, opened, run, counted, kernel_made_lem, retarded_made_lem, lesser_advanced_made_lem, lesser_made_lem, verdict_in}

module _ (tolerance : Float) (before : List Float) (long : length before ≡ 18) (passed : support_checks 3 1 tolerance (read_as 3 1 lower) (read_as 3 1 lower) ≡ pass) where
  pub verdict : verdict_of 0 3 (run tolerance before) ≡ pass
  verdict = verdict_in tolerance before long passed opened 0 counted.2 counted.1

  -- "G^<(1,1) = 1.5625i, G^<(2,2) = 14.0625i", whatever tolerance passes checks 8 and 9, wherever the counter has room
  pub outcome_in : (session : Session) (desk : ℕ) → desk_known desk ≡ pass → counter_holds (counter_of session desk) (formed 0 0 3) ≡ pass → transient_run (run_in session desk tolerance before)
      ≡ record { answer = Ok 41; retarded = floats retarded_bits; lesser = floats lesser_bits; kernel = floats kernel_bits; lesser_advanced = floats lesser_advanced_bits }
  unfolding transient_run worked afterwards solved start_of start_products
  outcome_in session desk known room = rw (verdict_in tolerance before long passed session desk known room, counted.0, retarded_made_lem tolerance before long passed, lesser_advanced_made_lem tolerance before long passed, lesser_made_lem tolerance before long passed, kernel_made_lem tolerance before long passed)

  pub outcome : transient_run (run tolerance before)
      ≡ record { answer = Ok 41; retarded = floats retarded_bits; lesser = floats lesser_bits; kernel = floats kernel_bits; lesser_advanced = floats lesser_advanced_bits }
  outcome = outcome_in opened 0 counted.2 counted.1
