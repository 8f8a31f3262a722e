-- The run of what a call is given in the code.
use Rattle.lists.specs.Prelude.{ℕ, List, Float}
use Rattle.transient_run.specs.declared.Inputs.{Inputs}
use Rattle.transient_run.specs.declared.Session.{Session}
use Rattle.transient_run.specs.Form.{form_of}
use Rattle.transient_run.specs.Calls.{Run, run_of}

abbrev pub given : Inputs → Session → ℕ → List Float → List Float → List Float → List Float → Run
given x session desk retarded lesser kernel lesser_advanced =
    run_of (form_of x.initial x.g0.now) session desk x.shape x.tolerance x.times.now x.free.now x.self_energy.now x.lesser_self_energy.now retarded lesser kernel lesser_advanced
