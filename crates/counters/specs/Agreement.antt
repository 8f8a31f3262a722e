-- The verdict of a run has document 01's number of the answer. Assumes nothing.
use Rattle.refusal.specs.declared.Refusal.{Refusal}
use Rattle.std.specs.Prelude.{Result, Ok, Err, ◌≡◌}
use Rattle.lists.specs.Prelude.{refl, ℕ}
use Rattle.refusal.specs.Verdict.{number_of}
use Rattle.transient_run.specs.Calls.{solved_number}
use Rattle.counters.specs.Counters.{solved_verdict}

pub solved_number_lem : (s : Result ℕ Refusal) → number_of (solved_verdict s) ≡ solved_number s
unfolding number_of solved_number
solved_number_lem (Ok count) = refl
solved_number_lem (Err r) = refl
