-- Document 01, run file: what the program `transient` prints for the bytes that it reads.
use Rattle.refusal.specs.declared.Refusal.{Refusal}
use Rattle.std.specs.Prelude.{Result, Ok, Err, ◌∷◌, ◌++◌}
use Rattle.lists.specs.Prelude.{ℕ, List, [], Float}
use Rattle.lists.specs.Indexed.{join}
use Rattle.refusal.specs.Verdict.{Verdict}
use Rattle.transient_run.specs.Calls.{Run, transient_run}
use Rattle.observables.specs.Calls.{particle_number}
use Rattle.run_file.specs.File.{file_checks, file_run}
use Rattle.run_file.specs.Text.{decimal, run_word, refused_word, line, time_line}

-- "Refused: `refused K`."
abbrev pub refused_text : ℕ → List ℕ
refused_text number = line (refused_word ∷ decimal number ∷ [])

-- "Accepted: `run N n`, then per time" a line: the particle number with the solve's tolerance
unfoldable pub run_text : ℕ → ℕ → Float → List Float → List ℕ
run_text points orbitals tolerance lesser =
    line (run_word ∷ decimal points ∷ decimal orbitals ∷ []) ++ join points (λ t. time_line t (particle_number points points orbitals lesser t tolerance))

-- the text of a run's answer, with the lesser function that it left
unfoldable pub solved_text : ℕ → ℕ → Float → Result ℕ Refusal → List Float → List ℕ
solved_text points orbitals tolerance (Ok count) lesser = run_text points orbitals tolerance lesser
solved_text points orbitals tolerance (Err r) lesser = refused_text r.number

-- of a run whose capacity is N
unfoldable pub run_answer : Run → List ℕ
run_answer r = let o = transient_run r in solved_text r.points r.orbitals r.tolerance o.answer o.lesser

-- the file's own questions, then the run
unfoldable pub file_text : Verdict → Run → List ℕ
file_text (Ok tt) r = run_answer r
file_text (Err x) r = refused_text x.number

unfoldable pub printed : List ℕ → List ℕ
printed bytes = file_text (file_checks bytes) (file_run bytes)
