-- Checks 1 to 3 of three slices, as the code asks them. Assumes nothing.
use Rattle.std.specs.Prelude.{◌≡◌, ◌&&◌, ◌∷◌}
use Rattle.lists.specs.Prelude.{sym, ◌∙◌, Bool, List, [], ℕ, Float}
use Rattle.refusal.specs.Verdict.{Verdict, ◌then◌}
use Rattle.refusal.specs.Checks.{large_enough, within_limits, fitting}
use Rattle.two_time.specs.Calls.{all_fit, size_checks}
use Rattle.two_time.specs.SizeChecks.{sizes_asked_lem, fits_more}

pub asked : (points n : ℕ) (there : Bool) (first second third : List Float) {one two three : Bool} {v told : Verdict}
    → one ≡ all_fit points n (first ∷ []) → two ≡ all_fit points n (second ∷ []) → three ≡ all_fit points n (third ∷ [])
    → v ≡ (large_enough points n then within_limits points n then fitting (there && (one && (two && three)))) → v ≡ told → size_checks points n there (first ∷ second ∷ third ∷ []) ≡ told
asked points n there first second third f s t a e =
    sym (sizes_asked_lem points n (first ∷ second ∷ third ∷ []) there _ _ (fits_more points n first (second ∷ third ∷ []) _ _ f (fits_more points n second (third ∷ []) _ _ s t)) a) ∙ e
