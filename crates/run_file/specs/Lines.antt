-- Lines word by word, as they are written. Assumes nothing.
use Rattle.std.specs.Prelude.{◌≡◌, ◌∷◌, ◌++◌, ◌+◌, ◌≤◌}
use Rattle.lists.specs.Prelude.{refl, List, [], append_assoc, ℕ, le_antisymm, Float, binary64, to_bits}
use Rattle.lists.specs.Indexed.{join}
use Rattle.lists.specs.Steps.{join_more}
use Rattle.dyson.specs.Calls.{default_tolerance}
use Rattle.observables.specs.Calls.{particle_number}
use Rattle.observables.specs.declared.Observed.{Observed}
use Rattle.observables.specs.declared.Observed.TheVariants.{Number, NotReal, Refused as NotObserved}
use Rattle.refusal.specs.declared.Refusal.{Refusal}
use Rattle.run_file.specs.Text.{decimal, hexadecimal, run_word, number_word, refused_word, line, time_line}
use Rattle.run_file.specs.Program.{refused_text, run_text}

pub refused-words : (n : ℕ) → ((refused_word ++ (32 ∷ [])) ++ decimal n) ++ (10 ∷ []) ≡ refused_text n
unfolding line
refused-words n = simp append_assoc refl

pub run-words : (points orbitals : ℕ) → ((((run_word ++ (32 ∷ [])) ++ decimal points) ++ (32 ∷ [])) ++ decimal orbitals) ++ (10 ∷ []) ≡ line (run_word ∷ decimal points ∷ decimal orbitals ∷ [])
unfolding line
run-words points orbitals = simp append_assoc refl

module _ (t : ℕ) (o : Observed) where
  pub number-words : {x : Float} (bits : ℕ) → o ≡ Number x → bits ≡ to_bits binary64 x
      → (((decimal t ++ (32 ∷ [])) ++ (number_word ++ (32 ∷ []))) ++ hexadecimal 16 bits) ++ (10 ∷ []) ≡ time_line t o
  unfolding line time_line
  number-words bits e b = rw (e, b) (simp append_assoc refl)

  -- the refusal's number after the index
  refused-after : (n : ℕ) → (decimal t ++ (32 ∷ [])) ++ refused_text n ≡ line (decimal t ∷ refused_word ∷ decimal n ∷ [])
  unfolding line
  refused-after n = simp append_assoc refl

  pub not-real-words : {part : Float} → o ≡ NotReal part → (decimal t ++ (32 ∷ [])) ++ refused_text 14 ≡ time_line t o
  unfolding time_line
  not-real-words e = rw e (refused-after 14)

  pub not-observed-words : {r : Refusal} → o ≡ NotObserved r → (decimal t ++ (32 ∷ [])) ++ refused_text r.number ≡ time_line t o
  unfolding time_line
  not-observed-words {r} e = rw e (refused-after r.number)

-- the lines of the first t times
module _ (points orbitals : ℕ) (lesser : List Float) where
  unfoldable pub times_text : ℕ → List ℕ
  times_text t = join t (λ u. time_line u (particle_number points points orbitals lesser u default_tolerance))

  pub no-times : [] ≡ times_text 0
  unfolding times_text join
  no-times = refl

  pub time_more : (t : ℕ) {o : Observed} → o ≡ particle_number points points orbitals lesser t default_tolerance → times_text t ++ time_line t o ≡ times_text (t + 1)
  unfolding times_text
  time_more t e = rw (e, join_more)

  pub all-times : (t : ℕ) → t ≤ points → points ≤ t → line (run_word ∷ decimal points ∷ decimal orbitals ∷ []) ++ times_text t ≡ run_text points orbitals default_tolerance lesser
  unfolding times_text run_text
  all-times t h l = rw (le_antisymm h l)
