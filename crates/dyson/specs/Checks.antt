-- The checks of a Dyson call as the code makes them, and what the answer of `solve_retarded` says. Assumes nothing.
use Rattle.std.specs.Prelude.{is_ok, ◌≡◌, ◌∷◌, ◌++◌}
use Rattle.lists.specs.Prelude.{refl, sym, ◌∙◌, Bool, true, false, cond, List, [], ℕ, le_refl, arith, ltb, Float}
use Rattle.refusal.specs.Verdict.{pass, Verdict, ◌then◌, zeroed}
use Rattle.refusal.specs.Checks.{valid_tolerance, retarded_at}
use Rattle.refusal.specs.Agreement.{then-pass, then-agree, then-after}
use Rattle.refusal.specs.Unchanged.{Keeping, passed, ask_keeping, then-keeping, all_keeping}
use Rattle.two_time.specs.declared.sums.Sums.TheVariants.{Causal}
use Rattle.two_time.specs.Summed.{Summed}
use Rattle.two_time.specs.Layout.{TwoTime, read_as}
use Rattle.support.specs.Support.{retarded, residual, check_inputs}
use Rattle.two_time.specs.Sums.{sums_finite}
use Rattle.two_time.specs.Calls.{input_checks}
use Rattle.two_time.specs.Outcome.{by_flag}
use Rattle.two_time.specs.SizeChecks.{SizesPassed, sizes_pass}
use Rattle.two_time.specs.CapacityChecks.{capacity_pass}
use Rattle.two_time.specs.Lengths.{lengths, others-asked, none-asked, also_asked}
use Rattle.two_time.specs.Checks.{inputs_keeping, inputs-sizes}
use Rattle.dyson.specs.Retarded.{retarded_finite}
use Rattle.dyson.specs.Calls.{Equation, support_checks, kernel_of, retarded_of, solved_finite, checks_before, solved_retarded}

module _ (points n : ℕ) (tolerance : Float) where
  -- a support test never refuses by 10
  place_keeping : (operand : ℕ) (x : TwoTime) (t u : ℕ) (b : Bool) → Keeping (cond b (retarded_at operand t u tolerance (residual points n x t u)) pass)
  unfolding retarded_at
  place_keeping operand x t u true = ask_keeping _ _ refl
  place_keeping operand x t u false = passed

  retarded_keeping : (operand : ℕ) (x : TwoTime) → Keeping (retarded points n operand tolerance x)
  unfolding retarded
  retarded_keeping operand x = all_keeping _ _ (λ t. all_keeping _ _ (λ u. place_keeping operand x t u (ltb t u)))

  pub support_keeping : (x y : TwoTime) → Keeping (support_checks points n tolerance x y)
  unfolding support_checks valid_tolerance
  support_keeping x y = then-keeping (ask_keeping _ _ refl) (then-keeping (retarded_keeping 0 x) (retarded_keeping 1 y))

module _ (q : Equation) (tolerance : Float) (operands outputs : List (List Float)) where
  abbrev inputs : Verdict
  inputs = input_checks q.points q.orbitals q.times (q.free ∷ q.self_energy ∷ operands) outputs

  -- the sizes of a call that passes
  pub checks-sizes : inputs ≡ pass → SizesPassed q.points q.orbitals true (q.free ∷ q.self_energy ∷ (operands ++ outputs))
  checks-sizes h = let z = inputs-sizes q.points q.orbitals q.times (q.free ∷ q.self_energy ∷ operands) outputs h in others-asked z _ z.long

  -- before 8 and 9 the code asks checks 1 to 3 of both operands again, which changes nothing
  pub checks_are : {i s v : Verdict} → i ≡ inputs → s ≡ check_inputs q.points q.points q.orbitals q.free q.self_energy tolerance → v ≡ (i then s) → v ≡ checks_before q tolerance operands outputs
  unfolding check_inputs
  checks_are ei es e =
      e ∙ then-agree _ inputs _ _ ei (λ p.
      let z = checks-sizes (sym ei ∙ p) in
      let l = lengths z in
      let w = also_asked (omega arith) (also_asked (omega arith) (none-asked z)) in
      es ∙ then-after _ _ (capacity_pass w.points-least (le_refl q.points) w))

  pub checks_keeping : Keeping (checks_before q tolerance operands outputs)
  checks_keeping = then-keeping (inputs_keeping q.points q.orbitals q.times _ _) (support_keeping q.points q.orbitals tolerance _ _)

  pub checks-passed : checks_before q tolerance operands outputs ≡ pass → SizesPassed q.points q.orbitals true (q.free ∷ q.self_energy ∷ (operands ++ outputs))
  checks-passed h = checks-sizes (then-pass inputs _ h).0

module _ (q : Equation) where
  -- whether K and G are finite, by K and by G from it
  pub kernel-fails : sums_finite Causal q.points q.orbitals q.times q.free q.self_energy ≡ false → solved_finite q ≡ false
  unfolding solved_finite
  kernel-fails e = rw e

  pub kernel_made_lem : sums_finite Causal q.points q.orbitals q.times q.free q.self_energy ≡ true → {kernel : List Float} → kernel ≡ kernel_of q
      → {ok : Bool} → ok ≡ retarded_finite q.points q.orbitals q.times q.free kernel → solved_finite q ≡ ok
  unfolding solved_finite
  kernel_made_lem e k r = rw (e, r, k)

  -- what an answer says of slices that have their length
  pub solved_said : (retarded kernel : List Float) → SizesPassed q.points q.orbitals true (q.free ∷ q.self_energy ∷ retarded ∷ kernel ∷ []) → {answer : Summed} {retarded' kernel' : List Float}
      → (let solved = solved_retarded q retarded kernel in (answer ≡ solved.answer) × (retarded' ≡ solved.retarded) × (kernel' ≡ solved.kernel)) → (ok : Bool) → ok ≡ is_ok answer
      → (solved_finite q ≡ ok) × (retarded' ≡ cond ok (retarded_of q) (zeroed retarded)) × (kernel' ≡ cond ok (kernel_of q) (zeroed kernel))
  unfolding solved_retarded
  solved_said retarded kernel z e ok h = let t = by_flag _ _ (sizes_pass _ z z.long) _ e.0 ok h in (t.0, e.1 ∙ t.1 _ retarded, e.2 ∙ t.1 _ kernel)
