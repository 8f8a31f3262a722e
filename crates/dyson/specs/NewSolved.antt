-- K and G at the new places: what the answers on the way say of them, and that those from 0 on are all. Assumes nothing.
use Rattle.std.specs.Prelude.{is_ok, Ok, Err, ◌≡◌, ◌&&◌, ◌∷◌}
use Rattle.lists.specs.Prelude.{refl, sym, ap, ap₂, ◌∙◌, Bool, true, false, cond, List, [], ℕ, zero, suc, le_refl, arith, leb, ltb, le-leb, le-ltb, length, Float}
use Rattle.complex.specs.declared.Complex.{Complex}
use Rattle.complex.specs.Arithmetic.{czero}
use Rattle.block.specs.Operations.{zeros}
use Rattle.refusal.specs.Verdict.{pass, Verdict}
use Rattle.two_time.specs.declared.sums.Sums.TheVariants.{Causal}
use Rattle.two_time.specs.Summed.{Summed}
use Rattle.two_time.specs.declared.sums.SumError.TheVariants.{Overflow, Unfit}
use Rattle.two_time.specs.Layout.{TwoTime, read_as, lay_out_all, everywhere}
use Rattle.two_time.specs.New.{cleared_new}
use Rattle.two_time.specs.WeightedSum.{weighted_sum, finite_sum}
use Rattle.two_time.specs.Sums.{dyson_terms, new_finite}
use Rattle.two_time.specs.Calls.{size_checks}
use Rattle.two_time.specs.Outcome.{summed_answer, summed_out, new_out, new_flag, all_finite_lem, all-numbers, all-cleared}
use Rattle.two_time.specs.Written.{every_new-all, written_all}
use Rattle.two_time.specs.SizeChecks.{sizes-passed}
use Rattle.two_time.specs.Lengths.{lengths}
use Rattle.dyson.specs.Retarded.{solve, retarded_onward, retarded_retarded, retarded_numbers, retarded_finite, new_retarded, new_retarded_finite}
use Rattle.dyson.specs.Calls.{SumsSolved, Equation, equation_of, kernel_of, retarded_of, solved_finite, solved_retarded, new_kernel, new_green, solved_new_finite, solved_new}

module _ (capacity n old points : ℕ) (times free self_energy retarded kernel : List Float) where
  -- whether K and G are finite, by K and by G from it
  pub kernel_lost : new_finite Causal capacity n old points times free self_energy ≡ false → solved_new_finite capacity n old points times free self_energy retarded kernel ≡ false
  unfolding solved_new_finite
  kernel_lost e = rw e

  pub kernel-there : new_finite Causal capacity n old points times free self_energy ≡ true → {k : List Float} → k ≡ new_kernel capacity n old points times free self_energy retarded kernel
      → {ok : Bool} → ok ≡ new_retarded_finite capacity n old points times free k retarded → solved_new_finite capacity n old points times free self_energy retarded kernel ≡ ok
  unfolding solved_new_finite
  kernel-there e k r = rw (e, r, k)

  -- what an answer says of slices that have their length
  pub solved_new_said : size_checks capacity n (leb old points && leb points capacity) (free ∷ self_energy ∷ retarded ∷ kernel ∷ []) ≡ pass → {answer : Summed} {retarded' kernel' : List Float}
      → (let solved = solved_new capacity n old points times free self_energy retarded kernel in (answer ≡ solved.answer) × (retarded' ≡ solved.retarded) × (kernel' ≡ solved.kernel))
      → (ok : Bool) → ok ≡ is_ok answer → (solved_new_finite capacity n old points times free self_energy retarded kernel ≡ ok)
      × (retarded' ≡ cond ok (new_green capacity n old points times free self_energy retarded kernel) (cleared_new capacity n old points retarded))
      × (kernel' ≡ cond ok (new_kernel capacity n old points times free self_energy retarded kernel) (cleared_new capacity n old points kernel))
  unfolding solved_new
  solved_new_said passed e ok h = let t = new_flag _ _ passed _ e.0 ok h in (t.0, e.1 ∙ t.1 _ _ retarded, e.2 ∙ t.1 _ _ kernel)

-- ---- from 0 on, in slices laid out for the points: all places

module _ (n : ℕ) (times : List Float) (free k : TwoTime) (held held' : TwoTime) where
  -- with no row held it does not matter what is held
  none-held : (g g' : TwoTime) → g ≡ g' → (i j a b : ℕ)
      → cond (ltb i 0) (held i j a b) (weighted_sum n (dyson_terms times free k g i j) a b) ≡ cond (ltb i 0) (held' i j a b) (weighted_sum n (dyson_terms times free k g' i j) a b)
  none-held g g' e i j a b = rw (le-ltb i 0 (omega arith)) (ap (λ (h : TwoTime). weighted_sum n (dyson_terms times free k h i j) a b) e)

  solve-none : (d : ℕ) → ◌≡◌ {A = TwoTime} (solve n times free k 0 held d) (solve n times free k 0 held' d)
  unfolding solve
  solve-none zero = refl
  solve-none (suc d) = λ x i j a b. none-held (solve n times free k 0 held d) (solve n times free k 0 held' d) (solve-none d) i j a b x

  pub onward-none : ◌≡◌ {A = TwoTime} (retarded_onward n times free k 0 held) (retarded_onward n times free k 0 held')
  unfolding retarded_onward
  onward-none = λ x i j a b. (ap (λ (z : Complex). cond (ltb i j) czero z) (ap (λ (g : TwoTime). g i j a b) (solve-none (suc i)))) x

module _ (points n : ℕ) (times free kernel held : List Float) where
  all-retarded : new_retarded points n 0 points times free kernel held ≡ retarded_numbers points n times free kernel
  unfolding new_retarded retarded_numbers
  all-retarded =
      written_all points n _ held
      ∙ ap (λ (g : TwoTime). lay_out_all points n g) (onward-none n times (read_as points n free) (read_as points n kernel) (read_as points n held) (λ i j. zeros))

  all-retarded_finite : new_retarded_finite points n 0 points times free kernel held ≡ retarded_finite points n times free kernel
  unfolding new_retarded_finite retarded_finite
  all-retarded_finite =
      every_new-all points n _
      ∙ ap (λ (g : TwoTime). everywhere points n (λ i j. finite_sum n (dyson_terms times (read_as points n free) (read_as points n kernel) g i j)))
      (onward-none n times (read_as points n free) (read_as points n kernel) (read_as points n held) (λ i j. zeros))

module _ (points n : ℕ) (times free self_energy retarded kernel : List Float) where
  abbrev q : Equation
  q = equation_of points n times free self_energy

  pub finite-all : solved_new_finite points n 0 points times free self_energy retarded kernel ≡ solved_finite q
  unfolding solved_new_finite solved_finite
  finite-all =
      ap₂ ◌&&◌ (all_finite_lem Causal points n times free self_energy kernel)
      (ap (λ (k : List Float). new_retarded_finite points n 0 points times free k retarded) (all-numbers Causal points n times free self_energy kernel) ∙ all-retarded_finite points n times free (kernel_of q) retarded)

  pub green-all : new_green points n 0 points times free self_energy retarded kernel ≡ retarded_of q
  green-all = ap (λ (k : List Float). new_retarded points n 0 points times free k retarded) (all-numbers Causal points n times free self_energy kernel) ∙ all-retarded points n times free (kernel_of q) retarded

  pub solved-all : solved_new points n 0 points times free self_energy retarded kernel ≡ solved_retarded q retarded kernel
  unfolding solved_new solved_retarded summed_answer new_out summed_out
  solved-all =
      rw (le-leb 0 points (omega arith), le-leb points points (le_refl points), finite-all, green-all, all-numbers Causal points n times free self_energy kernel)
      (by-verdict (size_checks points n true (free ∷ self_energy ∷ retarded ∷ kernel ∷ [])) refl (solved_finite q))
    where
      by-verdict : (v : Verdict) → size_checks points n true (free ∷ self_energy ∷ retarded ∷ kernel ∷ []) ≡ v → (finite : Bool)
          → ◌≡◌ {A = SumsSolved}
          (record { answer = summed_answer v finite; retarded = new_out (summed_answer v finite) (retarded_of q) (cleared_new points n 0 points retarded) retarded; kernel = new_out (summed_answer v finite) (kernel_of q) (cleared_new points n 0 points kernel) kernel })
          (record { answer = summed_answer v finite; retarded = summed_out (summed_answer v finite) (retarded_of q) retarded; kernel = summed_out (summed_answer v finite) (kernel_of q) kernel })
      by-verdict (Err r) e finite = refl
      by-verdict (Ok tt) e true = refl
      by-verdict pass e false =
          let l = lengths (sizes-passed points n true (free ∷ self_energy ∷ retarded ∷ kernel ∷ []) e) in
          ap₂ (λ (g k : List Float). record { answer = (Err Overflow); retarded = g; kernel = k }) (all-cleared Causal points n times free self_energy retarded l.1.1.0) (all-cleared Causal points n times free self_energy kernel l.1.1.1.0)
