-- The sums at a group of places, each from a number that is given in its lane.
use Rattle.std.specs.Prelude.{is_ok, Err, ◌≡◌, ◌&&◌, ◌||◌, ◌∷◌, ◌+◌, ◌*◌, ◌<◌}
use Rattle.lists.specs.Prelude.{refl, sym, ap, ◌∙◌, Bool, true, false, cond, not, List, [], ℕ, ltb, eqb, eq-eqb, lt-ltb, length, Float}
use Rattle.lists.specs.Indexed.{all_below, all_in, join}
use Rattle.lists.specs.Agreement.{all_agree, join_agree}
use Rattle.complex.specs.declared.Complex.{Complex}
use Rattle.complex.specs.Arithmetic.{cfinite}
use Rattle.complex.specs.Numbers.{pair}
use Rattle.block.specs.Block.{Entries, lay_out}
use Rattle.refusal.specs.declared.Refusal.{Refusal}
use Rattle.refusal.specs.Verdict.{pass, Verdict}
use Rattle.two_time.specs.declared.sums.Sums.{Sums}
use Rattle.two_time.specs.Summed.{Summed}
use Rattle.two_time.specs.declared.sums.SumError.TheVariants.{Overflow, Unfit}
use Rattle.two_time.specs.Calls.{size_checks}
use Rattle.two_time.specs.Layout.{read_as}
use Rattle.two_time.specs.WeightedSum.{Terms, product_at, term_at, partial_sum, weighted_sum, finite_sum}
use Rattle.two_time.specs.Sums.{terms_at}
use Rattle.two_time.specs.Start.{started_at}
use Rattle.two_time.specs.OneTest.{started_test}
use Rattle.two_time.specs.Outcome.{SumsOutcome, summed_answer, summed_out, outcome-finite, outcome-overflow}
use Rattle.lanes.specs.Lanes.{lane_at, laid_lanes, lanes_finite, written}
use Rattle.groups.specs.PartialSums.{terms_of}
use Rattle.groups.specs.Groups.{is_group, Grouped, written_is, answer-passed, unfit_also}

-- the outcome of a call that writes the blocks of `places` places to a slice of their length
unfoldable pub group_outcome : ℕ → ℕ → Verdict → Bool → List Float → List Float → SumsOutcome
group_outcome n places v finite made out =
    let answer = cond (eqb (length out) (places * (2 * (n * n)))) (summed_answer v finite) (Err Unfit) in
    record { answer = answer; out = summed_out answer made out }

-- the sum at place p, entry (a, b) from lane p·n + b of row a
abbrev pub onto_at : Sums → ℕ → ℕ → List Float → List Float → List Float → List Float → ℕ → ℕ → ℕ → Terms
onto_at sums points n times left right starts t u p = started_at (λ a b. lane_at starts a (p * n + b)) (terms_at sums points times (read_as points n left) (read_as points n right) t (u + p))

-- `group_onto`
module _ (sums : Sums) (points n : ℕ) (times left right starts : List Float) (t u places : ℕ) where
  abbrev pub onto_finite : Bool
  onto_finite = all_below places (λ p. all_in n n (λ a b. cfinite (lane_at starts a (p * n + b)) && finite_sum n (onto_at sums points n times left right starts t u p) a b))

  abbrev pub onto_numbers : List Float
  onto_numbers = join places (λ p. lay_out n n (weighted_sum n (onto_at sums points n times left right starts t u p)))

  unfoldable pub group_onto : List Float → SumsOutcome
  group_onto out = group_outcome n places (size_checks points n (is_group points n t u places) (left ∷ right ∷ [])) onto_finite onto_numbers out

-- ---- laws

-- an outcome where checks 1 to 3 refuse, and what lanes are written as where they pass
module _ (n places : ℕ) (v : Verdict) (finite : Bool) (made out : List Float) where
  abbrev long : Bool
  long = eqb (length out) (places * (2 * (n * n)))

  pub outcome-unfit : (r : Refusal) → v ≡ Err r → (Err Unfit ≡ (group_outcome n places v finite made out).answer) × (out ≡ (group_outcome n places v finite made out).out)
  unfolding group_outcome summed_answer summed_out
  outcome-unfit r e =
      let a : cond long (summed_answer v finite) (Err Unfit) ≡ Err Unfit = unfit_also long (summed_answer v finite) (rw e) in
      (sym a, sym (ap (λ (y : Summed). summed_out y made out) a))

  pub outcome-written : {points t u : ℕ} → Grouped points n t u places → v ≡ pass → (totals : List Float) → length totals ≡ 512
      → lanes_finite totals n places places ≡ finite → laid_lanes totals n places ≡ made → written totals n places places out ≡ group_outcome n places v finite made out
  unfolding group_outcome
  outcome-written g e totals h f m =
      written_is g totals places out h finite made f m
      ∙ ap (λ (y : Summed). record { answer = cond long y (Err Unfit); out = summed_out (cond long y (Err Unfit)) made out }) (sym (answer-passed v finite e))

  -- what it says of a slice of that length
  module _ (passed : v ≡ pass) (whole : length out ≡ places * (2 * (n * n))) (answer : Summed) (after : List Float)
      (answered : answer ≡ (group_outcome n places v finite made out).answer) (holds : after ≡ (group_outcome n places v finite made out).out) where
    is-told : answer ≡ summed_answer v finite
    unfolding group_outcome
    is-told = answered ∙ ap (λ (b : Bool). cond b (summed_answer v finite) (Err Unfit)) (eq-eqb _ _ whole)

    pub group_made : is_ok answer ≡ true → (finite ≡ true) × (after ≡ made)
    unfolding group_outcome
    group_made h =
        let l = outcome-finite v finite passed answer is-told h in
        (l.0, l.1 made out after (holds ∙ ap (λ (b : Bool). summed_out (cond b (summed_answer v finite) (Err Unfit)) made out) (eq-eqb _ _ whole)))

    pub group_failed : is_ok answer ≡ false → finite ≡ false
    group_failed h = (outcome-overflow v finite passed answer is-told h).0

-- lanes that hold the sums of a place
module _ (sums : Sums) (points n : ℕ) (times left right starts : List Float) (t u places : ℕ) (totals : List Float)
    (sum : (a p b : ℕ) → a < n → p < places → b < n → lane_at totals a (p * n + b) ≡ weighted_sum n (terms_of sums points points n times left right t (u + p) (lane_at starts a (p * n + b))) a b) where
  onto-sum : (a p b : ℕ) → a < n → p < places → b < n → lane_at totals a (p * n + b) ≡ weighted_sum n (onto_at sums points n times left right starts t u p) a b
  unfolding weighted_sum partial_sum term_at product_at
  onto-sum a p b ha hp hb = sum a p b ha hp hb

  pub onto_finite_lem : lanes_finite totals n places places ≡ onto_finite sums points n times left right starts t u places
  onto_finite_lem =
      all_agree places _ _ (λ p hp. all_agree n _ _ (λ a ha. all_agree n _ _ (λ b hb.
      ap (λ (f : Bool). not f || cfinite (lane_at totals a (p * n + b))) (lt-ltb p places hp) ∙ ap cfinite (onto-sum a p b ha hp hb)
      ∙ sym (started_test n (onto_at sums points n times left right starts t u p) a b))))

  pub onto_laid : laid_lanes totals n places ≡ onto_numbers sums points n times left right starts t u places
  unfolding lay_out
  onto_laid = join_agree places _ _ (λ p hp. join_agree n _ _ (λ a ha. join_agree n _ _ (λ b hb. ap pair (onto-sum a p b ha hp hb))))
