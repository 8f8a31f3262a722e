-- The recursion as the document writes it: on and below the diagonal G(i,j) is the sum over G's own earlier rows, of which those before `old` are held.
-- Assumes nothing.
use Rattle.std.specs.Prelude.{◌≡◌, ◌-◌, ◌≤◌, ◌<◌}
use Rattle.lists.specs.Prelude.{refl, sym, ◌∙◌, Bool, List, ℕ, zero, suc, arith, ltb, Float, le-ltb, lt-ltb}
use Rattle.lists.specs.Agreement.{cond_agree}
use Rattle.complex.specs.Arithmetic.{czero}
use Rattle.block.specs.Agreement.{Agree}
use Rattle.two_time.specs.Layout.{TwoTime}
use Rattle.two_time.specs.WeightedSum.{weighted_sum}
use Rattle.two_time.specs.Sums.{dyson_terms}
use Rattle.two_time.specs.Agreement.{weighted_agree}
use Rattle.dyson.specs.Retarded.{solve, retarded_onward}

module _ (n : ℕ) (times : List Float) (free k : TwoTime) where
  -- two functions that agree in the rows from j to i − 1 of column j give the same terms at (i,j)
  pub same-terms : (g g' : TwoTime) (i j : ℕ) → ((s : ℕ) → j ≤ s → s < i → Agree n (g s j) (g' s j))
      → Agree n (weighted_sum n (dyson_terms times free k g i j)) (weighted_sum n (dyson_terms times free k g' i j))
  same-terms g g' i j h =
      weighted_agree n _ _
      (record {
        from = refl;
        count = refl;
        start = λ a b ha hb. refl;
        weight = λ s lo hi. refl;
        left = λ s lo hi a b ha hb. refl;
        right = λ s lo hi. h s lo (omega arith);
      })

module _ (n : ℕ) (times : List Float) (free k : TwoTime) (old : ℕ) (held : TwoTime) where
  abbrev onward : TwoTime
  onward = retarded_onward n times free k old held

  -- any depth above i − j is enough
  enough : (d d' i j : ℕ) → j ≤ i → i - j < d → i - j < d' → Agree n (solve n times free k old held d i j) (solve n times free k old held d' i j)
  unfolding solve
  enough zero d' i j le l l' = absurd (omega arith)
  enough (suc d) zero i j le l l' = absurd (omega arith)
  enough (suc d) (suc d') i j le l l' = λ a b ha hb.
      cond_agree (ltb i old) _ _ _ _ (λ e. refl)
      (λ e. same-terms n times free k (solve n times free k old held d) (solve n times free k old held d') i j (λ s lo hi. enough d d' s j lo (omega arith) (omega arith)) a b ha hb)

  below : (i j a b : ℕ) → j ≤ i → onward i j a b ≡ solve n times free k old held (suc i) i j a b
  unfolding retarded_onward
  below i j a b le = rw (le-ltb i j le)

  -- "G(i,j) for j ≤ i starts as free(i,j) and, for s from j to i−1, adds interval weight (s, j, i) times K(i,s)·G(s,j)."
  pub recursion : (i j : ℕ) → old ≤ i → j ≤ i → Agree n (onward i j) (weighted_sum n (dyson_terms times free k onward i j))
  unfolding solve
  recursion i j new le a b ha hb =
      below i j a b le
      ∙ rw (le-ltb i old new)
      (same-terms n times free k (solve n times free k old held i) onward i j
      (λ s lo hi c d hc hd. enough i (suc s) s j lo (omega arith) (omega arith) c d hc hd ∙ sym (below s j c d lo)) a b ha hb)

  -- a row before `old` is what is held
  pub held-is : (i j a b : ℕ) → i < old → j ≤ i → onward i j a b ≡ held i j a b
  unfolding solve
  held-is i j a b before le = below i j a b le ∙ rw (lt-ltb i old before)

  -- "Above the diagonal +0."
  pub above : (i j a b : ℕ) → i < j → onward i j a b ≡ czero
  unfolding retarded_onward
  above i j a b less = rw (lt-ltb i j less)
