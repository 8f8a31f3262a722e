-- Each stage of a run reads only what stands on and below the diagonal in rows to k, or with both indices to k: where two runs are related there, by a
-- relation that every sum keeps (two_time, specs/Relation.antt), the terms of the four sums at a place are related. Assumes nothing.
use Rattle.std.specs.Prelude.{◌≡◌, ◌≤◌, ◌<◌}
use Rattle.lists.specs.Prelude.{refl, sym, subst, List, ℕ, zero, suc, le_trans, dec_lt, arith, Float}
use Rattle.complex.specs.declared.Complex.{Complex}
use Rattle.block.specs.Block.{Entries}
use Rattle.block.specs.Operations.{adjoint}
use Rattle.block.specs.Agreement.{Agree}
use Rattle.grid.specs.Weights.{interval_weight}
use Rattle.grid.specs.Agreement.{AgreeTo, weight_agree}
use Rattle.two_time.specs.declared.sums.Sums.TheVariants.{Causal, LesserAdvanced, Lesser}
use Rattle.two_time.specs.Layout.{TwoTime}
use Rattle.two_time.specs.Relation.{Relation, Related, Kept, RelatedTerms, weighted_related, adjoint-related}
use Rattle.two_time.specs.Sums.{interval, dyson_terms, terms_at}
use Rattle.two_time.specs.Intervals.{interval_count_lem}
use Rattle.dyson.specs.Retarded.{retarded_onward}
use Rattle.dyson.specs.Recursion.{recursion, held-is, above}

-- two functions are related on and below the diagonal in rows to k; in rows to k; with both indices to k
module _ (n : ℕ) (R : Relation) (k : ℕ) (x y : TwoTime) where
  abbrev pub RelatedLower : Type 0
  RelatedLower = (t u : ℕ) → t ≤ k → u ≤ t → Related n R (x t u) (y t u)

  abbrev pub RelatedRows : Type 0
  RelatedRows = (t u : ℕ) → t ≤ k → Related n R (x t u) (y t u)

  abbrev pub RelatedSquare : Type 0
  RelatedSquare = (t u : ℕ) → t ≤ k → u ≤ k → Related n R (x t u) (y t u)

-- they agree in rows to k; with both indices to k
abbrev pub RowsTo : ℕ → ℕ → TwoTime → TwoTime → Type 0
RowsTo n k x y = (t u : ℕ) → t ≤ k → Agree n (x t u) (y t u)

abbrev pub SquareTo : ℕ → ℕ → TwoTime → TwoTime → Type 0
SquareTo n k x y = (t u : ℕ) → t ≤ k → u ≤ k → Agree n (x t u) (y t u)

-- numbers that are equal to related ones
pub by_equals : (R : Relation) (a b : ℕ) {x x' y y' : Complex} → x ≡ x' → y ≡ y' → R a b x' y' → R a b x y
by_equals R a b {x} {x'} {y} {y'} e f h = subst (λ (z : Complex). R a b z y) (sym e) (subst (λ (z : Complex). R a b x' z) (sym f) h)

module _ (n : ℕ) (R : Relation) (kept : Kept n R) (k : ℕ) (times times' : List Float) (ht : AgreeTo k times times') where
  -- the weights of an interval that ends at e ≤ k
  weights : (s e p : ℕ) → e ≤ k → s ≤ p → p ≤ e → interval_weight times p s e ≡ interval_weight times' p s e
  weights s e p he lo hi = weight_agree times times' p s e (λ i hi'. ht i (le_trans hi' he)) lo hi

  -- the terms of a sum over it
  interval-terms : (s e : ℕ) → e ≤ k → (x x' y y' : ℕ → Entries) → ((p : ℕ) → s ≤ p → p ≤ e → Related n R (x p) (x' p)) → ((p : ℕ) → s ≤ p → p ≤ e → Related n R (y p) (y' p))
      → RelatedTerms n R (interval times s e x y) (interval times' s e x' y')
  interval-terms s e he x x' y y' hx hy =
      record {
        from = refl;
        count = refl;
        start = λ c d hc hd. kept.none c d;
        weight = λ p lo hi. weights s e p he lo (omega (arith, interval_count_lem s e));
        left = λ p lo hi. hx p lo (omega (arith, interval_count_lem s e));
        right = λ p lo hi. hy p lo (omega (arith, interval_count_lem s e));
      }

  module _ (points points' : ℕ) (t u : ℕ) (hk : t ≤ k) where
    -- K(t,u) sums over u ≤ s ≤ t
    pub causal_stage : (x x' y y' : TwoTime) → RelatedLower n R k x x' → RelatedLower n R k y y'
        → RelatedTerms n R (terms_at Causal points times x y t u) (terms_at Causal points' times' x' y' t u)
    unfolding terms_at
    causal_stage x x' y y' hx hy =
        interval-terms u t hk (λ s. x t s) (λ s. x' t s) (λ s. y s u) (λ s. y' s u) (λ s lo hi. hx t s hk hi) (λ s lo hi. hy s u (le_trans hi hk) lo)

    -- X(t,u) sums over s ≤ u
    pub lesser_advanced_stage : (x x' g g' : TwoTime) → RelatedSquare n R k x x' → RelatedSquare n R k g g' → u ≤ k
        → RelatedTerms n R (terms_at LesserAdvanced points times x g t u) (terms_at LesserAdvanced points' times' x' g' t u)
    unfolding terms_at
    lesser_advanced_stage x x' g g' hx hg hu =
        interval-terms 0 u hu (λ s. x t s) (λ s. x' t s) (λ s. adjoint (g u s)) (λ s. adjoint (g' u s))
        (λ s lo hi. hx t s hk (le_trans hi hu)) (λ s lo hi. adjoint-related n R kept (g u s) (g' u s) (hg u s hu (le_trans hi hu)))

    -- G^<(t,u) sums over s ≤ t
    pub lesser_stage : (g g' x x' : TwoTime) → RelatedSquare n R k g g' → RelatedSquare n R k x x' → u ≤ k
        → RelatedTerms n R (terms_at Lesser points times g x t u) (terms_at Lesser points' times' g' x' t u)
    unfolding terms_at
    lesser_stage g g' x x' hg hx hu =
        interval-terms 0 t hk (λ s. g t s) (λ s. g' t s) (λ s. x s u) (λ s. x' s u) (λ s lo hi. hg t s hk (le_trans hi hk)) (λ s lo hi. hx s u (le_trans hi hk) hu)

  -- G(t,u) starts at free and sums over u ≤ s < t
  module _ (f f' m m' : TwoTime) (hf : RelatedLower n R k f f') (hm : RelatedLower n R k m m') where
    pub dyson_stage : (g g' : TwoTime) (t u : ℕ) → t ≤ k → u ≤ t → ((s : ℕ) → u ≤ s → s < t → Related n R (g s u) (g' s u))
        → RelatedTerms n R (dyson_terms times f m g t u) (dyson_terms times' f' m' g' t u)
    dyson_stage g g' t u hk hu h =
        record {
          from = refl;
          count = refl;
          start = hf t u hk hu;
          weight = λ s lo hi. weights u t s hk lo (omega arith);
          left = λ s lo hi. hm t s hk (omega arith);
          right = λ s lo hi. h s lo (omega arith);
        }

    -- above the diagonal it is +0; of one of the two functions the rows before `old` may be held, where what is held is related to the other
    module _ (old : ℕ) (held held' : TwoTime)
        (same : (t u : ℕ) → t ≤ k → u ≤ t → t < old → Related n R (held t u) (retarded_onward n times' f' m' 0 held' t u)) where
      abbrev g : TwoTime
      g = retarded_onward n times f m old held

      abbrev g' : TwoTime
      g' = retarded_onward n times' f' m' 0 held'

      below : (d t u : ℕ) → t < d → t ≤ k → u ≤ t → Related n R (g t u) (g' t u)
      below zero t u hd hk hu = absurd (omega arith)
      below (suc d) t u hd hk hu = λ a b ha hb.
          elim (dec_lt t old) [
            | yes before ↦ by_equals R a b (held-is n times f m old held t u a b before hu) refl (same t u hk hu before a b ha hb)
            | no onward ↦
                by_equals R a b (recursion n times f m old held t u (omega arith) hu a b ha hb) (recursion n times' f' m' 0 held' t u (omega arith) hu a b ha hb)
                (weighted_related n R kept _ _ (dyson_stage g g' t u hk hu (λ s lo hi. below d s u (omega arith) (omega arith) lo)) a b ha hb)
          ]

      pub retarded_stage : RelatedRows n R k g g'
      retarded_stage t u hk a b ha hb =
          elim (dec_lt t u) [
            | yes less ↦ by_equals R a b (above n times f m old held t u a b less) (above n times' f' m' 0 held' t u a b less) (kept.none a b)
            | no not-less ↦ below (suc t) t u (omega arith) hk (omega arith) a b ha hb
          ]
