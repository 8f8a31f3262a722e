-- Two calls that are related up to k, of which the second begins at 0: where the first's slices hold at old places what is related to what the second makes
-- there, all that the two make is related up to k; and where they agree it is finite together. Demand 3 is the case of equality where nothing is old, the law
-- of appends that of equality and one new point; two dots that do not couple (document 02, L12) are another relation. Assumes nothing.
use Rattle.std.specs.Prelude.{◌≡◌, ◌&&◌, ◌-◌, ◌≤◌, ◌<◌}
use Rattle.lists.specs.Prelude.{refl, sym, ap₂, ◌∙◌, true, List, ℕ, max, le_trans, dec_lt, arith, Float}
use Rattle.lists.specs.Indexed.{all_below}
use Rattle.lists.specs.Agreement.{both}
use Rattle.block.specs.Block.{Entries}
use Rattle.grid.specs.Agreement.{AgreeTo}
use Rattle.two_time.specs.declared.capacity.Shape.{Shape}
use Rattle.two_time.specs.declared.sums.Sums.TheVariants.{Causal, LesserAdvanced}
use Rattle.two_time.specs.Layout.{TwoTime, read_as}
use Rattle.two_time.specs.New.{written}
use Rattle.two_time.specs.WeightedSum.{Terms, weighted_sum, finite_sum}
use Rattle.two_time.specs.Relation.{Relation, Equal, Related, Kept, RelatedTerms, equal-kept, weighted_related}
use Rattle.two_time.specs.FiniteAgreement.{finite_agree}
use Rattle.two_time.specs.Sums.{dyson_terms, terms_at, sums_of, new_numbers, new_finite}
use Rattle.two_time.specs.Start.{started_at, lesser_at, new_lesser_numbers, new_lesser_finite}
use Rattle.two_time.specs.Started.{SameStart}
use Rattle.two_time.specs.NewPlaces.{new-each, each-new}
use Rattle.two_time.proofs.NewPlaces.{read-new, read-old}
use Rattle.dyson.specs.Retarded.{onward_from, new_retarded, new_retarded_finite}
use Rattle.dyson.specs.Calls.{solved_new_finite}
use Rattle.transient_run.specs.Calls.{Run, run_of, kernel_made, retarded_made, lesser_advanced_made, lesser_start, lesser_made, made_finite}
use Rattle.causality.specs.Statement.{of, SameTo}
use Rattle.causality.specs.Stages.{RelatedLower, RelatedRows, RelatedSquare, RowsTo, SquareTo, by_equals, causal_stage, lesser_advanced_stage, lesser_stage, dyson_stage, retarded_stage}

-- two functions are related at old places up to k
abbrev pub OldRelated : ℕ → Relation → ℕ → ℕ → TwoTime → TwoTime → Type 0
OldRelated n R k old x y = (t u : ℕ) → t ≤ k → u ≤ k → t < old → u < old → Related n R (x t u) (y t u)

-- ---- slices that are written

module _ (n : ℕ) (R : Relation) (k capacity capacity' old points points' : ℕ) (f f' : TwoTime) (before before' : List Float)
    (hk : k < points) (room : points ≤ capacity) (hk' : k < points') (room' : points' ≤ capacity') where
  abbrev made' : TwoTime
  made' = read_as capacity' n (written capacity' n 0 points' f' before')

  written-related : OldRelated n R k old (read_as capacity n before) made' → RelatedSquare n R k f f' → RelatedSquare n R k (read_as capacity n (written capacity n old points f before)) made'
  written-related held new t u ht hu a b ha hb =
      elim (dec_lt (max t u) old) [
        | yes l ↦
            by_equals R a b (read-old capacity n old points f before room t u (omega arith) (omega arith) (omega arith) (omega arith) a b ha hb) refl
            (held t u ht hu (omega arith) (omega arith) a b ha hb)
        | no l ↦
            by_equals R a b (read-new capacity n old points f before room t u (omega arith) (omega arith) (omega arith) a b ha hb)
            (read-new capacity' n 0 points' f' before' room' t u (omega arith) (omega arith) (omega arith) a b ha hb) (new t u ht hu a b ha hb)
      ]

-- ---- two calls

-- a run of another shape, and one with another n
abbrev pub with_shape : Run → Shape → Run
with_shape r shape = run_of r.form r.session r.desk shape r.tolerance r.times r.free r.self_energy r.lesser_self_energy r.retarded r.lesser r.kernel r.lesser_advanced

abbrev pub with_orbitals : Run → ℕ → Run
with_orbitals r n = with_shape r (record { points = r.points; capacity = r.capacity; orbitals = n })

-- G^R and G^< as a call makes them, as functions of places
module _ (old points : ℕ) (r : Run) where
  abbrev pub call_retarded : TwoTime
  call_retarded = onward_from r.capacity r.orbitals old points r.times r.free (kernel_made old points r) r.retarded

  -- the terms of the four sums at a place
  module _ (t u : ℕ) where
    abbrev pub kernel_terms : Terms
    kernel_terms = terms_at Causal r.capacity r.times (of r r.free) (of r r.self_energy) t u

    abbrev pub retarded_terms : Terms
    retarded_terms = dyson_terms r.times (of r r.free) (of r (kernel_made old points r)) call_retarded t u

    abbrev pub lesser_advanced_terms : Terms
    lesser_advanced_terms = terms_at LesserAdvanced r.capacity r.times (of r r.lesser_self_energy) (of r (retarded_made old points r)) t u

    abbrev pub lesser_terms : Terms
    lesser_terms = lesser_at (lesser_start old points r) r.capacity r.orbitals r.times (retarded_made old points r) (lesser_advanced_made old points r) t u

  abbrev pub call_lesser : TwoTime
  call_lesser t u = weighted_sum r.orbitals (lesser_terms t u)

-- the inputs of two runs are related up to k, where demand 3 supposes that they agree
pub record RelatedTo (R : Relation) (k : ℕ) (r r' : Run) : Type 0 where
  pub times : AgreeTo k r.times r'.times
  pub free : RelatedLower r.orbitals R k (of r r.free) (of r' r'.free)
  pub self_energy : RelatedLower r.orbitals R k (of r r.self_energy) (of r' r'.self_energy)
  pub lesser_self_energy : RelatedSquare r.orbitals R k (of r r.lesser_self_energy) (of r' r'.lesser_self_energy)

-- what r's slices hold at old places up to k is related to what r' makes there of its points
pub record HeldRelated (R : Relation) (k old points' : ℕ) (r r' : Run) : Type 0 where
  pub kernel : OldRelated r.orbitals R k old (of r r.kernel) (of r' (kernel_made 0 points' r'))
  pub retarded : OldRelated r.orbitals R k old (of r r.retarded) (of r' (retarded_made 0 points' r'))
  pub lesser_advanced : OldRelated r.orbitals R k old (of r r.lesser_advanced) (of r' (lesser_advanced_made 0 points' r'))
  pub lesser : OldRelated r.orbitals R k old (of r r.lesser) (of r' (lesser_made 0 points' r'))

-- it is what r' makes there
abbrev pub HeldTo : ℕ → ℕ → ℕ → Run → Run → Type 0
HeldTo = HeldRelated Equal

-- nothing is old
pub none-related : (R : Relation) (k points' : ℕ) (r r' : Run) → HeldRelated R k 0 points' r r'
none-related R k points' r r' =
    record {
      kernel = λ t u ht hu l m. absurd (omega arith);
      retarded = λ t u ht hu l m. absurd (omega arith);
      lesser_advanced = λ t u ht hu l m. absurd (omega arith);
      lesser = λ t u ht hu l m. absurd (omega arith);
    }

pub none-held : (k points' : ℕ) (r r' : Run) → HeldTo k 0 points' r r'
none-held = none-related Equal

-- what two calls make is related up to k
pub record MadeRelated (R : Relation) (k old points points' : ℕ) (r r' : Run) : Type 0 where
  pub kernel : RelatedSquare r.orbitals R k (of r (kernel_made old points r)) (of r' (kernel_made 0 points' r'))
  pub retarded : RelatedSquare r.orbitals R k (of r (retarded_made old points r)) (of r' (retarded_made 0 points' r'))
  pub lesser_advanced : RelatedSquare r.orbitals R k (of r (lesser_advanced_made old points r)) (of r' (lesser_advanced_made 0 points' r'))
  pub lesser : RelatedSquare r.orbitals R k (of r (lesser_made old points r)) (of r' (lesser_made 0 points' r'))

-- it agrees up to k
abbrev pub MadeTo : ℕ → ℕ → ℕ → ℕ → Run → Run → Type 0
MadeTo = MadeRelated Equal

-- two sums that begin elsewhere
started : (n : ℕ) (R : Relation) (s s' : Entries) (x x' : Terms) → Related n R s s' → RelatedTerms n R x x' → RelatedTerms n R (started_at s x) (started_at s' x')
started n R s s' x x' e h = record { from = h.from; count = h.count; start = e; weight = h.weight; left = h.left; right = h.right }

-- ---- what two such calls make is related

module _ (R : Relation) (k old points points' : ℕ) (r r₀ : Run) (kept : Kept r.orbitals R) (hk : k < points) (room : points ≤ r.capacity) (hk' : k < points') (room' : points' ≤ r₀.capacity)
    (same : RelatedTo R k r (with_orbitals r₀ r.orbitals)) (held : HeldRelated R k old points' r (with_orbitals r₀ r.orbitals)) where
  abbrev n : ℕ
  n = r.orbitals

  abbrev r' : Run
  r' = with_orbitals r₀ n

  pub kernel_terms_lem : (t u : ℕ) → t ≤ k → RelatedTerms n R (kernel_terms old points r t u) (kernel_terms 0 points' r' t u)
  kernel_terms_lem t u ht = causal_stage n R kept k _ _ same.times r.capacity r'.capacity t u ht _ _ _ _ same.free same.self_energy

  kernels-related : RelatedSquare n R k (of r (kernel_made old points r)) (of r' (kernel_made 0 points' r'))
  unfolding new_numbers sums_of
  kernels-related =
      written-related n R k r.capacity r'.capacity old points points' _ _ r.kernel r'.kernel hk room hk' room' held.kernel
      (λ t u ht hu. weighted_related n R kept _ _ (kernel_terms_lem t u ht))

  pub rows-related : RelatedRows n R k (call_retarded old points r) (call_retarded 0 points' r')
  unfolding new_retarded
  rows-related =
      retarded_stage n R kept k _ _ same.times _ _ _ _ same.free (λ t u ht hu. kernels-related t u ht (le_trans hu ht)) old (of r r.retarded) (of r' r'.retarded)
      (λ t u ht hu l a b ha hb.
      by_equals R a b refl (sym (read-new r'.capacity n 0 points' (call_retarded 0 points' r') r'.retarded room' t u (omega arith) (omega arith) (omega arith) a b ha hb))
      (held.retarded t u ht (le_trans hu ht) l (omega arith) a b ha hb))

  pub retarded_terms_lem : (t u : ℕ) → t ≤ k → u ≤ t → RelatedTerms n R (retarded_terms old points r t u) (retarded_terms 0 points' r' t u)
  retarded_terms_lem t u ht hu =
      dyson_stage n R kept k _ _ same.times _ _ _ _ same.free (λ s v hs hv. kernels-related s v hs (le_trans hv hs)) (call_retarded old points r) (call_retarded 0 points' r') t u ht hu
      (λ s lo hi. rows-related s u (omega arith))

  pub retardeds-related : RelatedSquare n R k (of r (retarded_made old points r)) (of r' (retarded_made 0 points' r'))
  unfolding new_retarded
  retardeds-related =
      written-related n R k r.capacity r'.capacity old points points' _ _ r.retarded r'.retarded hk room hk' room' held.retarded (λ t u ht hu. rows-related t u ht)

  pub lesser_advanced_terms_lem : (t u : ℕ) → t ≤ k → u ≤ k → RelatedTerms n R (lesser_advanced_terms old points r t u) (lesser_advanced_terms 0 points' r' t u)
  lesser_advanced_terms_lem t u ht hu =
      lesser_advanced_stage n R kept k _ _ same.times r.capacity r'.capacity t u ht _ _ _ _ same.lesser_self_energy retardeds-related hu

  lesser_advanceds_related : RelatedSquare n R k (of r (lesser_advanced_made old points r)) (of r' (lesser_advanced_made 0 points' r'))
  unfolding new_numbers sums_of
  lesser_advanceds_related =
      written-related n R k r.capacity r'.capacity old points points' _ _ r.lesser_advanced r'.lesser_advanced hk room hk' room' held.lesser_advanced
      (λ t u ht hu. weighted_related n R kept _ _ (lesser_advanced_terms_lem t u ht hu))

  -- where what G^< starts from is related
  module _ (starts : (t u : ℕ) → t ≤ k → u ≤ k → Related n R ((lesser_start old points r).block t u) ((lesser_start 0 points' r').block t u)) where
    pub lesser_terms_lem : (t u : ℕ) → t ≤ k → u ≤ k → RelatedTerms n R (lesser_terms old points r t u) (lesser_terms 0 points' r' t u)
    lesser_terms_lem t u ht hu =
        started n R ((lesser_start old points r).block t u) ((lesser_start 0 points' r').block t u) _ _ (starts t u ht hu)
        (lesser_stage n R kept k _ _ same.times r.capacity r'.capacity t u ht _ _ _ _ retardeds-related lesser_advanceds_related hu)

    pub lesser-related : RelatedSquare n R k (call_lesser old points r) (call_lesser 0 points' r')
    lesser-related t u ht hu = weighted_related n R kept _ _ (lesser_terms_lem t u ht hu)

    lessers-related : RelatedSquare n R k (of r (lesser_made old points r)) (of r' (lesser_made 0 points' r'))
    unfolding new_lesser_numbers
    lessers-related = written-related n R k r.capacity r'.capacity old points points' _ _ r.lesser r'.lesser hk room hk' room' held.lesser lesser-related

    pub made-related : MadeRelated R k old points points' r r'
    made-related = record { kernel = kernels-related; retarded = retardeds-related; lesser_advanced = lesser_advanceds_related; lesser = lessers-related }

-- ---- what two calls that agree make agrees, and is finite together

-- all that is made at an entry is finite
pub record Fine (old points : ℕ) (r : Run) (t u a b : ℕ) : Type 0 where
  pub kernel : finite_sum r.orbitals (kernel_terms old points r t u) a b ≡ true
  pub retarded : finite_sum r.orbitals (retarded_terms old points r t u) a b ≡ true
  pub lesser_advanced : finite_sum r.orbitals (lesser_advanced_terms old points r t u) a b ≡ true
  pub lesser : (lesser_start old points r).finite t u a b && finite_sum r.orbitals (lesser_terms old points r t u) a b ≡ true

-- ---- all that a call makes is finite where it is at each new place

module _ (old points : ℕ) (r : Run) where
  abbrev EachFine : Type 0
  EachFine = (t u a b : ℕ) → old ≤ max t u → t < points → u < points → a < r.orbitals → b < r.orbitals → Fine old points r t u a b

  pub made-fine : made_finite old points r ≡ true → EachFine
  unfolding made_finite solved_new_finite new_finite new_retarded_finite new_lesser_finite
  made-fine h t u a b new ht hu ha hb =
      let solved = both _ _ h in
      let first = both _ _ solved.0 in
      let later = both _ _ solved.1 in
      record {
        kernel = new-each _ old points _ first.0 t u a b new ht hu ha hb;
        retarded = new-each _ old points _ first.1 t u a b new ht hu ha hb;
        lesser_advanced = new-each _ old points _ later.0 t u a b new ht hu ha hb;
        lesser = new-each _ old points _ later.1 t u a b new ht hu ha hb;
      }

  pub fine-made : EachFine → made_finite old points r ≡ true
  unfolding made_finite solved_new_finite new_finite new_retarded_finite new_lesser_finite
  fine-made h =
      rw (
        each-new _ old points _ (λ t u a b new ht hu ha hb. (h t u a b new ht hu ha hb).kernel),
        each-new _ old points _ (λ t u a b new ht hu ha hb. (h t u a b new ht hu ha hb).retarded),
        each-new _ old points _ (λ t u a b new ht hu ha hb. (h t u a b new ht hu ha hb).lesser_advanced),
        each-new _ old points _ (λ t u a b new ht hu ha hb. (h t u a b new ht hu ha hb).lesser),
      )
