-- Document 02, L12, of the transient run, of either form and of one of each: what two runs make is related by the split, an accepted run is finite, and so its
-- cross entries are zeros and the first group's are the same. Assumes nothing.
use Rattle.std.specs.Prelude.{◌≡◌, ◌-◌, ◌≤◌, ◌<◌}
use Rattle.lists.specs.Prelude.{refl, sym, ap, subst, ◌∙◌, true, ℕ, dec_lt, arith, ltb}
use Rattle.complex.specs.Arithmetic.{czero, cfinite}
use Rattle.complex.specs.Zeros.{Zeros, zero-zeros, zeros-finite}
use Rattle.refusal.specs.Verdict.{pass, zeroed}
use Rattle.two_time.specs.Layout.{TwoTime}
use Rattle.two_time.specs.Relation.{Related}
use Rattle.two_time.specs.WeightedSum.{partial_sum, weighted_sum}
use Rattle.two_time.specs.OneTest.{partial_none}
use Rattle.two_time.specs.Factors.{FiniteBlock, sum-finite}
use Rattle.two_time.specs.Sums.{terms_at, sums_of, new_numbers}
use Rattle.two_time.specs.Start.{new_lesser_numbers}
use Rattle.dyson.specs.Retarded.{new_retarded}
use Rattle.dyson.specs.Recursion.{recursion, above}
use Rattle.transient_run.specs.Calls.{Run, is_accepted, kernel_made, retarded_made, lesser_advanced_made, lesser_start, verdict_of, worked, transient_run}
use Rattle.transient_run.specs.Checks.{accepted}
use Rattle.causality.specs.Statement.{of}
use Rattle.causality.specs.Stages.{RelatedRows, RelatedSquare}
use Rattle.causality.specs.Made.{with_orbitals, call_retarded, call_lesser, retarded_terms, kernel_terms, lesser_advanced_terms, RelatedTo, HeldRelated, none-related, MadeRelated, Fine, rows-related, retardeds-related, lesser-related, made-related, made-fine}
use Rattle.causality.specs.Starts.{sum-finite as finite-from}
use Rattle.causality.specs.Observables.{Left, flow_agree}
use Rattle.causality.specs.Solvers.{left-made, sizes, equal-n, leaves, read_left, left}
use Rattle.causality.proofs.Theorem.{all_finite_lem, numbers, reads-no-later}
use Rattle.two_dots.specs.Statement.{Split, ZeroAcross, SameFirst, Uncoupled, SameGiven, SameLeft, StaysUncoupled, TwoDots}
use Rattle.two_dots.specs.Bound.{BySplit, split-kept, bound_given, within_first, across_groups}
use Rattle.two_dots.specs.Starts.{starts-related}

-- ---- an accepted run is finite

module _ (r : Run) (v : verdict_of 0 r.points r ≡ pass) where
  abbrev green : TwoTime
  green = call_retarded 0 r.points r

  -- G^R below the diagonal
  below-finite : (t u : ℕ) → t < r.points → u < t → FiniteBlock r.orbitals (green t u)
  below-finite t u ht hu a b ha hb =
      ap cfinite (recursion r.orbitals r.times _ _ 0 _ t u (omega arith) (omega arith) a b ha hb)
      ∙ sum-finite r.orbitals (retarded_terms 0 r.points r t u)
      (λ c d hc hd. (made-fine 0 r.points r (all_finite_lem 0 r.points r v) t u c d (omega arith) ht (omega arith) hc hd).retarded) (omega arith) a b ha hb

  -- on it, it is the free function
  on-diagonal : (t a b : ℕ) → a < r.orbitals → b < r.orbitals → green t t a b ≡ of r r.free t t a b
  unfolding weighted_sum
  on-diagonal t a b ha hb =
      let terms = retarded_terms 0 r.points r t t in
      let none : t - t ≡ 0 = omega arith in
      recursion r.orbitals r.times _ _ 0 _ t t (omega arith) (omega arith) a b ha hb
      ∙ ap (λ (c : ℕ). partial_sum r.orbitals terms c a b) none ∙ partial_none r.orbitals terms a b

  -- above it, it is +0
  over-diagonal : (t u a b : ℕ) → t < u → green t u a b ≡ czero
  over-diagonal t u a b less = above r.orbitals r.times (of r r.free) (of r (kernel_made 0 r.points r)) 0 (of r r.retarded) t u a b less

  room_for : r.points ≤ r.capacity
  room_for = (sizes 0 r.points r v).1

  fine : (t u a b : ℕ) → t < r.points → u < r.points → a < r.orbitals → b < r.orbitals → Fine 0 r.points r t u a b
  fine t u a b ht hu ha hb = made-fine 0 r.points r (all_finite_lem 0 r.points r v) t u a b (omega arith) ht hu ha hb

  -- K and X
  kernel-finite : (t u : ℕ) → t < r.points → u < r.points → FiniteBlock r.orbitals (of r (kernel_made 0 r.points r) t u)
  unfolding new_numbers sums_of terms_at
  kernel-finite t u ht hu a b ha hb =
      ap cfinite (read_left r _ r.kernel room_for t u ht hu a b ha hb)
      ∙ finite-from r.orbitals (kernel_terms 0 r.points r t u) a b (zeros-finite czero zero-zeros) (fine t u a b ht hu ha hb).kernel

  lesser_advanced-finite : (t u : ℕ) → t < r.points → u < r.points → FiniteBlock r.orbitals (of r (lesser_advanced_made 0 r.points r) t u)
  unfolding new_numbers sums_of terms_at
  lesser_advanced-finite t u ht hu a b ha hb =
      ap cfinite (read_left r _ r.lesser_advanced room_for t u ht hu a b ha hb)
      ∙ finite-from r.orbitals (lesser_advanced_terms 0 r.points r t u) a b (zeros-finite czero zero-zeros) (fine t u a b ht hu ha hb).lesser_advanced

  -- G^<, as the run leaves it
  lesser-left : Left r.capacity r.points r.orbitals (leaves r (call_lesser 0 r.points r) r.lesser)
  lesser-left = left (λ s. call_retarded 0 s.points s) (λ s. call_lesser 0 s.points s) (λ s. s.kernel) (λ s. s.lesser_advanced) reads-no-later r v

-- ---- two accepted runs with one n

module _ (first : Split) (r r₀ : Run) where
  abbrev n : ℕ
  n = r.orbitals

  abbrev r' : Run
  r' = with_orbitals r₀ n

  -- the last point
  abbrev last : ℕ
  last = r.points - 1

  module _ (v : verdict_of 0 r.points r ≡ pass) (v' : verdict_of 0 r'.points r' ≡ pass) (split : Uncoupled first r) (split' : Uncoupled first r') (same : SameGiven first r r') where
    inside : last < r.points
    inside = let s = (sizes 0 r.points r v).0 in omega arith

    inside' : last < r'.points
    inside' = let s = (sizes 0 r.points r v).0 in let e = same.points in omega arith

    abbrev room : r.points ≤ r.capacity
    room = (sizes 0 r.points r v).1

    abbrev room' : r'.points ≤ r'.capacity
    room' = (sizes 0 r'.points r' v').1

    -- a place of one is a place of the other
    there : (t : ℕ) → t < r.points → t < r'.points
    there t h = let e = same.points in omega arith

    here : (t : ℕ) → t ≤ last → t < r.points
    here t h = let s = inside in omega arith

    related : RelatedTo (BySplit first) last r r'
    related =
        record {
          times = same.times last inside;
          free = λ t u ht hu.
              let p = here t ht in let q : u < r.points = omega arith in
              bound_given first n _ _ (split.free t u p q) (split'.free t u (there t p) (there u q)) (same.free t u p q);
          self_energy = λ t u ht hu.
              let p = here t ht in let q : u < r.points = omega arith in
              bound_given first n _ _ (split.self_energy t u p q) (split'.self_energy t u (there t p) (there u q)) (same.self_energy t u p q);
          lesser_self_energy = λ t u ht hu.
              let p = here t ht in let q = here u hu in
              bound_given first n _ _ (split.lesser_self_energy t u p q) (split'.lesser_self_energy t u (there t p) (there u q)) (same.lesser_self_energy t u p q);
        }

    abbrev none : HeldRelated (BySplit first) last 0 r'.points r r'
    none = none-related (BySplit first) last r'.points r r'

    greens : RelatedRows n (BySplit first) last (call_retarded 0 r.points r) (call_retarded 0 r'.points r')
    greens = rows-related (BySplit first) last 0 r.points r'.points r r₀ (split-kept n first) inside room inside' room' related none

    left-greens : RelatedSquare n (BySplit first) last (of r (retarded_made 0 r.points r)) (of r' (retarded_made 0 r'.points r'))
    left-greens = retardeds-related (BySplit first) last 0 r.points r'.points r r₀ (split-kept n first) inside room inside' room' related none

    starts : (t u : ℕ) → t ≤ last → u ≤ last → Related n (BySplit first) ((lesser_start 0 r.points r).block t u) ((lesser_start 0 r'.points r').block t u)
    starts t u ht hu =
        starts-related n first r.capacity r'.capacity _ _ t u (left-greens t 0 ht (omega arith)) (left-greens u 0 hu (omega arith)) r.form r'.form split.start split'.start same.start

    lessers : RelatedSquare n (BySplit first) last (call_lesser 0 r.points r) (call_lesser 0 r'.points r')
    lessers = lesser-related (BySplit first) last 0 r.points r'.points r r₀ (split-kept n first) inside room inside' room' related none starts

    made : MadeRelated (BySplit first) last 0 r.points r'.points r r'
    made = made-related (BySplit first) last 0 r.points r'.points r r₀ (split-kept n first) inside room inside' room' related none starts

    -- the cross entries of the first run's G^R
    green_across : (t u : ℕ) → t < r.points → u < r.points → ZeroAcross first n (call_retarded 0 r.points r t u)
    green_across t u ht hu a b ha hb apart =
        elim (dec_lt t u) [
          | yes over ↦ rw (over-diagonal r v t u a b over) zero-zeros
          | no below ↦
              elim (dec_lt u t) [
                | yes under ↦ across_groups (first a) (first b) _ _ (greens t u (omega arith) a b ha hb) apart (below-finite r v t u ht under a b ha hb)
                | no neither ↦ (let at : u ≡ t = omega arith in rw (at, on-diagonal r v t a b ha hb) (split.free t t ht ht a b ha hb apart))
              ]
        ]

    stays-uncoupled : StaysUncoupled first r (transient_run r)
    unfolding transient_run worked new_retarded new_lesser_numbers
    stays-uncoupled =
        rw (left-made zeroed (verdict_of 0 r.points r) _ r.kernel v, left-made zeroed (verdict_of 0 r.points r) _ r.retarded v, left-made zeroed (verdict_of 0 r.points r) _ r.lesser_advanced v, left-made zeroed (verdict_of 0 r.points r) _ r.lesser v)
        (record {
          kernel = λ t u ht hu a b ha hb apart. across_groups (first a) (first b) _ _ (made.kernel t u (omega arith) (omega arith) a b ha hb) apart (kernel-finite r v t u ht hu a b ha hb);
          retarded = λ t u ht hu a b ha hb apart.
              subst Zeros (sym (read_left r (call_retarded 0 r.points r) r.retarded room t u ht hu a b ha hb)) (green_across t u ht hu a b ha hb apart);
          lesser_advanced = λ t u ht hu a b ha hb apart.
              across_groups (first a) (first b) _ _ (made.lesser_advanced t u (omega arith) (omega arith) a b ha hb) apart (lesser_advanced-finite r v t u ht hu a b ha hb);
          lesser = λ t u ht hu a b ha hb apart.
              subst Zeros (sym (read_left r (call_lesser 0 r.points r) r.lesser room t u ht hu a b ha hb))
              (across_groups (first a) (first b) _ _ (lessers t u (omega arith) (omega arith) a b ha hb) apart (numbers r v t u a b ht hu ha hb));
        })

    green-same : (t u : ℕ) → t < r.points → u < r.points → SameFirst first n (call_retarded 0 r.points r t u) (call_retarded 0 r'.points r' t u)
    green-same t u ht hu a b ha hb fa fb =
        elim (dec_lt t u) [
          | yes over ↦ over-diagonal r v t u a b over ∙ sym (over-diagonal r' v' t u a b over)
          | no below ↦
              elim (dec_lt u t) [
                | yes under ↦
                    within_first (first a) (first b) _ _ (greens t u (omega arith) a b ha hb) fa fb (below-finite r v t u ht under a b ha hb) (below-finite r' v' t u (there t ht) under a b ha hb)
                | no neither ↦
                    let at : u ≡ t = omega arith in
                    rw at (on-diagonal r v t a b ha hb ∙ same.free t t ht ht a b ha hb fa fb ∙ sym (on-diagonal r' v' t a b ha hb))
              ]
        ]

    lesser-same : (t u : ℕ) → t < r.points → u < r.points → SameFirst first n (call_lesser 0 r.points r t u) (call_lesser 0 r'.points r' t u)
    lesser-same t u ht hu a b ha hb fa fb =
        within_first (first a) (first b) _ _ (lessers t u (omega arith) (omega arith) a b ha hb) fa fb (numbers r v t u a b ht hu ha hb) (numbers r' v' t u a b (there t ht) (there u hu) ha hb)

    -- the first group's entries of a function, as the two runs left it
    left-same : (f f' : TwoTime) (t u : ℕ) → t < r.points → u < r.points → SameFirst first n (f t u) (f' t u)
        → SameFirst first n (of r (leaves r f r.lesser) t u) (of r' (leaves r' f' r'.lesser) t u)
    left-same f f' t u ht hu e a b ha hb fa fb =
        read_left r f r.lesser room t u ht hu a b ha hb ∙ e a b ha hb fa fb ∙ sym (read_left r' f' r'.lesser room' t u (there t ht) (there u hu) a b ha hb)

    same_left : SameLeft first r r' (transient_run r) (transient_run r')
    unfolding transient_run worked new_retarded new_lesser_numbers
    same_left =
        rw (left-made zeroed (verdict_of 0 r.points r) _ r.retarded v, left-made zeroed (verdict_of 0 r'.points r') _ r'.retarded v', left-made zeroed (verdict_of 0 r.points r) _ r.lesser v, left-made zeroed (verdict_of 0 r'.points r') _ r'.lesser v')
        (record {
          retarded = λ t u ht hu a b ha hb fa fb.
              read_left r (call_retarded 0 r.points r) r.retarded room t u ht hu a b ha hb ∙ green-same t u ht hu a b ha hb fa fb
              ∙ sym (read_left r' (call_retarded 0 r'.points r') r'.retarded room' t u (there t ht) (there u hu) a b ha hb);
          lesser = λ t u ht hu. left-same _ _ t u ht hu (lesser-same t u ht hu);
          flows = λ t a b hopping charge fa fb.
              flow_agree n r.capacity r'.capacity r.points r'.points _ _ (lesser-left r v) (lesser-left r' v') t
              (ap (λ (k : ℕ). ltb t k) same.points) a b (λ ht ha hb. left-same _ _ t t ht ht (lesser-same t t ht ht) b a hb ha fb fa) hopping charge;
        })

Claim : Run → Run → Type 0
Claim r r' = TwoDots r r' (transient_run r) (transient_run r')

one-n : (r r' : Run) → Claim r (with_orbitals r' r.orbitals)
unfolding Claim
one-n r r₀ first d =
    let r' = with_orbitals r₀ r.orbitals in
    same_left first r r₀ (unfold transient_run worked in accepted (verdict_of 0 r.points r) _ d.accepted) (unfold transient_run worked in accepted (verdict_of 0 r'.points r') _ d.accepted')
    d.uncoupled d.uncoupled' d.same

-- a run is the same as itself
itself : (first : Split) (r : Run) → SameGiven first r r
itself first r =
    record {
      points = refl;
      orbitals = refl;
      times = λ k hk i hi. refl;
      free = λ t u ht hu a b ha hb fa fb. refl;
      self_energy = λ t u ht hu a b ha hb fa fb. refl;
      lesser_self_energy = λ t u ht hu a b ha hb fa fb. refl;
      start = λ a b ha hb fa fb. refl;
    }

-- what an accepted run makes of dots that do not couple does not couple them
pub uncoupled-left : (first : Split) (r : Run) → is_accepted (transient_run r).answer ≡ true → Uncoupled first r → StaysUncoupled first r (transient_run r)
uncoupled-left first r acc split =
    let v : verdict_of 0 r.points r ≡ pass = unfold transient_run worked in accepted (verdict_of 0 r.points r) _ acc in
    stays-uncoupled first r r v v split split (itself first r)

-- for every split and both forms of the run
pub two_dots : (r r' : Run) → TwoDots r r' (transient_run r) (transient_run r')
unfolding Claim
two_dots r r' first d = equal-n Claim one-n r r' d.same.orbitals first d
