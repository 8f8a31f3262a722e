-- A solver that asks the run's questions and leaves two functions of places meets demand 3 where those functions read no later data.
-- Assumes nothing.
use Rattle.std.specs.Prelude.{◌≡◌, ◌≤◌, ◌<◌}
use Rattle.lists.specs.Prelude.{refl, sym, ap, subst, ◌∙◌, true, List, ℕ, arith, Float}
use Rattle.complex.specs.Arithmetic.{czero, cfinite}
use Rattle.refusal.specs.Verdict.{pass, Verdict, zeroed, afterwards}
use Rattle.refusal.specs.Agreement.{then-pass}
use Rattle.block.specs.Agreement.{Agree}
use Rattle.two_time.specs.Layout.{TwoTime}
use Rattle.two_time.specs.New.{written}
use Rattle.two_time.specs.Written.{length-written}
use Rattle.two_time.proofs.NewPlaces.{read-new}
use Rattle.two_time.specs.SizeChecks.{SizesPassed}
use Rattle.two_time.specs.Lengths.{none-asked, also_asked}
use Rattle.transient_run.specs.Products.{formed}
use Rattle.transient_run.specs.Form.{start_products}
use Rattle.transient_run.specs.FormChecks.{Square}
use Rattle.transient_run.specs.Calls.{Run, solved, is_accepted, checks_of, verdict_of}
use Rattle.transient_run.specs.Checks.{accepted, slices, checks-passed}
use Rattle.causality.specs.Statement.{Solver, of, SameTo, SameRetarded, SameRows, ZeroAbove, Comparable, Demand3}
use Rattle.causality.specs.Stages.{RowsTo, SquareTo}
use Rattle.causality.specs.Made.{with_orbitals}
use Rattle.causality.specs.Observables.{Left, particles_agree, expectations_agree, flows_agree}

pub left-made : (cleared : List Float → List Float) (v : Verdict) (made before : List Float) → v ≡ pass → afterwards cleared v made before ≡ made
unfolding afterwards
left-made cleared v made before e = rw e

-- the sizes of an accepted call
pub sizes : (old points : ℕ) (r : Run) → verdict_of old points r ≡ pass → (2 ≤ points) × (points ≤ r.capacity) × SizesPassed r.capacity r.orbitals true (slices points r) × Square r.orbitals r.form
unfolding verdict_of
sizes old points r v = checks-passed points r old (then-pass (checks_of old points r) _ v).0

-- what holds of two runs with one n holds of two with equal n
pub equal-n : (P : Run → Run → Type 0) → ((r r' : Run) → P r (with_orbitals r' r.orbitals)) → (r r' : Run) → r.orbitals ≡ r'.orbitals → P r r'
equal-n P h r r' e = subst (λ (x : Run). P r x) (λ i. with_orbitals r' (e i)) (h r r')

-- what an accepted run leaves in a slice that held `before`, where f is made
abbrev pub leaves : Run → TwoTime → List Float → List Float
leaves r f before = written r.capacity r.orbitals 0 r.points f before

-- the answers of the run's questions, with G^R = g and G^< = l where it accepts, and scratch as given
unfoldable pub solver_of : (Run → TwoTime) → (Run → TwoTime) → (Run → List Float) → (Run → List Float) → Solver
solver_of g l kernel lesser_advanced r =
    let holds : List Float → List Float → List Float = afterwards zeroed (verdict_of 0 r.points r) in
    record {
      answer = solved (verdict_of 0 r.points r) (formed (start_products r.form) 0 r.points);
      retarded = holds (leaves r (g r) r.retarded) r.retarded;
      lesser = holds (leaves r (l r) r.lesser) r.lesser;
      kernel = holds (kernel r) r.kernel;
      lesser_advanced = holds (lesser_advanced r) r.lesser_advanced;
    }

-- k is an index of a run that has room for its points
abbrev pub Inside : ℕ → Run → Type 0
Inside k r = (k < r.points) × (r.points ≤ r.capacity)

-- what g and l have to satisfy
pub record ReadsNoLater (g l : Run → TwoTime) : Type 0 where
  pub retarded : (k : ℕ) (r r' : Run) → Inside k r → Inside k r' → SameTo k r (with_orbitals r' r.orbitals) → RowsTo r.orbitals k (g r) (g (with_orbitals r' r.orbitals))
  pub lesser : (k : ℕ) (r r' : Run) → Inside k r → Inside k r' → verdict_of 0 r.points r ≡ pass → SameTo k r (with_orbitals r' r.orbitals) → SquareTo r.orbitals k (l r) (l (with_orbitals r' r.orbitals))
  pub numbers : (r : Run) → verdict_of 0 r.points r ≡ pass → (t u a b : ℕ) → t < r.points → u < r.points → a < r.orbitals → b < r.orbitals → cfinite (l r t u a b) ≡ true
  pub above : (r : Run) (t u a b : ℕ) → t < u → g r t u a b ≡ czero

-- a slice that a run left is read
pub read_left : (r : Run) (f : TwoTime) (before : List Float) → r.points ≤ r.capacity → (t u : ℕ) → t < r.points → u < r.points → Agree r.orbitals (of r (leaves r f before) t u) (f t u)
read_left r f before room t u ht hu = read-new r.capacity r.orbitals 0 r.points f before room t u ht hu (omega arith)

-- two functions that agree in rows to k, as two runs with one n left them
module _ (k : ℕ) (r r₀ : Run) (h : Inside k r) (h' : Inside k r₀) (f f' : TwoTime) (before before' : List Float) where
  abbrev n : ℕ
  n = r.orbitals

  abbrev r' : Run
  r' = with_orbitals r₀ n

  left_agree : (t u : ℕ) → t ≤ k → u < r.points → u < r'.points → Agree n (f t u) (f' t u) → Agree n (of r (leaves r f before) t u) (of r' (leaves r' f' before') t u)
  left_agree t u ht hu hu' e a b ha hb = read_left r f before h.1 t u (omega arith) hu a b ha hb ∙ e a b ha hb ∙ sym (read_left r' f' before' h'.1 t u (omega arith) hu' a b ha hb)

  pub rows_left : RowsTo n k f f' → SameRetarded k r r' (leaves r f before) (leaves r' f' before')
  rows_left rows t u ht hu hu' = left_agree t u ht hu hu' (rows t u ht)

  square-left : SquareTo n k f f' → SquareTo n k (of r (leaves r f before)) (of r' (leaves r' f' before'))
  square-left square t u ht hu = left_agree t u ht (omega arith) (omega arith) (square t u ht hu)

module _ (g l : Run → TwoTime) (kernel lesser_advanced : Run → List Float) (reads : ReadsNoLater g l) where
  abbrev solver : Solver
  solver = solver_of g l kernel lesser_advanced

  abbrev verdict : Run → Verdict
  verdict r = verdict_of 0 r.points r

  -- the lesser function that an accepted run leaves
  pub left : (r : Run) → verdict r ≡ pass → Left r.capacity r.points r.orbitals (leaves r (l r) r.lesser)
  left r v =
      let s = sizes 0 r.points r v in
      record {
        least = s.0;
        within = s.1;
        sizes = also_asked (length-written r.capacity r.orbitals 0 r.points (l r) r.lesser) (none-asked s.2);
        numbers = λ t u a b ht hu ha hb. ap cfinite (read_left r (l r) r.lesser s.1 t u ht hu a b ha hb) ∙ reads.numbers r v t u a b ht hu ha hb;
      }

  -- two accepted runs with one n
  Blind : Run → Run → Type 0
  Blind r r' = (k : ℕ) → Comparable k r r' (is_accepted (solver r).answer ≡ true) (is_accepted (solver r').answer ≡ true) → SameRows k r r' (solver r) (solver r')

  one-n : (r r' : Run) → Blind r (with_orbitals r' r.orbitals)
  unfolding Blind solver_of
  one-n r r₀ k c =
      let r' = with_orbitals r₀ r.orbitals in
      let v : verdict r ≡ pass = accepted (verdict r) _ c.accepted in
      let v' : verdict r' ≡ pass = accepted (verdict r') _ c.accepted' in
      let h : Inside k r = (c.within, (sizes 0 r.points r v).1) in
      let h' : Inside k r' = (c.within', (sizes 0 r'.points r' v').1) in
      let n = r.orbitals in
      let square : SquareTo n k (of r (leaves r (l r) r.lesser)) (of r' (leaves r' (l r') r'.lesser)) =
      square-left k r r₀ h h' (l r) (l r') r.lesser r'.lesser (reads.lesser k r r₀ h h' v c.same) in
      let below : (t : ℕ) → t ≤ k → t < r.points = λ t ht. omega arith in
      let below' : (t : ℕ) → t ≤ k → t < r'.points = λ t ht. omega arith in
      rw (left-made zeroed (verdict r) _ r.retarded v, left-made zeroed (verdict r') _ r'.retarded v', left-made zeroed (verdict r) _ r.lesser v, left-made zeroed (verdict r') _ r'.lesser v')
      (record {
        retarded = rows_left k r r₀ h h' (g r) (g r') r.retarded r'.retarded (reads.retarded k r r₀ h h' c.same);
        lesser = square;
        particles = λ t tolerance ht. particles_agree n r.capacity r'.capacity r.points r'.points _ _ (left r v) (left r' v') t (below t ht) (below' t ht) (square t t ht ht) tolerance;
        expectations = λ t x x' tolerance ht s. expectations_agree n r.capacity r'.capacity r.points r'.points _ _ (left r v) (left r' v') t (below t ht) (below' t ht) (square t t ht ht) x x' tolerance s;
        flows = λ t a b hopping charge ht. flows_agree n r.capacity r'.capacity r.points r'.points _ _ (left r v) (left r' v') t (below t ht) (below' t ht) (square t t ht ht) a b hopping charge;
      })

  blind : (r r' : Run) → Blind r r'
  unfolding Blind
  blind r r' k c = equal-n Blind one-n r r' c.same.orbitals k c

  zero-above : (r : Run) → is_accepted (solver r).answer ≡ true → ZeroAbove r (solver r).retarded
  unfolding solver_of
  zero-above r acc t u a b less hu ha hb =
      let v : verdict r ≡ pass = accepted (verdict r) _ acc in
      rw (left-made zeroed (verdict r) _ r.retarded v) (read_left r (g r) r.retarded (sizes 0 r.points r v).1 t u (omega arith) hu a b ha hb ∙ reads.above r t u a b less)

  pub meets : Demand3 solver
  unfolding Blind
  meets r r' = record { blind = blind r r'; above = zero-above r; above' = zero-above r' }
