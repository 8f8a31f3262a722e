-- Demand 3 of the transient run. Assumes nothing.
use Rattle.std.specs.Prelude.{◌≡◌, ◌∷◌, ◌<◌}
use Rattle.lists.specs.Prelude.{true, [], ℕ, arith}
use Rattle.lists.specs.Agreement.{both}
use Rattle.complex.specs.Arithmetic.{cfinite}
use Rattle.refusal.specs.Verdict.{pass, Verdict, by, ◌then◌}
use Rattle.refusal.specs.Agreement.{ask_pass, then-pass}
use Rattle.refusal.specs.Checks.{finite_work}
use Rattle.grid.specs.Calls.{grid_checks}
use Rattle.two_time.specs.Start.{new_lesser_numbers}
use Rattle.two_time.specs.Calls.{point_entries, point_operands}
use Rattle.two_time.specs.Factors.{FiniteBlock}
use Rattle.dyson.specs.Retarded.{new_retarded}
use Rattle.dyson.specs.Recursion.{above}
use Rattle.transient_run.specs.Form.{form_entries}
use Rattle.transient_run.specs.Calls.{Run, kernel_made, retarded_made, lesser_advanced_made, made_finite, checks_of, verdict_of, worked, transient_run}
use Rattle.transient_run.specs.Checks.{sizes_asked}
use Rattle.transient_run.specs.Column.{first_block, retarded-column}
use Rattle.causality.specs.Statement.{of, Demand3}
use Rattle.causality.specs.Made.{call_retarded, lesser_terms, call_lesser, none-held, made-fine}
use Rattle.causality.proofs.Made.{retarded-rows, retardeds, lesser-square}
use Rattle.causality.specs.Starts.{either-form, start-finite, sum-finite}
use Rattle.causality.specs.Solvers.{sizes, solver_of, ReadsNoLater, meets}

-- check 10 passed
pub all_finite_lem : (old points : ℕ) (r : Run) → verdict_of old points r ≡ pass → made_finite old points r ≡ true
unfolding verdict_of finite_work
all_finite_lem old points r v = ask_pass (made_finite old points r) (by 10) (then-pass (checks_of old points r) _ v).1

-- check 7 of the operands, and with it that of the form's block
abbrev operands_asked : ℕ → Run → Verdict
operands_asked points r = point_operands r.capacity points r.orbitals 0 (r.free ∷ r.self_energy ∷ r.lesser_self_energy ∷ [])

abbrev pub entries_asked : ℕ → Run → Verdict
entries_asked points r = operands_asked points r then form_entries r.form

-- G^R(t,0) is finite
pub column : (r : Run) → verdict_of 0 r.points r ≡ pass → (t : ℕ) → t < r.points → FiniteBlock r.orbitals (of r (retarded_made 0 r.points r) t 0)
unfolding verdict_of checks_of made_finite point_operands
column r v =
    let s = sizes 0 r.points r v in
    let asked = (then-pass (sizes_asked r.points r) _ (then-pass (checks_of 0 r.points r) _ v).0).1 in
    let entries = (then-pass (entries_asked r.points r) _ (then-pass (grid_checks r.points r.times) _ asked).1).0 in
    let operands = (then-pass (operands_asked r.points r) (form_entries r.form) entries).0 in
    retarded-column 0 r.points r (let least = s.0 in omega arith) s.1 (both _ _ (all_finite_lem 0 r.points r v)).0
    (λ _. first_block r.capacity r.points r.orbitals 0 r.free (let least = s.0 in omega arith) (then-pass (point_entries r.capacity r.points r.orbitals 0 r.free) _ operands).0)

-- and so is each entry of G^<
pub numbers : (r : Run) → verdict_of 0 r.points r ≡ pass → (t u a b : ℕ) → t < r.points → u < r.points → a < r.orbitals → b < r.orbitals → cfinite (call_lesser 0 r.points r t u a b) ≡ true
numbers r v t u a b ht hu ha hb =
    let f = both _ _ (made-fine 0 r.points r (all_finite_lem 0 r.points r v) t u a b (omega arith) ht hu ha hb).lesser in
    sum-finite r.orbitals (lesser_terms 0 r.points r t u) a b (start-finite r.form r.capacity r.orbitals (retarded_made 0 r.points r) t u a b f.0) f.1

pub reads-no-later : ReadsNoLater (λ r. call_retarded 0 r.points r) (λ r. call_lesser 0 r.points r)
reads-no-later =
    record {
      retarded = λ k r r' h h' same. retarded-rows k 0 r.points r'.points r r' h.0 h.1 h'.0 h'.1 same (none-held k r'.points r _);
      lesser = λ k r r' h h' v same.
          let held = none-held k r'.points r _ in
          let made = retardeds k 0 r.points r'.points r r' h.0 h.1 h'.0 h'.1 same held in
          lesser-square k 0 r.points r'.points r r' h.0 h.1 h'.0 h'.1 same held
          (λ t u ht hu. either-form r.orbitals r.capacity r'.capacity _ _ t u (made t 0 ht (omega arith)) (made u 0 hu (omega arith)) (column r v t (omega arith)) (column r v u (omega arith)) r.form r'.form same.start);
      numbers = numbers;
      above = λ r t u a b less. above r.orbitals r.times (of r r.free) (of r (kernel_made 0 r.points r)) 0 (of r r.retarded) t u a b less;
    }

-- The tuning bench may append points and never solve old rows again.
pub demand_3 : Demand3 transient_run
unfolding transient_run worked new_retarded new_lesser_numbers solver_of
demand_3 = meets (λ r. call_retarded 0 r.points r) (λ r. call_lesser 0 r.points r) (λ r. kernel_made 0 r.points r) (λ r. lesser_advanced_made 0 r.points r) reads-no-later
