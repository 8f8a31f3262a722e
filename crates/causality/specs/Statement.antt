-- Document 01, "Words of demand 3": no later data reaches an earlier row.
use Rattle.refusal.specs.Verdict.{pass}
use Rattle.std.specs.Prelude.{◌≡◌, ◌≤◌, ◌<◌}
use Rattle.lists.specs.Prelude.{true, List, ℕ, Float}
use Rattle.complex.specs.declared.Complex.{Complex}
use Rattle.complex.specs.Arithmetic.{czero}
use Rattle.matrix.specs.declared.DenseMatrix.{DenseMatrix}
use Rattle.matrix.specs.Dense.{entries_of}
use Rattle.block.specs.Agreement.{Agree}
use Rattle.grid.specs.Agreement.{AgreeTo}
use Rattle.two_time.specs.Layout.{TwoTime, read_as}
use Rattle.dyson.specs.Calls.{Solved}
use Rattle.transient_run.specs.Form.{Form, g0_of}
use Rattle.transient_run.specs.Form.Form.{empty, occupied}
use Rattle.transient_run.specs.Calls.{Run, Outcome, is_accepted}
use Rattle.observables.specs.Calls.{particle_number, one_body_expectation, bond_flow_into}

-- whatever answers runs
abbrev pub Solver : Type 0
Solver = Run → Outcome

-- A list that a run was given or left, as a function of places. Document 02, L1: "in the words of demand 3 a run's capacity goes with its N, so that two
-- runs may differ in it".
abbrev pub of : Run → List Float → TwoTime
of r xs = read_as r.capacity r.orbitals xs

-- Two runs of equal n agree in bits up to index k: in times to k, in both retarded inputs on and below the diagonal in rows to k, and in the
-- lesser self-energy with both indices to k. Document 02, L5: "demand 3's premise adds g0 equal in bits, and the old form counts as g0 at +0". All else is
-- free: the session and the desk, the tolerance, the point counts and capacities, numbers past k or above the diagonal, the room beyond the points, and
-- what outputs and scratch held.
pub record SameTo (k : ℕ) (r r' : Run) : Type 0 where
  pub orbitals : r.orbitals ≡ r'.orbitals
  pub times : AgreeTo k r.times r'.times
  pub free : (t u : ℕ) → t ≤ k → u ≤ t → Agree r.orbitals (of r r.free t u) (of r' r'.free t u)
  pub self_energy : (t u : ℕ) → t ≤ k → u ≤ t → Agree r.orbitals (of r r.self_energy t u) (of r' r'.self_energy t u)
  pub lesser_self_energy : (t u : ℕ) → t ≤ k → u ≤ k → Agree r.orbitals (of r r.lesser_self_energy t u) (of r' r'.lesser_self_energy t u)
  pub start : Agree r.orbitals (g0_of r.orbitals r.form) (g0_of r'.orbitals r'.form)

-- both start empty, or both have a block g0
abbrev pub SameKind : Form → Form → Type 0
SameKind empty empty = Unit {0}
SameKind empty (occupied g0) = ⊥
SameKind (occupied g0) empty = ⊥
SameKind (occupied g0) (occupied g0') = Unit {0}

-- "a block by its shape and entries"
pub record SameBlock (x x' : DenseMatrix) : Type 0 where
  pub rows : x.rows ≡ x'.rows
  pub columns : x.columns ≡ x'.columns
  pub entries : (a b : ℕ) → a < x.rows → b < x.columns → entries_of x a b ≡ entries_of x' a b

-- what two calls left as xs and xs' in their retarded outputs is the same at every place with t at most k that both have
abbrev pub SameRetarded : ℕ → Run → Run → List Float → List Float → Type 0
SameRetarded k r r' xs xs' = (t u : ℕ) → t ≤ k → u < r.points → u < r'.points → Agree r.orbitals (of r xs t u) (of r' xs' t u)

-- What two runs, given as r and r', leave as o and o', is the same up to index k: the retarded outputs, the lesser outputs with both indices at
-- most k, and each observable at an index up to k, asked of each run with equal arguments.
pub record SameRows (k : ℕ) (r r' : Run) (o o' : Outcome) : Type 0 where
  pub retarded : SameRetarded k r r' o.retarded o'.retarded
  pub lesser : (t u : ℕ) → t ≤ k → u ≤ k → Agree r.orbitals (of r o.lesser t u) (of r' o'.lesser t u)
  pub particles : (t : ℕ) (tolerance : Float) → t ≤ k
      → particle_number r.capacity r.points r.orbitals o.lesser t tolerance ≡ particle_number r'.capacity r'.points r'.orbitals o'.lesser t tolerance
  pub expectations : (t : ℕ) (x x' : DenseMatrix) (tolerance : Float) → t ≤ k → SameBlock x x'
      → one_body_expectation r.capacity r.points r.orbitals o.lesser t x tolerance ≡ one_body_expectation r'.capacity r'.points r'.orbitals o'.lesser t x' tolerance
  pub flows : (t a b : ℕ) (hopping : Complex) (charge : Float) → t ≤ k
      → bond_flow_into r.capacity r.points r.orbitals o.lesser t a b hopping charge ≡ bond_flow_into r'.capacity r'.points r'.orbitals o'.lesser t a b hopping charge

-- every entry above the diagonal of what a run left as xs in its retarded output is +0
abbrev pub ZeroAbove : Run → List Float → Type 0
ZeroAbove r xs = (t u a b : ℕ) → t < u → u < r.points → a < r.orbitals → b < r.orbitals → of r xs t u a b ≡ czero

-- two calls, given r and r', that are both accepted and agree up to k, an index of both; `yes` and `yes'` say that each is accepted
pub record Comparable (k : ℕ) (r r' : Run) (yes yes' : Type 0) : Type 0 where
  pub within : k < r.points
  pub within' : k < r'.points
  pub accepted : yes
  pub accepted' : yes'
  pub same : SameTo k r r'

-- demand 3 of two runs, given as r and r', that answered and left o and o'
pub record Demanded (r r' : Run) (o o' : Outcome) : Type 0 where
  pub blind : (k : ℕ) → Comparable k r r' (is_accepted o.answer ≡ true) (is_accepted o'.answer ≡ true) → SameRows k r r' o o'
  pub above : is_accepted o.answer ≡ true → ZeroAbove r o.retarded
  pub above' : is_accepted o'.answer ≡ true → ZeroAbove r' o'.retarded

-- demand 3 of a solver: of any two of its runs
abbrev pub Demand3 : Solver → Type 0
Demand3 solver = (r r' : Run) → Demanded r r' (solver r) (solver r')

-- demand 3 of two Dyson calls, given r and r', that answered and left s and s'
pub record DysonDemanded (r r' : Run) (s s' : Solved) : Type 0 where
  pub blind : (k : ℕ) → Comparable k r r' (s.answer ≡ pass) (s'.answer ≡ pass) → SameRetarded k r r' s.retarded s'.retarded
  pub above : s.answer ≡ pass → ZeroAbove r s.retarded
  pub above' : s'.answer ≡ pass → ZeroAbove r' s'.retarded
