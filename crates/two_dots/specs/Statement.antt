-- Document 02, L12: "One chip will carry two separate dots, solved as one run. Split the orbitals into two groups, and let every cross entry of free, retarded
-- self-energy, Σ^< and g0 be zero of either sign. If two such accepted runs with the same split agree in N, n and the bits of the times and the first group's
-- entries, then all first-group entries of G^R and G^< agree in bits, and bond flows of equal arguments with a and b in that group give the same answer. Show
-- this of what exists, for every split and both forms of the run."
use Rattle.std.specs.Prelude.{◌≡◌, ◌<◌}
use Rattle.lists.specs.Prelude.{Bool, true, ℕ, Float}
use Rattle.complex.specs.declared.Complex.{Complex}
use Rattle.complex.specs.Zeros.{Zeros}
use Rattle.block.specs.Block.{Entries}
use Rattle.grid.specs.Agreement.{AgreeTo}
use Rattle.transient_run.specs.Form.{g0_of}
use Rattle.transient_run.specs.Calls.{Run, Outcome, is_accepted}
use Rattle.observables.specs.Calls.{bond_flow_into}
use Rattle.causality.specs.Statement.{of}

-- "Split the orbitals into two groups": whether an orbital is in the first
abbrev pub Split : Type 0
Split = ℕ → Bool

module _ (first : Split) where
  -- every cross entry of an n by n block is zero of either sign
  abbrev pub ZeroAcross : ℕ → Entries → Type 0
  ZeroAcross n x = (a b : ℕ) → a < n → b < n → (first a ≡ first b → ⊥) → Zeros (x a b)

  -- the first group's entries of two n by n blocks agree in bits
  abbrev pub SameFirst : ℕ → Entries → Entries → Type 0
  SameFirst n x y = (a b : ℕ) → a < n → b < n → first a ≡ true → first b ≡ true → x a b ≡ y a b

  -- "let every cross entry of free, retarded self-energy, Σ^< and g0 be zero of either sign", at every place of the points. The empty form counts as g0 at +0.
  pub record Uncoupled (r : Run) : Type 0 where
    pub free : (t u : ℕ) → t < r.points → u < r.points → ZeroAcross r.orbitals (of r r.free t u)
    pub self_energy : (t u : ℕ) → t < r.points → u < r.points → ZeroAcross r.orbitals (of r r.self_energy t u)
    pub lesser_self_energy : (t u : ℕ) → t < r.points → u < r.points → ZeroAcross r.orbitals (of r r.lesser_self_energy t u)
    pub start : ZeroAcross r.orbitals (g0_of r.orbitals r.form)

  -- "agree in N, n and the bits of the times and the first group's entries". All else is free: the second group's entries, the form, the session and the
  -- desk, the tolerance, the capacity, the room beyond the points, and what outputs and scratch held.
  pub record SameGiven (r r' : Run) : Type 0 where
    pub points : r.points ≡ r'.points
    pub orbitals : r.orbitals ≡ r'.orbitals
    pub times : (k : ℕ) → k < r.points → AgreeTo k r.times r'.times
    pub free : (t u : ℕ) → t < r.points → u < r.points → SameFirst r.orbitals (of r r.free t u) (of r' r'.free t u)
    pub self_energy : (t u : ℕ) → t < r.points → u < r.points → SameFirst r.orbitals (of r r.self_energy t u) (of r' r'.self_energy t u)
    pub lesser_self_energy : (t u : ℕ) → t < r.points → u < r.points → SameFirst r.orbitals (of r r.lesser_self_energy t u) (of r' r'.lesser_self_energy t u)
    pub start : SameFirst r.orbitals (g0_of r.orbitals r.form) (g0_of r'.orbitals r'.form)

  -- "two such accepted runs with the same split", given as r and r', that answered and left o and o'
  pub record Dots (r r' : Run) (o o' : Outcome) : Type 0 where
    pub accepted : is_accepted o.answer ≡ true
    pub accepted' : is_accepted o'.answer ≡ true
    pub uncoupled : Uncoupled r
    pub uncoupled' : Uncoupled r'
    pub same : SameGiven r r'

  -- "all first-group entries of G^R and G^< agree in bits, and bond flows of equal arguments with a and b in that group give the same answer", a refusal too
  pub record SameLeft (r r' : Run) (o o' : Outcome) : Type 0 where
    pub retarded : (t u : ℕ) → t < r.points → u < r.points → SameFirst r.orbitals (of r o.retarded t u) (of r' o'.retarded t u)
    pub lesser : (t u : ℕ) → t < r.points → u < r.points → SameFirst r.orbitals (of r o.lesser t u) (of r' o'.lesser t u)
    pub flows : (t a b : ℕ) (hopping : Complex) (charge : Float) → first a ≡ true → first b ≡ true
        → bond_flow_into r.capacity r.points r.orbitals o.lesser t a b hopping charge ≡ bond_flow_into r'.capacity r'.points r'.orbitals o'.lesser t a b hopping charge

  -- the cross entries of all that a run, given as r, left as o are zeros of either sign
  pub record StaysUncoupled (r : Run) (o : Outcome) : Type 0 where
    pub kernel : (t u : ℕ) → t < r.points → u < r.points → ZeroAcross r.orbitals (of r o.kernel t u)
    pub retarded : (t u : ℕ) → t < r.points → u < r.points → ZeroAcross r.orbitals (of r o.retarded t u)
    pub lesser_advanced : (t u : ℕ) → t < r.points → u < r.points → ZeroAcross r.orbitals (of r o.lesser_advanced t u)
    pub lesser : (t u : ℕ) → t < r.points → u < r.points → ZeroAcross r.orbitals (of r o.lesser t u)

-- L12 of two runs, given as r and r', that answered and left o and o': "for every split"
abbrev pub TwoDots : Run → Run → Outcome → Outcome → Type 0
TwoDots r r' o o' = (first : Split) → Dots first r r' o o' → SameLeft first r r' o o'
