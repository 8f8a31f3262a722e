-- Demand 3 of Dyson calls: in slices laid out for its points, G is the G^R of a run that is given the same. Assumes nothing.
use Rattle.std.specs.Prelude.{◌≡◌}
use Rattle.lists.specs.Prelude.{sym, subst, ◌∙◌, List, [], ℕ, le_refl, arith, replicate, Float}
use Rattle.refusal.specs.Verdict.{pass, zeroed}
use Rattle.dyson.specs.Retarded.{new_retarded}
use Rattle.dyson.specs.Recursion.{above}
use Rattle.dyson.specs.Calls.{Solved, dyson_with_tolerance}
use Rattle.dyson.specs.NewSolved.{green-all}
use Rattle.transient_run.specs.Form.Form.{empty}
use Rattle.transient_run.specs.Calls.{Run, run_of, kernel_made, retarded_made}
use Rattle.causality.specs.Statement.{of, SameRetarded, ZeroAbove, Comparable, DysonDemanded}
use Rattle.causality.specs.Made.{with_shape, with_orbitals, call_retarded, none-held}
use Rattle.causality.specs.Solvers.{left-made, equal-n, Inside, read_left, rows_left}

-- what a Dyson call is given, as a run in slices laid out for its points, with no lesser self-energy, no lesser output and no scratch X
abbrev pub call_of : ℕ → ℕ → Float → List Float → List Float → List Float → List Float → List Float → Run
call_of points n tolerance times free self_energy retarded kernel =
    run_of empty (record { products = replicate 8 0 }) 0 (record { points = points; capacity = points; orbitals = n }) tolerance times free self_energy [] retarded [] kernel []

abbrev pub dyson_of : Run → Solved
dyson_of r = dyson_with_tolerance r.points r.orbitals r.tolerance r.times r.free r.self_energy r.retarded r.kernel

-- a run with another capacity, and one in slices laid out for its points
abbrev pub with_capacity : Run → ℕ → Run
with_capacity r capacity = with_shape r (record { points = r.points; capacity = capacity; orbitals = r.orbitals })

abbrev pub within : Run → Run
within r = with_capacity r r.points

-- what an accepted call leaves
pub left : (r : Run) → (dyson_of r).answer ≡ pass → (dyson_of r).retarded ≡ retarded_made 0 r.points (within r)
unfolding dyson_with_tolerance
left r accepted = left-made zeroed _ _ r.retarded accepted ∙ sym (green-all r.points r.orbitals r.times r.free r.self_energy r.retarded r.kernel)

unfoldable pub Blind : Run → Run → Type 0
Blind r r' =
    (k : ℕ) → Comparable k (within r) (within r') ((dyson_of r).answer ≡ pass) ((dyson_of r').answer ≡ pass) → SameRetarded k (within r) (within r') (dyson_of r).retarded (dyson_of r').retarded

pub zero-above : (r : Run) → (dyson_of r).answer ≡ pass → ZeroAbove (within r) (dyson_of r).retarded
unfolding new_retarded
zero-above r accepted t u a b less hu ha hb =
    rw (left r accepted)
    (read_left (within r) (call_retarded 0 r.points (within r)) r.retarded (le_refl r.points) t u (omega arith) hu a b ha hb
    ∙ above r.orbitals r.times (of (within r) r.free) (of (within r) (kernel_made 0 r.points (within r))) 0 (of (within r) r.retarded) t u a b less)
