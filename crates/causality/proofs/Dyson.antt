-- Demand 3 of Dyson calls. Assumes nothing.
use Rattle.std.specs.Prelude.{◌≡◌}
use Rattle.lists.specs.Prelude.{subst, le_refl}
use Rattle.dyson.specs.Retarded.{new_retarded}
use Rattle.dyson.specs.Recursion.{above}
use Rattle.transient_run.specs.Calls.{Run}
use Rattle.causality.specs.Statement.{DysonDemanded}
use Rattle.causality.specs.Made.{with_orbitals, call_retarded, none-held}
use Rattle.causality.proofs.Made.{retarded-rows}
use Rattle.causality.specs.Solvers.{equal-n, Inside, rows_left}
use Rattle.causality.specs.Dyson.{dyson_of, with_capacity, within, left, Blind, zero-above}

one-n : (r r' : Run) → Blind r (with_orbitals r' r.orbitals)
unfolding Blind new_retarded
one-n r r₀ k c =
    let r' = with_orbitals r₀ r.orbitals in
    let h : Inside k (within r) = (c.within, le_refl r.points) in
    let h' : Inside k (within r₀) = (c.within', le_refl r₀.points) in
    rw (left r c.accepted, left r' c.accepted')
    (rows_left k (within r) (within r₀) h h' (call_retarded 0 r.points (within r)) (call_retarded 0 r₀.points (within r')) r.retarded r₀.retarded
    (retarded-rows k 0 r.points r₀.points (within r) (within r₀) h.0 h.1 h'.0 h'.1 c.same (none-held k r₀.points (within r) (within r'))))

blind : (r r' : Run) → Blind r r'
unfolding Blind
blind r r' k c = equal-n Blind one-n r r' c.same.orbitals k c

-- the layout of Dyson calls is that of N: their capacity is their N
pub dyson_demand : (r r' : Run) → r.points ≡ r.capacity → r'.points ≡ r'.capacity → DysonDemanded r r' (dyson_of r) (dyson_of r')
unfolding Blind
dyson_demand r r' e e' =
    subst (λ (x : Run). DysonDemanded x r' (dyson_of x) (dyson_of r')) (λ i. with_capacity r (e i))
    (subst (λ (x : Run). DysonDemanded (within r) x (dyson_of r) (dyson_of x)) (λ i. with_capacity r' (e' i)) (record { blind = blind r r'; above = zero-above r; above' = zero-above r' }))
