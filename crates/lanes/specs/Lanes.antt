-- Lanes of a group of neighbouring places: where each stands, and the blocks that they are written out as.
use Rattle.std.specs.Prelude.{Ok, Err, ◌+◌, ◌*◌, ◌&&◌, ◌||◌, ◌∷◌, ◌++◌}
use Rattle.lists.specs.Prelude.{ℕ, Bool, cond, not, List, [], leb, ltb, eqb, length, get_or, Float, nan}
use Rattle.lists.specs.Indexed.{all_below, all_in, join}
use Rattle.complex.specs.declared.Complex.{Complex}
use Rattle.complex.specs.Arithmetic.{cfinite}
use Rattle.block.specs.Block.{lay_out}
use Rattle.two_time.specs.declared.sums.SumError.TheVariants.{Overflow, Unfit}
use Rattle.two_time.specs.Outcome.{SumsOutcome, summed_out}

-- lane c of row a
abbrev pub lane_at : List Float → ℕ → ℕ → Complex
lane_at xs a c = record { re = get_or xs (32 * a + c) nan; im = get_or xs (32 * a + (c + 16)) nan }

-- sixteen rows of sixteen lanes
unfoldable pub lanes_of : (ℕ → ℕ → Complex) → List Float
lanes_of f = join 16 (λ a. join 16 (λ c. (f a c).re ∷ []) ++ join 16 (λ c. (f a c).im ∷ []))

-- the first `count` lanes of the first n rows are f's, the others as they were
abbrev pub with_lanes : ℕ → ℕ → (ℕ → ℕ → Complex) → List Float → List Float
with_lanes n count f xs = lanes_of (λ a c. cond (ltb a n && ltb c count) (f a c) (lane_at xs a c))

-- row a of place p's block stands in lanes p·n to p·n + n − 1 of row a
abbrev pub laid_lanes : List Float → ℕ → ℕ → List Float
laid_lanes totals n places = join places (λ p. lay_out n n (λ a b. lane_at totals a (p * n + b)))

-- every entry of the places before `until` is finite
abbrev pub lanes_finite : List Float → ℕ → ℕ → ℕ → Bool
lanes_finite totals n places until = all_below places (λ p. all_in n n (λ a b. not (ltb p until) || cfinite (lane_at totals a (p * n + b))))

-- `write_group`: at most 16 lanes, and slices of their length
unfoldable pub written : List Float → ℕ → ℕ → ℕ → List Float → SumsOutcome
written totals n places until out =
    let fits = (leb n 16 && leb places 16) && (leb (places * n) 16 && (eqb (length totals) 512 && eqb (length out) (places * (2 * (n * n))))) in
    let answer = cond fits (cond (lanes_finite totals n places until) (Ok tt) (Err Overflow)) (Err Unfit) in
    record { answer = answer; out = summed_out answer (laid_lanes totals n places) out }
