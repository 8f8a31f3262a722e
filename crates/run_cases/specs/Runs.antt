-- Closed cases of the transient run: two orbitals (reference/expected.py, case d), the order of its questions, and 10 by X and by G^<.
use Rattle.std.specs.Prelude.{Ok, Err, ◌≡◌, ◌∷◌, ◌++◌}
use Rattle.lists.specs.Prelude.{refl, List, [], map, ℕ, replicate, take, Float, nan, binary64}
use Rattle.std.specs.Float.Ieee as Ieee
use Rattle.complex.specs.Arithmetic.{plus_zero, one}
use Rattle.refusal.specs.Verdict.{by}
use Rattle.two_time.specs.declared.sums.Sums.TheVariants.{LesserAdvanced, Lesser}
use Rattle.two_time.specs.Sums.{sums_numbers}
use Rattle.two_time.specs.Computation.{computation}
use Rattle.two_time.specs.Example as Example
use Rattle.two_time.specs.Example.{floats, bits}
use Rattle.transient_run.specs.Form.Form.{empty}
use Rattle.transient_run.specs.Calls.{Run, run_of, solved_number, transient_run}
use Rattle.transient_run.specs.Computation.{run_computation}

-- ---- two orbitals, from the retarded function that the Dyson case gives

two-orbitals : (bits (sums_numbers LesserAdvanced 3 2 Example.times Example.lesser_self_energy (floats Example.retarded_bits)) ≡ Example.lesser_advanced_bits)
    × (bits (sums_numbers Lesser 3 2 Example.times (floats Example.retarded_bits) (floats Example.lesser_advanced_bits)) ≡ Example.lesser_bits)
unfolding computation
two-orbitals = (refl, refl)

-- ---- two points, one orbital: refusals

-- real numbers for (0,0), (0,1), (1,0), (1,1)
abbrev square : ℕ → ℕ → ℕ → ℕ → List Float
square a b c d = floats (a ∷ 0 ∷ b ∷ 0 ∷ c ∷ 0 ∷ d ∷ 0 ∷ [])

abbrev half : Float
half = Ieee.of_bits binary64 0x3fe0000000000000

abbrev none : List Float
none = square 0 0 0 0

abbrev ones : List Float
ones = replicate 8 one

abbrev on : List Float → Float → List Float → List Float → List Float → Run
on times tolerance free self_energy lesser_self_energy = run_of empty (record { products = replicate 8 0 }) 0 (record { points = 2; capacity = 2; orbitals = 1 }) tolerance times free self_energy lesser_self_energy ones ones ones ones

abbrev run : Float → List Float → List Float → List Float → Run
run = on (plus_zero ∷ one ∷ [])

-- the answer's number, and the first number that each slice holds afterwards
abbrev seen : Run → List ℕ
seen r = let o = transient_run r in solved_number o.answer ∷ bits (take 1 o.retarded ++ take 1 o.lesser ++ take 1 o.kernel ++ take 1 o.lesser_advanced)

-- 10 by X(0,1), where Σ^<(0,0) = 2^1023 meets G^A(0,1) = 2, and by G^<(1,1) alone, where G^R(1,0) = 2^600 meets X(0,1) = 2^699
overflow : seen (run one (square 0 0 0x4000000000000000 0) none (square 0x7fe0000000000000 0 0 0)) ∷ seen (run one (square 0 0 0x6570000000000000 0) none (square 0x4630000000000000 0 0 0)) ∷ []
    ≡ (10 ∷ 0 ∷ 0 ∷ 0 ∷ 0 ∷ []) ∷ (10 ∷ 0 ∷ 0 ∷ 0 ∷ 0 ∷ []) ∷ []
unfolding run_computation
overflow = refl

-- the largest number on every diagonal: no product of K at (0,0) and (1,1), of X at (0,0) and (1,0), of G^< at (0,0) and (0,1) is formed, and no other
-- block is but +0; and at half a step of +0, between 0 and 2^-1074, X(0,1) still forms Σ^<(0,0)·G^A(0,1)
abbrev largest : ℕ
largest = 0x7fefffffffffffff

one_point : seen (run one (square largest 0 0 largest) (square largest 0 0 largest) (square largest 0 0 0)) ∷ seen (on (floats (0 ∷ 1 ∷ [])) one (square 0 0 0x4000000000000000 0) none (square largest 0 0 0)) ∷ []
    ≡ (0 ∷ largest ∷ 0 ∷ 0 ∷ 0 ∷ []) ∷ (10 ∷ 0 ∷ 0 ∷ 0 ∷ 0 ∷ []) ∷ []
unfolding run_computation
one_point = refl

-- 7 of Σ^<, operand 2, before 8 and 9; 8 before 9; 9 of the retarded self-energy, operand 1; Σ^< need not be retarded
order : map (λ r. (transient_run r).answer) (run plus_zero none none (plus_zero ∷ nan ∷ replicate 6 one) ∷ run plus_zero (square 0 0x3ff0000000000000 0 0) none none
    ∷ run half none (square 0 0x3ff0000000000000 0 0) none ∷ run half none none (square 0 0x3ff0000000000000 0 0) ∷ [])
    ≡ Err (record { number = 7; operand = 2; first = 1; second = 0; part = plus_zero }) ∷ Err (by 8)
    ∷ Err (record { number = 9; operand = 1; first = 0; second = 1; part = one }) ∷ Ok 11 ∷ []
unfolding run_computation
order = refl
