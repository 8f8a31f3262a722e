-- Closed cases of the Dyson call: P11 of document 01, a run with two orbitals (reference/expected.py, case c), and each refusal of its own.
use Rattle.std.specs.Prelude.{Err, ◌≡◌, ◌∷◌, ◌++◌}
use Rattle.lists.specs.Prelude.{refl, List, [], ℕ, replicate, take, Float, binary64}
use Rattle.std.specs.Float.Ieee as Ieee
use Rattle.complex.specs.Arithmetic.{plus_zero, one}
use Rattle.refusal.specs.Verdict.{pass, Verdict, number_of}
use Rattle.support.specs.Support.{scale_of, residual, retarded}
use Rattle.two_time.specs.Computation.{computation}
use Rattle.two_time.specs.Example as Example
use Rattle.two_time.specs.Example.{floats, bits}
use Rattle.dyson.specs.Retarded.{solve, retarded_onward, retarded_numbers, retarded_finite}
use Rattle.dyson.specs.Calls.{Solved, Equation, equation_of, kernel_of, retarded_of, support_checks, solved_finite, dyson_verdict, dyson_with_tolerance}

-- what cases of Dyson calls compute with
unfoldable pub dyson_computation : Unit {0}
unfolding computation scale_of residual retarded support_checks solve retarded_onward retarded_numbers retarded_finite solved_finite dyson_verdict dyson_with_tolerance
dyson_computation = tt

abbrev half : Float
half = Ieee.of_bits binary64 0x3fe0000000000000

-- ---- one orbital: P11

-- 1 on and below the diagonal, +0 above
abbrev lower : List Float
lower = floats (0x3ff0000000000000 ∷ 0 ∷ 0 ∷ 0 ∷ 0 ∷ 0 ∷ 0x3ff0000000000000 ∷ 0 ∷ 0x3ff0000000000000 ∷ 0 ∷ 0 ∷ 0 ∷ 0x3ff0000000000000 ∷ 0 ∷ 0x3ff0000000000000 ∷ 0 ∷ 0x3ff0000000000000 ∷ 0 ∷ [])

abbrev p11-run : Solved
p11-run = dyson_with_tolerance 3 1 half (floats (0 ∷ 0x3ff0000000000000 ∷ 0x4000000000000000 ∷ [])) lower lower (replicate 18 one) (replicate 18 one)

-- "K(2,0) = 2, G(1,0) = 1.5, G(2,0) = 3.5"
p11 : (p11-run.answer ≡ pass)
    × (bits p11-run.retarded ≡ 0x3ff0000000000000 ∷ 0 ∷ 0 ∷ 0 ∷ 0 ∷ 0 ∷ 0x3ff8000000000000 ∷ 0 ∷ 0x3ff0000000000000 ∷ 0 ∷ 0 ∷ 0 ∷ 0x400c000000000000 ∷ 0 ∷ 0x3ff8000000000000 ∷ 0 ∷ 0x3ff0000000000000 ∷ 0 ∷ [])
    × (bits p11-run.kernel ≡ 0 ∷ 0 ∷ 0 ∷ 0 ∷ 0 ∷ 0 ∷ 0x3ff0000000000000 ∷ 0 ∷ 0 ∷ 0 ∷ 0 ∷ 0 ∷ 0x4000000000000000 ∷ 0 ∷ 0x3ff0000000000000 ∷ 0 ∷ 0 ∷ 0 ∷ [])
unfolding dyson_computation
p11 = (refl, refl, refl)

-- two orbitals
abbrev example : Equation
example = equation_of 3 2 Example.times Example.free Example.self_energy

two-orbitals : (bits (kernel_of example) ≡ Example.kernel_bits)
    × (bits (retarded_of example) ≡ Example.retarded_bits)
unfolding dyson_computation
two-orbitals = (refl, refl)

-- ---- refusals, with two points

-- numbers for (0,0), (0,1), (1,0), (1,1), each real
abbrev square : ℕ → ℕ → ℕ → ℕ → List Float
square a b c d = floats (a ∷ 0 ∷ b ∷ 0 ∷ c ∷ 0 ∷ d ∷ 0 ∷ [])

-- the answer and the first numbers of what is left in slices that held ones
abbrev seen : Float → List Float → List Float → List ℕ
seen tolerance free self_energy =
    let s = dyson_with_tolerance 2 1 tolerance (plus_zero ∷ one ∷ []) free self_energy (replicate 8 one) (replicate 8 one) in
    number_of s.answer ∷ bits (take 1 s.retarded ++ take 1 s.kernel)

-- 8 before 9; 9 for free, then for the self-energy; 10 by a product of K, 2^1023·2 at (1,0), and by G alone, where K(1,0) = 2^1021 meets G(0,0) = 2^10
refused : seen plus_zero (square 0 0x3ff0000000000000 0 0) (square 0 0 0 0) ∷ seen half (square 0 0x3ff0000000000000 0 0) (square 0 0x3ff0000000000000 0 0)
    ∷ seen half (square 0 0 0 0) (square 0 0x3ff0000000000000 0 0)
    ∷ seen half (square 0 0 0x7fe0000000000000 0) (square 0x4000000000000000 0 0 0)
    ∷ seen half (square 0x4090000000000000 0 0x7fd0000000000000 0) (square 0x3ff0000000000000 0 0 0) ∷ []
    ≡ (8 ∷ 0x3ff0000000000000 ∷ 0x3ff0000000000000 ∷ []) ∷ (9 ∷ 0x3ff0000000000000 ∷ 0x3ff0000000000000 ∷ []) ∷ (9 ∷ 0x3ff0000000000000 ∷ 0x3ff0000000000000 ∷ [])
    ∷ (10 ∷ 0 ∷ 0 ∷ []) ∷ (10 ∷ 0 ∷ 0 ∷ []) ∷ []
unfolding dyson_computation
refused = refl

-- the product 2^1023·2 of K at (0,0) is not formed: that interval has one point
one_point : seen half (square 0x7fe0000000000000 0 0 0) (square 0x4000000000000000 0 0 0) ≡ 0 ∷ 0x7fe0000000000000 ∷ 0 ∷ []
unfolding dyson_computation
one_point = refl

-- operand 0 is free, operand 1 the self-energy
abbrev refusal : List Float → List Float → Verdict
refusal free self_energy = dyson_verdict (equation_of 2 1 (plus_zero ∷ one ∷ []) free self_energy) half (replicate 8 one) (replicate 8 one)

operands : refusal (square 0 0x3ff0000000000000 0 0) (square 0 0x3ff0000000000000 0 0) ∷ refusal (square 0 0 0 0) (square 0 0x3ff0000000000000 0 0) ∷ []
    ≡ Err (record { number = 9; operand = 0; first = 0; second = 1; part = one }) ∷ Err (record { number = 9; operand = 1; first = 0; second = 1; part = one }) ∷ []
unfolding dyson_computation
operands = refl
