-- Closed cases of appends onto one or two points, one orbital, in a capacity of 2 or 3: what is read of the old entries, 10, 16 and the order of lines.
use Rattle.std.specs.Prelude.{◌≡◌, ◌∷◌, ◌++◌, ◌-◌}
use Rattle.lists.specs.Prelude.{refl, List, [], map, ℕ, replicate, get_or, Float, nan}
use Rattle.two_time.specs.Example.{floats, bits}
use Rattle.complex.specs.Arithmetic.{plus_zero, one}
use Rattle.transient_run.specs.Form.Form.{empty}
use Rattle.transient_run.specs.Calls.{Run, run_of, Outcome, solved_number, append_point}
use Rattle.transient_run.specs.Computation.{run_computation}
use Rattle.transient_run.specs.P12 as P12

-- 1 on and below the diagonal, +0 above, and i everywhere, for two points in a capacity of 2
abbrev lower : List Float
lower = floats (0x3ff0000000000000 ∷ 0 ∷ 0 ∷ 0 ∷ 0x3ff0000000000000 ∷ 0 ∷ 0x3ff0000000000000 ∷ 0 ∷ [])

abbrev imaginary : List Float
imaginary = floats (0 ∷ 0x3ff0000000000000 ∷ 0 ∷ 0x3ff0000000000000 ∷ 0 ∷ 0x3ff0000000000000 ∷ 0 ∷ 0x3ff0000000000000 ∷ [])

-- old entries x at (0,0), and 7 elsewhere
abbrev held : Float → List Float
held x = x ∷ floats (0 ∷ 0x401c000000000000 ∷ 0x401c000000000000 ∷ 0x401c000000000000 ∷ 0x401c000000000000 ∷ 0x401c000000000000 ∷ 0x401c000000000000 ∷ [])

abbrev onto : ℕ → ℕ → Float → Float → Float → Float → Run
onto points capacity g l k x =
    record {
      form = empty;
      session = P12.opened;
      desk = 0;
      points = points;
      capacity = capacity;
      orbitals = 1;
      tolerance = one;
      times = floats (0 ∷ 0x3ff0000000000000 ∷ []);
      free = lower;
      self_energy = lower;
      lesser_self_energy = imaginary;
      retarded = held g;
      lesser = held l;
      kernel = held k;
      lesser_advanced = held x;
    }

abbrev seen : Run → List (List ℕ)
seen r = let o = append_point r in (solved_number o.answer ∷ []) ∷ bits o.retarded ∷ bits o.lesser ∷ bits o.kernel ∷ bits o.lesser_advanced ∷ []

abbrev number : Run → ℕ
number r = solved_number (append_point r).answer

-- onto G^R(0,0) = 1 and X(0,0) = 0: P12's second row and column; old G^< and K, here NaN, are not read and stay
second_point : seen (onto 1 2 one nan nan plus_zero) ≡
    (0 ∷ [])
    ∷ (0x3ff0000000000000 ∷ 0 ∷ 0 ∷ 0 ∷ 0x3ff8000000000000 ∷ 0 ∷ 0x3ff0000000000000 ∷ 0 ∷ [])
    ∷ (0x7ff8000000000000 ∷ 0 ∷ 0 ∷ 0 ∷ 0 ∷ 0 ∷ 0 ∷ 0x3ff9000000000000 ∷ [])
    ∷ (0x7ff8000000000000 ∷ 0 ∷ 0 ∷ 0 ∷ 0x3ff0000000000000 ∷ 0 ∷ 0 ∷ 0 ∷ [])
    ∷ (0 ∷ 0 ∷ 0 ∷ 0x3ff4000000000000 ∷ 0 ∷ 0 ∷ 0 ∷ 0x3ff4000000000000 ∷ []) ∷ []
unfolding run_computation
second_point = refl

-- a NaN at old G^R(0,0): 10, +0 at the new row and column of all four, the rest as it was
abbrev cleared : ℕ → List ℕ
cleared x = x ∷ 0 ∷ 0 ∷ 0 ∷ 0 ∷ 0 ∷ 0 ∷ 0 ∷ []

nan-read : seen (onto 1 2 nan one one one) ≡ (10 ∷ []) ∷ cleared 0x7ff8000000000000 ∷ cleared 0x3ff0000000000000 ∷ cleared 0x3ff0000000000000 ∷ cleared 0x3ff0000000000000 ∷ []
unfolding run_computation
nan-read = refl

-- at old X(0,0): 10 too. No room: 16, of the largest word too; before it 3 by the capacity's lengths, and 1 where no point was there
numbers : number (onto 1 2 one one one nan) ∷ number (onto 2 2 one one one one) ∷ number (onto 0xffff_ffff_ffff_ffff 2 one one one one) ∷ number (onto 2 3 one one one one) ∷ number (onto 0 2 one one one one) ∷ []
    ≡ 10 ∷ 16 ∷ 16 ∷ 3 ∷ 1 ∷ []
unfolding run_computation
numbers = refl

-- ---- onto two points in a capacity of 3, P12's inputs: buffers of +0 that hold a NaN at some numbers

abbrev nan_at : ℕ → List Float
nan_at i = replicate i plus_zero ++ nan ∷ replicate (17 - i) plus_zero

abbrev onto_two : List Float → List Float → List Float → List Float → Run
onto_two = run_of empty (record { products = replicate 8 0 }) 0 (record { points = 2; capacity = 3; orbitals = 1 }) one P12.times P12.lower P12.lower P12.imaginary

abbrev zeros : List Float
zeros = replicate 18 plus_zero

-- at old G^R(1,0), and at old X(0,1): 10, and the NaN stays
read : map (λ (o : Outcome). solved_number o.answer ∷ bits (get_or o.retarded 6 plus_zero ∷ get_or o.lesser_advanced 2 plus_zero ∷ []))
    (append_point (onto_two (nan_at 6) zeros zeros zeros) ∷ append_point (onto_two zeros zeros zeros (nan_at 2)) ∷ [])
    ≡ (10 ∷ 0x7ff8000000000000 ∷ 0 ∷ []) ∷ (10 ∷ 0 ∷ 0x7ff8000000000000 ∷ []) ∷ []
unfolding run_computation
read = refl

-- at old G^R(0,1), above the diagonal, G^<(1,1) and K(1,0): not read, accepted, and they stay
not-read : (let o = append_point (onto_two (nan_at 2) (nan_at 8) (nan_at 6) zeros) in
    solved_number o.answer ∷ bits (get_or o.retarded 2 plus_zero ∷ get_or o.lesser 8 plus_zero ∷ get_or o.kernel 6 plus_zero ∷ []))
    ≡ 0 ∷ 0x7ff8000000000000 ∷ 0x7ff8000000000000 ∷ 0x7ff8000000000000 ∷ []
unfolding run_computation
not-read = refl
