-- Closed cases of a dot that starts occupied (document 02, L5): P12's first two points with g0 = i and its third appended; an isolated dot that keeps its
-- occupation; the lines of the block in their order; 10 by each product of the start; a counter with room for the empty form alone.
use Rattle.std.specs.Prelude.{Result, Ok, Err, ◌≡◌, ◌∷◌, ◌-◌}
use Rattle.lists.specs.Prelude.{refl, List, [], map, ℕ, set, replicate, Float, nan}
use Rattle.complex.specs.Arithmetic.{plus_zero, one}
use Rattle.refusal.specs.declared.Refusal.{Refusal}
use Rattle.refusal.specs.Checks.{not_empty, within_block}
use Rattle.matrix.specs.declared.DenseMatrix.{DenseMatrix}
use Rattle.two_time.specs.Example.{floats, bits}
use Rattle.transient_run.specs.declared.Session.{Session}
use Rattle.transient_run.specs.Form.{Form}
use Rattle.transient_run.specs.Form.Form.{empty, occupied}
use Rattle.transient_run.specs.Calls.{Run, run_of, Outcome, transient_run, append_point}
use Rattle.transient_run.specs.Computation.{run_computation}
use Rattle.transient_run.specs.P12 as P12

abbrev block : ℕ → ℕ → List ℕ → Form
block rows columns values = occupied (record { rows = rows; columns = columns; values = floats values })

-- the count of an accepted call, or the number, operand and position of its refusal
unfoldable told : Result ℕ Refusal → List ℕ
told (Ok count) = 0 ∷ count ∷ []
told (Err r) = r.number ∷ r.operand ∷ r.first ∷ []

abbrev seen : Outcome → List (List ℕ)
seen o = told o.answer ∷ bits o.retarded ∷ bits o.lesser ∷ bits o.kernel ∷ bits o.lesser_advanced ∷ []

-- i, and what stands beyond the block
abbrev i : Form
i = block 1 1 (0 ∷ 0x3ff0000000000000 ∷ 0x7ff8000000000000 ∷ [])

-- ---- P12's first two points in a capacity of 3, and its third

abbrev two_of : Run
two_of = let before = replicate 18 one in run_of i P12.opened 0 (record { points = 2; capacity = 3; orbitals = 1 }) one P12.times P12.lower P12.lower P12.imaginary before before before before

abbrev third_of : Run
third_of = let o = transient_run two_of in run_of i P12.opened 0 (record { points = 2; capacity = 3; orbitals = 1 }) one P12.times P12.lower P12.lower P12.imaginary o.retarded o.lesser o.kernel o.lesser_advanced

-- G^<: i, 1.5i, 3.5i; 1.5i, 3.8125i, 9.9375i; 3.5i, 9.9375i, 26.3125i. It counts 19, which is 11 and 2·2·2, and then 40, which is 30 and 2·5
appended : told (transient_run two_of).answer ∷ seen (append_point third_of) ≡
    (0 ∷ 19 ∷ []) ∷ (0 ∷ 40 ∷ []) ∷ P12.retarded_bits
    ∷ (0 ∷ 0x3ff0000000000000 ∷ 0 ∷ 0x3ff8000000000000 ∷ 0 ∷ 0x400c000000000000 ∷
    0 ∷ 0x3ff8000000000000 ∷ 0 ∷ 0x400e800000000000 ∷ 0 ∷ 0x4023e00000000000 ∷
    0 ∷ 0x400c000000000000 ∷ 0 ∷ 0x4023e00000000000 ∷ 0 ∷ 0x403a500000000000 ∷ [])
    ∷ P12.kernel_bits ∷ P12.lesser_advanced_bits ∷ []
unfolding run_computation not_empty within_block told
appended = refl

-- ---- two points, one orbital

abbrev on : Form → List ℕ → List ℕ → Run
on form free lesser_self_energy =
    let none = replicate 8 plus_zero in
    let before = replicate 8 one in
    run_of form P12.opened 0 (record { points = 2; capacity = 2; orbitals = 1 }) one (plus_zero ∷ one ∷ []) (floats free) none (floats lesser_self_energy) before before before before

abbrev nothing : List ℕ
nothing = replicate 8 0

-- an isolated dot, G0 = −i on and below the diagonal: with g0 = 0.3i its occupation is 0.3 at each time, G^< = 0.3i
abbrev isolated : List ℕ
isolated = 0 ∷ 0xbff0000000000000 ∷ 0 ∷ 0 ∷ 0 ∷ 0xbff0000000000000 ∷ 0 ∷ 0xbff0000000000000 ∷ []

kept : (let o = transient_run (on (block 1 1 (0 ∷ 0x3fd3333333333333 ∷ [])) isolated nothing) in told o.answer ∷ bits o.lesser ∷ [])
    ≡ (0 ∷ 19 ∷ []) ∷ (0 ∷ 0x3fd3333333333333 ∷ 0 ∷ 0x3fd3333333333333 ∷ 0 ∷ 0x3fd3333333333333 ∷ 0 ∷ 0x3fd3333333333333 ∷ []) ∷ []
unfolding run_computation not_empty within_block told
kept = refl

-- lines 1, 2 and 3 of the block, line by line; 7 with operand 3 and its position, after that of the lesser self-energy; 9 of free comes after it
abbrev late : List ℕ
late = 0 ∷ 0 ∷ 0x3ff0000000000000 ∷ 0x3ff0000000000000 ∷ 0 ∷ 0 ∷ 0 ∷ 0 ∷ []

lines : map (λ (r : Run). told (transient_run r).answer) (
    on (block 0 17 []) isolated nothing ∷ on (block 17 1 []) isolated nothing ∷ on (block 2 1 (nothing)) isolated nothing
    ∷ on (block 1 1 (0 ∷ 0x7ff8000000000000 ∷ [])) isolated nothing ∷ on (block 1 1 (0 ∷ 0x7ff0000000000000 ∷ [])) late (0x7ff0000000000000 ∷ 0 ∷ 0 ∷ 0 ∷ 0 ∷ 0 ∷ 0 ∷ 0 ∷ [])
    ∷ on (block 1 1 (0x7ff0000000000000 ∷ 0 ∷ [])) late nothing ∷ [])
    ≡ (1 ∷ 0 ∷ 0 ∷ []) ∷ (2 ∷ 0 ∷ 0 ∷ []) ∷ (3 ∷ 0 ∷ 0 ∷ []) ∷ (7 ∷ 3 ∷ 1 ∷ []) ∷ (7 ∷ 2 ∷ 0 ∷ []) ∷ (7 ∷ 3 ∷ 0 ∷ []) ∷ []
unfolding run_computation not_empty within_block told
lines = refl

-- free 2 at (0,0): the first product of the start is not finite for the largest g0; with free 2 at (1,0) and 1 at (0,0) the second at (0,1) is not. 10, and
-- every slice holds +0
abbrev largest : Form
largest = block 1 1 (0x7fefffffffffffff ∷ 0 ∷ [])

overflows : map (λ (r : Run). seen (transient_run r)) (
    on largest (0x4000000000000000 ∷ 0 ∷ 0 ∷ 0 ∷ 0 ∷ 0 ∷ 0 ∷ 0 ∷ []) nothing ∷ on largest (0x3ff0000000000000 ∷ 0 ∷ 0 ∷ 0 ∷ 0x4000000000000000 ∷ 0 ∷ 0 ∷ 0 ∷ []) nothing ∷ [])
    ≡ (let cleared = (10 ∷ 0 ∷ 0 ∷ []) ∷ nothing ∷ nothing ∷ nothing ∷ nothing ∷ [] in cleared ∷ cleared ∷ [])
unfolding run_computation not_empty within_block told
overflows = refl

-- ---- 17: P12 counts 41, with a block 18 more. At 2^64 − 1 − 41 there is room for the empty form alone, g0 at +0 or not

abbrev at : ℕ → Session
at products = record { products = set (replicate 8 0) 3 products }

abbrev whole : Form → ℕ → Run
whole form products = let before = replicate 18 one in run_of form (at products) 3 (record { points = 3; capacity = 3; orbitals = 1 }) one P12.times P12.lower P12.lower P12.imaginary before before before before

room : told (transient_run (whole empty (0xffff_ffff_ffff_ffff - 41))).answer ∷ told (transient_run (whole (block 1 1 (0 ∷ 0 ∷ [])) (0xffff_ffff_ffff_ffff - 41))).answer
    ∷ told (transient_run (whole i (0xffff_ffff_ffff_ffff - 59))).answer ∷ [] ≡ (0 ∷ 41 ∷ []) ∷ (17 ∷ 0 ∷ 0 ∷ []) ∷ (0 ∷ 59 ∷ []) ∷ []
unfolding run_computation not_empty within_block told
room = refl
