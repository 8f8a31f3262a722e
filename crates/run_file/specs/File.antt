-- Document 01, run file: "N, n as u32; a contents table of four rows (times, free, retarded self-energy, Σ^<), each u32 byte offset and u32
-- count of numbers; then bodies, eight bytes a number. Well formed: at least 40 bytes, and, once lines 1 and 2 pass, bodies adjoin in table
-- order from byte 40, counts match, length is exact."
use Rattle.std.specs.Prelude.{◌+◌, ◌*◌, ◌&&◌, ◌∷◌}
use Rattle.lists.specs.Prelude.{ℕ, suc, Bool, List, [], leb, eqb, length, replicate}
use Rattle.complex.specs.Arithmetic.{plus_zero}
use Rattle.refusal.specs.Verdict.{pass, Verdict, ◌then◌}
use Rattle.refusal.specs.Checks.{large_enough, within_program, well_formed}
use Rattle.two_time.specs.declared.capacity.Shape.{Shape}
use Rattle.two_time.specs.Layout.{length_of}
use Rattle.dyson.specs.Calls.{default_tolerance}
use Rattle.transient_run.specs.declared.Session.{Session}
use Rattle.transient_run.specs.Form.Form.{empty}
use Rattle.transient_run.specs.Calls.{Run, run_of}
use Rattle.run_file.specs.Bytes.{u32, numbers}

-- N points and n orbitals: the program's capacity is N
abbrev pub shape_of : ℕ → ℕ → Shape
shape_of points orbitals = record { points = points; capacity = points; orbitals = orbitals }

-- the program's session: every desk's counter is opened at 0, and its run is at desk 0
abbrev pub opened : Session
opened = record { products = replicate 8 0 }

module _ (bytes : List ℕ) where
  abbrev pub points_of : ℕ
  points_of = u32 0 bytes

  abbrev pub orbitals_of : ℕ
  orbitals_of = u32 4 bytes

  -- the counts of numbers that the four bodies have, in table order
  abbrev pub counts : List ℕ
  counts =
      let each = length_of points_of orbitals_of in
      points_of ∷ each ∷ each ∷ each ∷ []

  -- From row `row` of the table on, whose body is to start at byte `start`: each row names its body's start and count, the bodies adjoin,
  -- and the last ends where the bytes do.
  unfoldable pub table_fits : ℕ → ℕ → List ℕ → Bool
  table_fits row start [] = eqb (length bytes) start
  table_fits row start (count ∷ rest) =
      (eqb (u32 (8 + 8 * row) bytes) start && eqb (u32 (12 + 8 * row) bytes) count) && table_fits (suc row) (start + 8 * count) rest

  -- 15 before check 1, checks 1 and 2 "even where the rest is ill formed"
  abbrev pub head_checks : Verdict
  head_checks = well_formed (leb 40 (length bytes)) then large_enough points_of orbitals_of then within_program points_of orbitals_of

  -- then 15; checks 4 to 10 are the run's own
  unfoldable pub file_checks : Verdict
  file_checks = head_checks then well_formed (table_fits 0 40 counts)

  -- the run of a well-formed file, with the tolerance 1e-12, in buffers that hold +0
  unfoldable pub file_run : Run
  file_run =
      let each = length_of points_of orbitals_of in
      let free = 40 + 8 * points_of in
      let zeros = replicate each plus_zero in
      run_of empty opened 0 (shape_of points_of orbitals_of) default_tolerance (numbers 40 points_of bytes)
      (numbers free each bytes) (numbers (free + 8 * each) each bytes) (numbers (free + 16 * each) each bytes) zeros zeros zeros zeros
