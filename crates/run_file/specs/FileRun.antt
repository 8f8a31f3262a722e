-- The run of a file, and the text of its answer. Assumes nothing.
use Rattle.std.specs.Prelude.{Result, ◌≡◌, ◌∷◌, ◌+◌, ◌*◌, ◌≤◌}
use Rattle.lists.specs.Prelude.{refl, sym, ap, ◌∙◌, List, ℕ, zero, suc, zero-mul, not-suc-le-zero, le_of_suc-le-suc, arith, length, take, replicate}
use Rattle.lists.specs.Prelude.{length-replicate, length-append, le-leb, Float}
use Rattle.lists.specs.Filling.{over}
use Rattle.complex.specs.Arithmetic.{plus_zero}
use Rattle.refusal.specs.declared.Refusal.{Refusal}
use Rattle.refusal.specs.Verdict.{pass, Verdict, by, ask}
use Rattle.refusal.specs.Checks.{counter_holds, desk_known}
use Rattle.refusal.specs.Agreement.{ask_yes}
use Rattle.two_time.specs.Layout.{length_of}
use Rattle.dyson.specs.Calls.{default_tolerance}
use Rattle.transient_run.specs.declared.Session.{Session}
use Rattle.transient_run.specs.Products.{formed, formed-count, steps}
use Rattle.transient_run.specs.Form.Form.{empty}
use Rattle.transient_run.specs.Calls.{Run, counter_of, run_of, transient_run}
use Rattle.run_file.specs.Bytes.{numbers}
use Rattle.run_file.specs.File.{shape_of, opened, points_of, file_checks, file_run}
use Rattle.run_file.specs.Table.{FileSizes, file-sized}
use Rattle.run_file.specs.Program.{solved_text, run_answer, file_text, printed}
use Rattle.run_file.specs.Appended.{Appended, as_text, whole-text}

-- the run that the code calls is the file's
pub decoded-run : {points orbitals : ℕ} {bytes : List ℕ} → FileSizes points orbitals bytes → {session : Session} {times free self_energy lesser_self_energy zeros : List Float} → let each = length_of points orbitals in
    session ≡ opened → times ≡ numbers 40 points bytes → free ≡ numbers (40 + 8 * points) each bytes → self_energy ≡ numbers (40 + 8 * points + 8 * each) each bytes
    → lesser_self_energy ≡ numbers (40 + 8 * points + 16 * each) each bytes → zeros ≡ replicate each plus_zero
    → run_of empty session 0 (shape_of points orbitals) default_tolerance times free self_energy lesser_self_energy zeros zeros zeros zeros ≡ file_run bytes
unfolding file_run
decoded-run s o h i j k z = rw (o, h, i, j, k, z, s.points_named, s.orbitals_named)

-- its desk is known and has room for its products, so it is never refused by 22 or 17
pub file-counted : (bytes : List ℕ) → file_checks bytes ≡ pass → let r = file_run bytes in (desk_known r.desk ≡ pass) × (counter_holds (counter_of r.session r.desk) (formed 0 0 r.points) ≡ pass)
unfolding file_run counter_holds desk_known ask
file-counted bytes h =
    let points = points_of bytes in
    let few = (file-sized bytes h).few-points in
    let most = steps points (omega arith) in
    let pyramid = most.pyramid-most in
    let slab = most.slab-most in
    (refl, ask_yes _ (by 17) (le-leb (0 + formed 0 0 points) 0xffff_ffff_ffff_ffff (let e = formed-count 0 points in let z = zero-mul (points * points) in omega arith)))

-- what its answer prints
pub answer-printed : (r : Run) {answer : Result ℕ Refusal} {lesser : List Float} → answer ≡ (transient_run r).answer → lesser ≡ (transient_run r).lesser
    → solved_text r.points r.orbitals r.tolerance answer lesser ≡ run_answer r
unfolding run_answer
answer-printed r a l = rw (a, l)

-- ---- a part of an array that holds +0

part_same : (k n : ℕ) → k ≤ n → take k (replicate n plus_zero) ≡ replicate k plus_zero
part_same zero n h = refl
part_same (suc k) zero h = absurd (not-suc-le-zero h)
part_same (suc k) (suc n) h = ap (λ (xs : List Float). plus_zero ∷ xs) (part_same k n (le_of_suc-le-suc h))

module _ (most : ℕ) {each count : ℕ} (e : (each ≡ count) × (each ≤ most)) where
  pub part-zero : take each (replicate most plus_zero) ≡ replicate count plus_zero
  part-zero = part_same each most e.1 ∙ rw e.0

  pub part-long : length (take each (replicate most plus_zero)) ≡ count
  part-long = ap length (part_same each most e.1) ∙ length-replicate each plus_zero ∙ e.0

  pub part-whole : each ≡ length (take each (replicate most plus_zero))
  part-whole = e.0 ∙ sym part-long

-- ---- the text over the start of an array

pub text-printed : (bytes : List ℕ) {out out' : List ℕ} {ended : ℕ} {v : Verdict} → v ≡ file_checks bytes → Appended out out' 0 ended (file_text v (file_run bytes))
    → (ended ≡ length (printed bytes)) × (out' ≡ over out (printed bytes))
unfolding printed
text-printed bytes e x = whole-text (as_text (ap (λ (v : Verdict). file_text v (file_run bytes)) e) x)

-- it lies in the array
pub text-within : (bytes out : List ℕ) {out' : List ℕ} {ended : ℕ} → ended ≡ length (printed bytes) → out' ≡ over out (printed bytes) → ended ≤ length out'
unfolding over
text-within bytes out e h = rw (e, h) (simp length-append (omega arith))
