-- The questions of a run file as the code asks them, and the sizes of a file that passes checks 1 and 2. Assumes nothing.
use Rattle.std.specs.Prelude.{Err, ◌≡◌, ◌&&◌, ◌∷◌, ◌+◌, ◌*◌, ◌≤◌}
use Rattle.lists.specs.Prelude.{sym, ap, ◌∙◌, Bool, List, [], ℕ, min, le_refl, mul-le-mul, mul_assoc, mul_comm, min-eq_left, arith, leb}
use Rattle.lists.specs.Prelude.{eqb, length, leb-true}
use Rattle.lists.specs.Agreement.{both}
use Rattle.refusal.specs.declared.Refusal.{Refusal}
use Rattle.refusal.specs.Verdict.{pass, Verdict, by, ◌then◌}
use Rattle.refusal.specs.Checks.{large_enough, within_program, well_formed}
use Rattle.refusal.specs.Agreement.{ask_pass, then-pass, then-after, then-refused}
use Rattle.two_time.specs.Layout.{length_of}
use Rattle.run_file.specs.Bytes.{u32}
use Rattle.run_file.specs.File.{points_of, orbitals_of, counts, table_fits, head_checks, file_checks}

-- ---- the table

module _ (bytes : List ℕ) where
  -- a row names its body's start and count
  abbrev pub row_fits : ℕ → ℕ → ℕ → Bool
  row_fits row start count = eqb (u32 (8 + 8 * row) bytes) start && eqb (u32 (12 + 8 * row) bytes) count

  pub table_rows : (points each : ℕ) (a b c d : Bool) → a ≡ row_fits 0 40 points → b ≡ row_fits 1 (40 + 8 * points) each → c ≡ row_fits 2 (40 + 8 * points + 8 * each) each
      → d ≡ row_fits 3 (40 + 8 * points + 8 * each + 8 * each) each → (e : ℕ) → each ≡ e
      → a && (b && (c && (d && eqb (length bytes) (40 + 8 * points + 8 * each + 8 * each + 8 * each)))) ≡ table_fits bytes 0 40 (points ∷ e ∷ e ∷ e ∷ [])
  unfolding table_fits
  table_rows points each a b c d p q r s e same = rw (p, q, r, s, same)

-- ---- sizes that the program takes

pub record Sized (points orbitals : ℕ) : Type 0 where
  pub few-points : points ≤ 16
  pub few-orbitals : orbitals ≤ 16
  pub few-numbers : length_of points orbitals ≤ 512

-- the sizes that a well-formed file names
pub record FileSizes (points orbitals : ℕ) (bytes : List ℕ) : Type 0 where
  pub points_named : points ≡ points_of bytes
  pub orbitals_named : orbitals ≡ orbitals_of bytes
  pub sizes : Sized points orbitals

-- a length that is not cut
pub uncut : {points orbitals : ℕ} → Sized points orbitals → length_of (min points 256) (min orbitals 16) ≡ length_of points orbitals
uncut {points} z = rw (min-eq_left {n = points} {m = 256} (omega arith), min-eq_left z.few-orbitals)

doubled : (p o : ℕ) → 2 * p * p * o * o ≡ 2 * (p * o * (p * o))
doubled p o =
    let half : 2 * p * p * o * o ≡ 2 * p * (p * o * o) = ap (λ (x : ℕ). x * o) (mul_assoc (2 * p) p o) ∙ mul_assoc (2 * p) (p * o) o in
    half ∙ ap (λ (x : ℕ). 2 * p * x) (mul_comm (p * o) o) ∙ sym (mul_assoc (2 * p) o (p * o)) ∙ ap (λ (x : ℕ). x * (p * o)) (mul_assoc 2 p o) ∙ mul_assoc 2 (p * o) (p * o)

pub sized : (points orbitals : ℕ) → large_enough points orbitals ≡ pass → within_program points orbitals ≡ pass → Sized points orbitals
unfolding large_enough within_program
sized points orbitals h l =
    let large = both (leb 2 points) (leb 1 orbitals) (ask_pass _ (by 1) h) in
    let most : points * orbitals ≤ 16 = leb-true _ _ (ask_pass _ (by 2) l) in
    let p : 1 ≤ points = omega (arith, leb-true 2 points large.0) in
    let o : 1 ≤ orbitals = leb-true 1 orbitals large.1 in
    let rows : points * 1 ≤ points * orbitals = mul-le-mul {n₁ = points} {m₁ = 1} {n₂ = points} {m₂ = orbitals} (le_refl points) o in
    let columns : 1 * orbitals ≤ points * orbitals = mul-le-mul {n₁ = 1} {m₁ = orbitals} {n₂ = points} {m₂ = orbitals} p (le_refl orbitals) in
    let squared : points * orbitals * (points * orbitals) ≤ 16 * 16 = mul-le-mul {n₁ = points * orbitals} {m₁ = points * orbitals} {n₂ = 16} {m₂ = 16} most most in
    record { few-points = omega arith; few-orbitals = omega arith; few-numbers = rw (doubled points orbitals) (omega arith) }

-- ---- the order

module _ (bytes : List ℕ) where
  pub head_is : {v a b c d : Verdict} {points orbitals : ℕ} → v ≡ (a then b) → a ≡ well_formed (leb 40 (length bytes)) → b ≡ (c then d) → c ≡ large_enough points orbitals
      → d ≡ within_program points orbitals → points ≡ points_of bytes → orbitals ≡ orbitals_of bytes → v ≡ head_checks bytes
  head_is e f g h i j k = rw (e, f, g, h, i, j, k)

  pub head_refused : {v : Verdict} {r : Refusal} → v ≡ head_checks bytes → v ≡ Err r → v ≡ file_checks bytes
  unfolding file_checks
  head_refused {v} {r} e p = p ∙ sym (then-refused (head_checks bytes) _ r (sym e ∙ p))

  pub head_passed : {v w : Verdict} → v ≡ head_checks bytes → v ≡ pass → w ≡ well_formed (table_fits bytes 0 40 (counts bytes)) → w ≡ file_checks bytes
  unfolding file_checks
  head_passed e p q = q ∙ sym (then-after (head_checks bytes) _ (sym e ∙ p))

  pub head_sized : head_checks bytes ≡ pass → Sized (points_of bytes) (orbitals_of bytes)
  head_sized p = let limits = then-pass _ _ (then-pass _ _ p).1 in sized _ _ limits.0 limits.1

  pub file-sized : file_checks bytes ≡ pass → Sized (points_of bytes) (orbitals_of bytes)
  unfolding file_checks
  file-sized h = head_sized (then-pass (head_checks bytes) _ h).0
