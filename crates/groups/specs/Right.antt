-- Where the right factor of a term stands, as it is stored or as the adjoint of what is stored. Assumes nothing.
use Rattle.std.specs.Prelude.{◌≡◌, ◌+◌, ◌*◌, ◌<◌}
use Rattle.lists.specs.Prelude.{refl, ap, ◌∙◌, List, ℕ, add-mul, add-zero, mul_left_comm, arith, Float}
use Rattle.complex.specs.Numbers.{entry_at}
use Rattle.block.specs.Operations.{adjoint}
use Rattle.two_time.specs.Layout.{place, read_as, length_of}
use Rattle.two_time.specs.Places.{Placed, entry-placed, within}
use Rattle.terms.specs.declared.Factor.{Factor}
use Rattle.terms.specs.declared.Factor.TheVariants.{Stored, Adjoint}
use Rattle.terms.specs.Kinds.{right_by, right_number}

-- where the number of entry (k, b) of the right factor at (s, u) stands
unfoldable pub right_place : Factor → ℕ → ℕ → ℕ → ℕ → ℕ → ℕ → ℕ
right_place Stored stride n s u k b = place stride n s u k b
right_place Adjoint stride n s u k b = place stride n u s b k

-- how far the number beside one stands from it: entry (k, b + 1) from entry (k, b), where a row has n; at one orbital entry (0, 0) of the next place,
-- where a row has as many as places
unfoldable pub right_beside : Factor → ℕ → ℕ
right_beside Stored n = 2
right_beside Adjoint n = 2 * n

pub right-read : (factor : Factor) (stride n : ℕ) (xs : List Float) (s u k b : ℕ)
    → right_number factor (entry_at xs (right_place factor stride n s u k b)) ≡ right_by factor (read_as stride n xs) s u k b
unfolding right_number right_place right_by adjoint
right-read Stored stride n xs s u k b = refl
right-read Adjoint stride n xs s u k b = refl

-- column b, from the first
pub beside-place : (factor : Factor) (stride n s u k b : ℕ) → right_place factor stride n s u k 0 + b * right_beside factor n ≡ right_place factor stride n s u k b
unfolding right_place right_beside
beside-place Stored stride n s u k b = omega arith
beside-place Adjoint stride n s u k b =
    let x = (u * stride + s) * n in
    omega (arith, ap (λ (m : ℕ). m * n) (add-zero x), add-mul x b n, mul_left_comm b 2 n)

-- it lies in its function
pub right-inside : (factor : Factor) {stride n s u k b : ℕ} → Placed stride n s u k b → right_place factor stride n s u k b + 1 < length_of stride n
unfolding right_place
right-inside Stored p = (within p).inside
right-inside Adjoint p =
    (within (record { first = p.second; second = p.first; row = p.column; column = p.row; stride_most = p.stride_most; orbitals-most = p.orbitals-most })).inside

-- a row of the right factor, from its first column
module _ (factor : Factor) {stride n s u a : ℕ} (q : Placed stride n s u a 0) (k j : ℕ) (step : k < n) (ej : j ≡ right_place factor stride n s u k 0) (b : ℕ) where
  pub row_inside : b < n → j + b * right_beside factor n + 1 < length_of stride n
  row_inside h = omega (arith, beside-place factor stride n s u k b, right-inside factor (entry-placed k b q step h))

  pub row_read : (xs : List Float) → right_number factor (entry_at xs (j + b * right_beside factor n)) ≡ right_by factor (read_as stride n xs) s u k b
  row_read xs =
      ap (λ (m : ℕ). right_number factor (entry_at xs (m + b * right_beside factor n))) ej ∙ ap (λ (m : ℕ). right_number factor (entry_at xs m)) (beside-place factor stride n s u k b)
      ∙ right-read factor stride n xs s u k b
