-- A slice that is written part by part, each of one width. Assumes nothing.
use Rattle.std.specs.Prelude.{◌≡◌, ◌+◌, ◌*◌, ◌≤◌, ◌<◌}
use Rattle.lists.specs.Prelude.{sym, ap, ◌∙◌, List, ℕ, suc-mul, mul-le-mul_right, mul_assoc, mul_left_comm, length, Float}
use Rattle.lists.specs.Indexed.{join}
use Rattle.lists.specs.Reading.{length-join}
use Rattle.lists.specs.Filling.{over, over-all}
use Rattle.two_time.specs.Layout.{length_of}

module _ (width : ℕ) (part : ℕ → List Float) (wide : (k : ℕ) → length (part k) ≡ width) where
  pub length-parts : (k : ℕ) → length (join k part) ≡ k * width
  length-parts k = length-join k width part (λ q l. wide q)

  -- all of them
  pub parts_laid : (count : ℕ) (d out : List Float) (k : ℕ) → k ≡ count → length d ≡ count * width → out ≡ over d (join k part) → out ≡ join count part
  parts_laid count d out k e long h = h ∙ ap (λ (m : ℕ). over d (join m part)) e ∙ over-all d (join count part) (length-parts count ∙ sym long)

-- part q of that width lies within k such parts
pub part-within : {q k : ℕ} (width : ℕ) → q < k → q * width + width ≤ k * width
part-within {q} width h = rw (← suc-mul q width) (mul-le-mul_right width h)

-- a function is rows of blocks
pub whole_length : (points n : ℕ) → points * (points * (2 * (n * n))) ≡ length_of points n
whole_length points n = sym (mul_assoc points points (2 * (n * n))) ∙ mul_left_comm (points * points) 2 (n * n) ∙ simp mul_assoc
