-- Root: one word of the number, over natural numbers. Assumes nothing.
use Rattle.std.specs.Prelude.{◌≡◌, ◌+◌, ◌*◌, ◌/◌, ◌%◌, ◌^◌, ◌≤◌, ◌<◌}
use Rattle.lists.specs.Prelude.{sym, ap, ◌∙◌, ℕ, le_trans, le_of_eq, lt_of_le_of_lt, le-add_right, mul_assoc, mul-le-mul}
use Rattle.lists.specs.Prelude.{mul-le-mul_left, le_of_mul-le-mul_right, mul-div_cancel, pow-suc, add-one, arith, digits_div, pow_pos, pow_mono}
use Rattle.norm.specs.Squares.{power-of_four, below-of-squares}

-- The word's digits are read from the top, two at a time: after i steps R has been read, and the word's rest stands at its top.
-- N is what will have been read at the end.
pub next-digits : (N R l i v : ℕ) → N * 4 ^ i ≡ R * 2 ^ 64 + l → v ≡ 4 * R + l / 2 ^ 62 → N * 4 ^ (i + 1) ≡ v * 2 ^ 64 + l * 4 % 2 ^ 64
next-digits N R l i v e f = rw (add-one i, pow-suc 4 i) (sym (mul_assoc N (4 ^ i) 4) ∙ moved (N * 4 ^ i) e f)
  where
    moved : (M : ℕ) → M ≡ R * 2 ^ 64 + l → v ≡ 4 * R + l / 2 ^ 62 → M * 4 ≡ v * 2 ^ 64 + l * 4 % 2 ^ 64
    moved M e f = omega arith

pub word_read : (N R l : ℕ) → l < 2 ^ 64 → N * 4 ^ 32 ≡ R * 2 ^ 64 + l → R ≡ N
word_read N R l h e = sym (digits_div R h) ∙ ap (λ (x : ℕ). x / 2 ^ 64) (sym e) ∙ mul-div_cancel N (pow_pos 64)

-- what has been read is at most N, so the root stays small
pub root-small : (N R l i x t : ℕ) → i ≤ 32 → N * 4 ^ i ≡ R * 2 ^ 64 + l → x * x + t ≡ R → N < 2 ^ 162 → x < 2 ^ 81
root-small N R l i x t k e f h =
    below-of-squares x (2 ^ 81)
    (lt_of_le_of_lt (le_trans (le-add_right (x * x) t) (le_trans (le_of_eq f) read)) h)
  where
    four : 4 ^ i ≤ 2 ^ 64
    four = rw power-of_four (mul-le-mul (pow_mono k) (pow_mono k))

    read : R ≤ N
    read = le_of_mul-le-mul_right (le_trans (le-add_right (R * 2 ^ 64) l) (le_trans (le_of_eq (sym e)) (mul-le-mul_left N four))) (pow_pos 64)
