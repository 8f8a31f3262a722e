-- `run_file::text::Text::hexadecimal` meets its contract: a digit more, and all. Assumes nothing.
use Rattle.std.specs.Prelude.{◌≡◌, ◌∷◌, ◌++◌, ◌+◌, ◌-◌, ◌/◌, ◌%◌, ◌^◌, ◌≤◌, ◌<◌}
use Rattle.lists.specs.Prelude.{refl, ap, ◌∙◌, List, [], ℕ, le_antisymm, div-one, arith}
use Rattle.run_file.specs.Text.{hex_digit, hexadecimal}
use Rattle.run_file.specs.Appended.{Appended, no_word, both_words, as_text}
use Rattle.run_file.specs.Digits.{unit-above_0, next-unit, next_digit}
use Rattle.run_file.proofs.text.Text.hexadecimal.Goals as goal

no_digit : (a : List ℕ) (at n : ℕ) → Appended a a at at (hexadecimal 0 n)
unfolding hexadecimal
no_digit a at n = no_word a at

digit_more : (k : ℕ) → k < 16 → (n digit unit : ℕ) {a b c : List ℕ} {at middle ended : ℕ} → Appended a b at middle (hexadecimal k (n / 16 ^ (16 - k)))
    → unit ≡ 16 ^ (16 - k) / 16 → digit ≡ hex_digit (n / unit % 16) → Appended b c middle ended (digit ∷ []) → Appended a c at ended (hexadecimal (k + 1) (n / 16 ^ (16 - (k + 1))))
digit_more k h n digit unit x u d y =
    let digits = hexadecimal k (n / 16 ^ (16 - k)) in
    as_text (ap (λ (z : ℕ). digits ++ (z ∷ [])) (d ∙ ap (λ (z : ℕ). hex_digit (n / z % 16)) u) ∙ next_digit k h n) (both_words _ _ x y)

all_digits : {a b : List ℕ} {at ended : ℕ} (k n : ℕ) → k ≤ 16 → 16 ≤ k → Appended a b at ended (hexadecimal k (n / 16 ^ (16 - k))) → Appended a b at ended (hexadecimal 16 n)
all_digits k n h l x =
    let e : k ≡ 16 = le_antisymm h l in
    rw (e, div-one) at x

pub loop-k-init : goal.loop-k-init
loop-k-init c = (omega arith, omega arith, refl, no_digit _ _ _)

pub nonzero_div-n : goal.nonzero_div-n
nonzero_div-n c = rw c.loop-k.invariant.2 (unit-above_0 c.loop-k._k c.loop-k-test.true)

pub loop-k-preserved : goal.loop-k-preserved
loop-k-preserved c =
    let i = c.loop-k.invariant in (
      omega arith,
      omega (arith, i.1, c.letter.ensures.1),
      ap (λ (x : ℕ). x / 16) i.2 ∙ next-unit c.loop-k._k c.loop-k-test.true,
      digit_more c.loop-k._k c.loop-k-test.true _ _ _ i.3 i.2 c.hex_digit.ensures c.letter.ensures.0,
    )

pub returns : goal.returns
returns c =
    let i = c.loop-k.invariant in
    (all_digits c.loop-k._k _ i.0 c.loop-k-test.false i.3, omega (arith, i.0, i.1, c.loop-k-test.false))
