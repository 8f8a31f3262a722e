-- Digits in the order in which they are written: decimal and hexadecimal. Assumes nothing.
use Rattle.std.specs.Prelude.{◌≡◌, ◌∷◌, ◌++◌, ◌+◌, ◌-◌, ◌*◌, ◌/◌, ◌%◌, ◌^◌, ◌≤◌, ◌<◌}
use Rattle.lists.specs.Prelude.{refl, sym, ap, ◌∙◌, List, [], ℕ, zero, suc, not-suc-le-zero, le_refl}
use Rattle.lists.specs.Prelude.{le_antisymm, add-zero, div-one, one-le-pow, pow-suc, mul-div_cancel, div-div-eq-div-mul, add-one, arith, ltb, lt-ltb, le-ltb, ltb-false}
use Rattle.lists.specs.Prelude.{length, set}
use Rattle.lists.specs.Agreement.{cond_agree}
use Rattle.run_file.specs.Appended.{Appended, no_word, both_words, next_byte}
use Rattle.run_file.specs.Text.{decimal_in, decimal, hex_digit, hexadecimal}

-- ---- decimal: the last digit last

-- more digits than a number has change nothing
same_digits : (j k n : ℕ) → n < j → n < k → decimal_in j n ≡ decimal_in k n
unfolding decimal_in
same_digits zero k n h l = absurd (not-suc-le-zero h)
same_digits (suc j) zero n h l = absurd (not-suc-le-zero l)
same_digits (suc j) (suc k) n h l =
    cond_agree (ltb n 10) _ _ _ _ (λ e. refl)
    (λ e.
    let large : 10 ≤ n = ltb-false n 10 e in
    ap (λ (x : List ℕ). x ++ ((48 + n % 10) ∷ [])) (same_digits j k (n / 10) (omega arith) (omega arith)))

module _ (n : ℕ) {a b : List ℕ} {at middle : ℕ} where
  pub one_digit : n < 10 → Appended a b at middle ((48 + n) ∷ []) → Appended a b at middle (decimal n)
  unfolding decimal decimal_in
  one_digit h x = rw (lt-ltb n 10 h) x

  pub last_digit : {c : List ℕ} {ended : ℕ} → 10 ≤ n → Appended a b at middle (decimal (n / 10)) → Appended b c middle ended ((48 + n % 10) ∷ []) → Appended a c at ended (decimal n)
  unfolding decimal decimal_in
  last_digit h x y =
      let enough = same_digits n (suc (n / 10)) (n / 10) (omega arith) (le_refl (suc (n / 10))) in
      rw (le-ltb n 10 h, enough) (both_words _ _ x y)

-- ---- hexadecimal: the highest digit first

module _ (k : ℕ) (h : k < 16) where
  power : 16 ^ (16 - k) ≡ 16 ^ (15 - k) * 16
  power =
      let e : 16 - k ≡ suc (15 - k) = omega arith in
      ap (λ (j : ℕ). 16 ^ j) e ∙ pow-suc 16 (15 - k)

  after : 16 - (k + 1) ≡ 15 - k
  after = omega arith

  -- the digit's unit
  pub unit-is : 16 ^ (16 - k) / 16 ≡ 16 ^ (15 - k)
  unit-is = ap (λ (x : ℕ). x / 16) power ∙ mul-div_cancel (16 ^ (15 - k)) (omega arith)

  pub next-unit : 16 ^ (16 - k) / 16 / 16 ≡ 16 ^ (16 - (k + 1)) / 16
  next-unit = rw (unit-is, after)

  pub unit-above_0 : 0 < 16 ^ (16 - k) / 16
  unit-above_0 = rw unit-is (one-le-pow (15 - k) 16 (omega arith))

  pub next_digit : (n : ℕ) → hexadecimal k (n / 16 ^ (16 - k)) ++ (hex_digit (n / (16 ^ (16 - k) / 16) % 16) ∷ []) ≡ hexadecimal (k + 1) (n / 16 ^ (16 - (k + 1)))
  unfolding hexadecimal
  next_digit n =
      let cut : n / 16 ^ (16 - k) ≡ n / 16 ^ (15 - k) / 16 = sym (div-div-eq-div-mul n (16 ^ (15 - k)) 16 ∙ ap (λ (x : ℕ). n / x) (sym power)) in
      rw (after, unit-is, add-one k) (ap (λ (m : ℕ). hexadecimal k m ++ (hex_digit (n / 16 ^ (15 - k) % 16) ∷ [])) cut)

  -- one digit more
  pub hex_more : (n digit unit at : ℕ) {a b : List ℕ} → Appended a b at (at + k) (hexadecimal k (n / 16 ^ (16 - k))) → unit ≡ 16 ^ (16 - k) / 16
      → digit ≡ hex_digit (n / unit % 16) → at + k < length b → Appended a (set b (at + k) digit) at (at + (k + 1)) (hexadecimal (k + 1) (n / 16 ^ (16 - (k + 1))))
  hex_more n digit unit at x u d l =
      next_byte at k digit x l (ap (λ (y : ℕ). hexadecimal k (n / 16 ^ (16 - k)) ++ (y ∷ [])) (d ∙ ap (λ (y : ℕ). hex_digit (n / y % 16)) u) ∙ next_digit n)

-- no digit, and all
pub hex_none : (a : List ℕ) (at n : ℕ) → Appended a a at (at + 0) (hexadecimal 0 n)
unfolding hexadecimal
hex_none a at n = rw (add-zero at) (no_word a at)

pub hex_all : {a b : List ℕ} (k at n : ℕ) → k ≤ 16 → 16 ≤ k → Appended a b at (at + k) (hexadecimal k (n / 16 ^ (16 - k))) → Appended a b at (at + 16) (hexadecimal 16 n)
hex_all k at n h l x =
    let e : k ≡ 16 = le_antisymm h l in
    rw (e, div-one) at x
