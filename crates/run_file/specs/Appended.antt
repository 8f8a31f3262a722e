-- Text that is written over the start of a slice, one word after the other. Assumes nothing.
use Rattle.std.specs.Prelude.{◌≡◌, ◌∷◌, ◌++◌, ◌+◌, ◌-◌, ◌≤◌, ◌<◌}
use Rattle.lists.specs.Prelude.{refl, sym, ap, ◌∙◌, List, [], append_assoc, append-nil, ℕ, add_assoc, add-zero, zero-add}
use Rattle.lists.specs.Prelude.{le_antisymm, add-one, arith, length, get_or, take, set, put_mid, length-append, length-drop, take-suc, take_all}
use Rattle.lists.specs.Filling.{over, over_none, over-one, over-part}

-- a word was written at `at`, just past what stood before it, and ends at `ended`
pub record Appended (before after : List ℕ) (at ended : ℕ) (word : List ℕ) : Type 0 where
  pub ends : ended ≡ at + length word
  pub holds : (d xs : List ℕ) → before ≡ over d xs → length xs ≡ at → after ≡ over d (xs ++ word)

-- nothing is written
pub no_word : (a : List ℕ) (at : ℕ) → Appended a a at at []
no_word a at = record { ends = sym (add-zero at); holds = λ d xs e l. e ∙ ap (over d) (sym (append-nil xs)) }

-- two words, one after the other
pub both_words : {a b c : List ℕ} {at middle ended : ℕ} (v w : List ℕ) → Appended a b at middle v → Appended b c middle ended w → Appended a c at ended (v ++ w)
both_words {a} {b} {c} {at} v w x y =
    record {
      ends = y.ends ∙ ap (λ (m : ℕ). m + length w) x.ends ∙ add_assoc at (length v) (length w) ∙ ap (λ (m : ℕ). at + m) (sym (length-append v w));
      holds = λ d xs e l. y.holds d (xs ++ v) (x.holds d xs e l) (length-append xs v ∙ ap (λ (m : ℕ). m + length v) l ∙ sym x.ends) ∙ ap (over d) (append_assoc xs v w);
    }

-- the same text
pub as_text : {a b v w : List ℕ} {at ended : ℕ} → v ≡ w → Appended a b at ended v → Appended a b at ended w
as_text {a} {b} {v} {w} {at} {ended} e x = rw (← e) x

-- a byte
length_of-over : (d xs : List ℕ) → length (over d xs) ≡ length xs + (length d - length xs)
unfolding over
length_of-over d xs = simp (length-append, length-drop) refl

pub one_byte : (a : List ℕ) (at b : ℕ) → at < length a → Appended a (set a at b) at (at + 1) (b ∷ [])
one_byte a at b h =
    record {
      ends = refl;
      holds = λ d xs e l.
          let long = length_of-over d xs in
          let room : length (over d xs) ≡ length a = ap length (sym e) in
          ap (λ (z : List ℕ). set z at b) e ∙ over-one d xs at b l (omega arith);
    }

-- a word in one part
pub one_word : (a word : List ℕ) (at count : ℕ) {ys : List ℕ} → ys ≡ word → length word ≡ count → Appended a (put_mid at count a ys) at (at + length word) word
one_word a word at count s n = record { ends = refl; holds = λ d xs e l. rw (s, e) (over-part d xs word at count l n) }

-- from the start of the slice
pub whole-text : {a b text : List ℕ} {ended : ℕ} → Appended a b 0 ended text → (ended ≡ length text) × (b ≡ over a text)
whole-text {a} x = (x.ends ∙ zero-add _, x.holds a [] (sym (over_none a)) refl)

-- a byte just past k that were written
pub next_byte : {a b : List ℕ} (at k x : ℕ) {v w : List ℕ} → Appended a b at (at + k) v → at + k < length b → v ++ (x ∷ []) ≡ w → Appended a (set b (at + k) x) at (at + (k + 1)) w
next_byte {a} {b} at k x {v} y l e = rw (← e, ← add_assoc at k 1) (both_words v (x ∷ []) y (one_byte b (at + k) x l))

-- a word letter by letter
module _ (a word : List ℕ) (at : ℕ) where
  pub no_letter : Appended a a at (at + 0) (take 0 word)
  no_letter = rw (add-zero at) (no_word a at)

  module _ (b : List ℕ) (i : ℕ) (x : Appended a b at (at + i) (take i word)) where
    pub letter_more : i < length word → at + i < length b → Appended a (set b (at + i) (get_or word i 0)) at (at + (i + 1)) (take (i + 1) word)
    letter_more h l = next_byte at i (get_or word i 0) x l (sym (ap (λ (k : ℕ). take k word) (add-one i) ∙ take-suc word i 0 h))

    pub letters_all : i ≤ length word → length word ≤ i → Appended a b at (at + length word) word
    letters_all h l =
        let e : i ≡ length word = le_antisymm h l in
        rw (← e, ← take_all i word l) x
