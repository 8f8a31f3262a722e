-- How far a search for the first question that is answered no has come, and what that says of all the questions. Assumes nothing.
use Rattle.std.specs.Prelude.{Err, ◌≡◌, ◌+◌, ◌≤◌, ◌<◌}
use Rattle.lists.specs.Prelude.{refl, sym, ◌∙◌, Bool, true, false, List, ⊎_elim, ℕ, zero, suc, le_of_suc-le-suc, eq-or-lt_of_le, arith, eqb, length}
use Rattle.lists.specs.Prelude.{get_or, get_or-eq_default, Float, nan, inf, fin, lt, eq-eqb, ne_eqb}
use Rattle.lists.specs.Indexed.{all_below}
use Rattle.lists.specs.Agreement.{never, all-each, each_all}
use Rattle.complex.specs.Arithmetic.{finite}
use Rattle.refusal.specs.declared.Refusal.{Refusal}
use Rattle.refusal.specs.Verdict.{pass, Verdict, ask, ask_all}
use Rattle.refusal.specs.Agreement.{all_asked, ask_yes}

-- of n questions the first r are answered yes, and the next one, if there is one, no
pub record Prefix (p : ℕ → Bool) (n r : ℕ) : Type 0 where
  pub within : r ≤ n
  pub passed : (k : ℕ) → k < r → p k ≡ true
  pub ended : r < n → p r ≡ false

-- the first question that is refused is the answer to all n in order
pub first-refused : (f : ℕ → Verdict) (x : Refusal) (n r : ℕ) → r < n → ((k : ℕ) → k < r → f k ≡ pass) → f r ≡ Err x → ask_all n f ≡ Err x
unfolding ask_all
first-refused f x zero r l h e = absurd (omega arith)
first-refused f x (suc n) r l h e =
    ⊎_elim
    (λ same. rw (← same, all_asked r f h, e))
    (λ less. rw (first-refused f x n r less h e))
    (eq-or-lt_of_le (le_of_suc-le-suc l))

module _ (p : ℕ → Bool) where
  -- one that is answered no
  pub all-no : (n k : ℕ) → k < n → p k ≡ false → all_below n p ≡ false
  all-no n k l h = no (all_below n p) (λ e. never (sym h ∙ all-each n p e k l))
    where
      no : (b : Bool) → (b ≡ true → b ≡ false) → b ≡ false
      no true g = g refl
      no false g = refl

  -- whether all n are answered yes
  pub prefix-all : (n r : ℕ) → Prefix p n r → eqb r n ≡ all_below n p
  prefix-all n r s =
      ⊎_elim
      (λ e. eq-eqb r n e ∙ sym (each_all n p (λ k l. s.passed k (omega arith))))
      (λ less. ne_eqb r n (λ e. omega arith) ∙ sym (all-no n r less (s.ended less)))
      (eq-or-lt_of_le s.within)

  first-no : (f : ℕ → Refusal) (n r : ℕ) → r < n → ((k : ℕ) → k < r → p k ≡ true) → p r ≡ false → ask_all n (λ i. ask (p i) (f i)) ≡ Err (f r)
  unfolding ask
  first-no f n r l h e = first-refused (λ i. ask (p i) (f i)) (f r) n r l (λ k m. ask_yes (p k) (f k) (h k m)) (rw e)

  pub prefix-asked : (f : ℕ → Refusal) (n r : ℕ) → Prefix p n r → ask (eqb r n) (f r) ≡ ask_all n (λ i. ask (p i) (f i))
  unfolding ask
  prefix-asked f n r s =
      ⊎_elim
      (λ e. ask_yes (eqb r n) (f r) (eq-eqb r n e)
      ∙ sym (all_asked n (λ i. ask (p i) (f i)) (λ k l. ask_yes (p k) (f k) (s.passed k (omega arith)))))
      (λ less. rw (ne_eqb r n (λ e. omega arith)) (sym (first-no f n r less s.passed (s.ended less))))
      (eq-or-lt_of_le s.within)

-- ---- a number past the end is a NaN, which is not finite and exceeds nothing

pub past-finite : (xs : List Float) (i : ℕ) → length xs ≤ i → finite (get_or xs i nan) ≡ false
unfolding finite
past-finite xs i h = rw (get_or-eq_default xs nan h)

lt-nan : (x : Float) → lt x nan ≡ false
unfolding lt
lt-nan nan = refl
lt-nan (inf s) = refl
lt-nan (fin s m e) = refl

pub past_rise : (xs : List Float) (i : ℕ) → length xs ≤ i + 1 → lt (get_or xs i nan) (get_or xs (i + 1) nan) ≡ false
past_rise xs i h = rw (get_or-eq_default xs nan h) (lt-nan (get_or xs i nan))
