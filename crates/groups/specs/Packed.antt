-- A row of lanes that is written from one lane on, one a step. Assumes nothing.
use Rattle.std.specs.Prelude.{◌≡◌, ◌+◌, ◌≤◌, ◌<◌}
use Rattle.lists.specs.Prelude.{refl, sym, subst, ◌∙◌, List, ⊎_elim, ℕ, eq-or-lt_of_le, le_antisymm, arith, length, length-set, Float}
use Rattle.complex.specs.declared.Complex.{Complex}
use Rattle.rows.specs.Numbers.{number_at, with_number, number_same, number-other}

-- count lanes from `from` on are g 0, g 1, .., and those before are the old ones
pub record Packed (from count : ℕ) (g : ℕ → Complex) (old new : List Float) : Type 0 where
  pub long : length new ≡ 32
  pub made : (b : ℕ) → b < count → number_at new (from + b) ≡ g b
  pub kept : (c : ℕ) → c < from → number_at new c ≡ number_at old c

module _ (from : ℕ) (g : ℕ → Complex) where
  pub packed_none : (xs : List Float) → length xs ≡ 32 → Packed from 0 g xs xs
  packed_none xs h = record { long = h; made = λ b l. absurd (omega arith); kept = λ c l. refl }

  pub packed_next : (b : ℕ) (old mid new : List Float) (z : Complex) → Packed from b g old mid → from + b < 16 → z ≡ g b → new ≡ with_number mid (from + b) z → Packed from (b + 1) g old new
  packed_next b old mid new z m h e s =
      let other : (c : ℕ) → c < 16 → (c ≡ from + b → ⊥) → number_at new c ≡ number_at mid c = λ c l ne. rw s (number-other mid (from + b) z m.long h c l ne) in
      record {
        long = rw s (simp length-set m.long);
        made = λ d l.
            ⊎_elim
            (λ eq. subst (λ (i : ℕ). number_at new (from + i) ≡ g i) (sym eq) (rw s (number_same mid (from + b) z m.long h) ∙ e))
            (λ less. other (from + d) (omega arith) (λ eq. omega arith) ∙ m.made d less)
            (eq-or-lt_of_le (let v : d ≤ b = omega arith in v));
        kept = λ c l. other c (omega arith) (λ eq. omega arith) ∙ m.kept c l;
      }

  pub packed_end : (b n : ℕ) (old new : List Float) → b ≤ n → n ≤ b → Packed from b g old new → Packed from n g old new
  packed_end b n old new l h m = subst (λ (i : ℕ). Packed from i g old new) (le_antisymm l h) m
