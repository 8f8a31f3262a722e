-- A row of up to 16 complex numbers whose parts stand apart, and a loop that changes them in place, one a step. Assumes nothing.
use Rattle.std.specs.Prelude.{◌≡◌, ◌+◌, ◌≤◌, ◌<◌}
use Rattle.lists.specs.Prelude.{refl, sym, ap, subst, ◌∙◌, List, ⊎_elim, ℕ, eq-or-lt_of_le, le_antisymm, arith, length, get_or, set, replicate}
use Rattle.lists.specs.Prelude.{length-set, get_or-replicate, get_or-set_same, get_or-set_other, Float, nan}
use Rattle.complex.specs.declared.Complex.{Complex}
use Rattle.complex.specs.Arithmetic.{czero, plus_zero}

-- number b: its real part at b, its imaginary part 16 later
abbrev pub number_at : List Float → ℕ → Complex
number_at xs b = record { re = get_or xs b nan; im = get_or xs (b + 16) nan }

abbrev pub with_number : List Float → ℕ → Complex → List Float
with_number xs b z = set (set xs b z.re) (b + 16) z.im

-- the first k numbers are what f makes of the old ones, and the others are the old ones
pub record Mapped (f : ℕ → Complex → Complex) (k : ℕ) (old new : List Float) : Type 0 where
  pub long : length new ≡ length old
  pub made : (b : ℕ) → b < k → number_at new b ≡ f b (number_at old b)
  pub kept : (b : ℕ) → k ≤ b → b < 16 → number_at new b ≡ number_at old b

-- what a number is once one is written
module _ (xs : List Float) (b : ℕ) (z : Complex) (long : length xs ≡ 32) (h : b < 16) where
  pub number_same : number_at (with_number xs b z) b ≡ z
  number_same =
      rw (
        get_or-set_other (set xs b z.re) (b + 16) b z.im nan (λ e. omega arith),
        get_or-set_same xs b z.re nan (omega arith),
        get_or-set_same (set xs b z.re) (b + 16) z.im nan (simp length-set (omega arith)),
      )

  pub number-other : (c : ℕ) → c < 16 → (c ≡ b → ⊥) → number_at (with_number xs b z) c ≡ number_at xs c
  number-other c l ne =
      rw (
        get_or-set_other (set xs b z.re) (b + 16) c z.im nan (λ e. omega arith),
        get_or-set_other xs b c z.re nan ne,
        get_or-set_other (set xs b z.re) (b + 16) (c + 16) z.im nan (λ e. ne (omega arith)),
        get_or-set_other xs b (c + 16) z.re nan (λ e. omega arith),
      )

module _ (f : ℕ → Complex → Complex) where
  pub mapped_none : (xs : List Float) → Mapped f 0 xs xs
  mapped_none xs = record { long = refl; made = λ b l. absurd (omega arith); kept = λ b l m. refl }

  pub mapped_next : (k : ℕ) (old mid new : List Float) (z : Complex) → Mapped f k old mid → length old ≡ 32 → k < 16
      → z ≡ f k (number_at mid k) → new ≡ with_number mid k z → Mapped f (k + 1) old new
  mapped_next k old mid new z m long h e s =
      let here : length mid ≡ 32 = m.long ∙ long in
      let other : (c : ℕ) → c < 16 → (c ≡ k → ⊥) → number_at new c ≡ number_at mid c = λ c l ne. rw s (number-other mid k z here h c l ne) in
      let here-made : number_at new k ≡ z = rw s (number_same mid k z here h) in
      record {
        long = rw s (simp length-set m.long);
        made = λ b l.
            ⊎_elim
            (λ eq. subst (λ (m : ℕ). number_at new m ≡ f m (number_at old m)) (sym eq) (here-made ∙ e ∙ ap (f k) (m.kept k (omega arith) h)))
            (λ less. other b (omega arith) (λ eq. omega arith) ∙ m.made b (omega arith))
            (eq-or-lt_of_le (let w : b ≤ k = omega arith in w));
        kept = λ b l c. other b c (λ eq. omega arith) ∙ m.kept b (omega arith) c;
      }

  pub mapped_end : (k n : ℕ) (old new : List Float) → k ≤ n → n ≤ k → Mapped f k old new → Mapped f n old new
  mapped_end k n old new l h m = subst (λ (i : ℕ). Mapped f i old new) (le_antisymm l h) m

-- the same made otherwise
pub mapped_as : {f g : ℕ → Complex → Complex} {k : ℕ} {old new : List Float} → ((b : ℕ) (z : Complex) → b < k → f b z ≡ g b z) → Mapped f k old new → Mapped g k old new
mapped_as {f} {g} {k} {old} {new} h m = record { long = m.long; made = λ b l. m.made b l ∙ h b (number_at old b) l; kept = m.kept }

-- a row of +0
pub number-zero : (b : ℕ) → b < 16 → number_at (replicate 32 plus_zero) b ≡ czero
number-zero b h = rw (get_or-replicate 32 b plus_zero nan (omega arith), get_or-replicate 32 (b + 16) plus_zero nan (omega arith))
