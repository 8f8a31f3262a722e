-- Entries that are checked and written. Assumes nothing.
use Rattle.std.specs.Prelude.{Option, Some, None, ◌≡◌, ◌||◌}
use Rattle.lists.specs.Prelude.{refl, sym, ap, ◌∙◌, Bool, true, false, cond, not, List, ℕ, arith, Float}
use Rattle.complex.specs.declared.Complex.{Complex}
use Rattle.complex.specs.Arithmetic.{cfinite}
use Rattle.complex.specs.Filling.{cells}
use Rattle.block.specs.Block.{Entries}

-- an entry that is made: finite, or no entry; one that no term was added to is not asked
unfoldable pub checked_entry : Bool → Complex → Option Complex
checked_entry asked z = cond (not asked || cfinite z) (Some z) None

-- by the test that code makes
module _ (asked f : Bool) (z : Complex) (e : f ≡ cfinite z) where
  pub checked-finite : not asked || f ≡ true → Some z ≡ checked_entry asked z
  unfolding checked_entry
  checked-finite h = let g : not asked || cfinite z ≡ true = ap (λ (b : Bool). not asked || b) (sym e) ∙ h in sym (ap (λ (b : Bool). cond b (Some z) None) g)

  pub checked-over : not asked || f ≡ false → None ≡ checked_entry asked z
  unfolding checked_entry
  checked-over h = let g : not asked || cfinite z ≡ false = ap (λ (b : Bool). not asked || b) (sym e) ∙ h in sym (ap (λ (b : Bool). cond b (Some z) None) g)

-- what an answer says
module _ (asked : Bool) (z : Complex) where
  told-finite : (f : Bool) (y : Complex) → Some y ≡ cond f (Some z) None → (f ≡ true) × (y ≡ z)
  told-finite true y h = (refl, cc)
  told-finite false y h = absurd (let w : ◌≡◌ {A = ℕ} 0 1 = cc in omega arith)

  pub of-finite : (y : Complex) → Some y ≡ checked_entry asked z → (not asked || cfinite z ≡ true) × (y ≡ z)
  unfolding checked_entry
  of-finite y h = told-finite (not asked || cfinite z) y h

  told_over : (f : Bool) → None ≡ cond f (Some z) None → f ≡ false
  told_over true h = absurd (let w : ◌≡◌ {A = ℕ} 0 1 = cc in omega arith)
  told_over false h = refl

  pub of-overflow : None ≡ checked_entry asked z → not asked || cfinite z ≡ false
  unfolding checked_entry
  of-overflow h = told_over (not asked || cfinite z) h

-- a block that is written row by row
module _ (n : ℕ) (f : Entries) where
  abbrev pub row_of : ℕ → List Float
  row_of a = cells n (f a)
