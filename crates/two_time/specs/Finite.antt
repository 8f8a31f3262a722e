-- What check 10 passing says of a function that is laid out: each sum is finite, and so is every number of its list. Assumes nothing.
use Rattle.std.specs.Prelude.{◌≡◌, ◌<◌}
use Rattle.lists.specs.Prelude.{Bool, true, ℕ, zero, suc, arith, length, get_or, Float, nan}
use Rattle.lists.specs.Indexed.{join, all_below}
use Rattle.lists.specs.Agreement.{both, all-each}
use Rattle.lists.specs.Reading.{each_in_join}
use Rattle.complex.specs.declared.Complex.{Complex}
use Rattle.complex.specs.Arithmetic.{finite, cfinite}
use Rattle.complex.specs.Numbers.{pair}
use Rattle.block.specs.Block.{lay_out}
use Rattle.two_time.specs.Layout.{TwoTime, lay_out_all, everywhere}

-- what holds everywhere holds of each entry
pub everywhere-each : (points n : ℕ) (p : ℕ → ℕ → ℕ → ℕ → Bool) → everywhere points n p ≡ true
    → (t u a b : ℕ) → t < points → u < points → a < n → b < n → p t u a b ≡ true
unfolding everywhere
everywhere-each points n p h t u a b ht hu ha hb =
    all-each n (λ d. p t u a d)
    (all-each n (λ c. all_below n (λ d. p t u c d))
    (all-each points (λ v. all_below n (λ c. all_below n (λ d. p t v c d)))
    (all-each points (λ s. all_below points (λ v. all_below n (λ c. all_below n (λ d. p s v c d)))) h t ht) u hu) a ha) b hb

-- both numbers of a pair
pair-finite : (z : Complex) → cfinite z ≡ true → (j : ℕ) → j < 2 → finite (get_or (pair z) j nan) ≡ true
unfolding cfinite
pair-finite z h zero l = (both (finite z.re) (finite z.im) h).0
pair-finite z h (suc zero) l = (both (finite z.re) (finite z.im) h).1
pair-finite z h (suc (suc j)) l = absurd (omega arith)

module _ (points n : ℕ) (f : TwoTime) (h : (t u a b : ℕ) → t < points → u < points → a < n → b < n → cfinite (f t u a b) ≡ true) where
  -- every number of the list
  pub numbers_finite_lem : (i : ℕ) → i < length (lay_out_all points n f) → finite (get_or (lay_out_all points n f) i nan) ≡ true
  unfolding lay_out_all lay_out
  numbers_finite_lem =
      each_in_join ok points (λ t. join points (λ u. lay_out n n (f t u))) nan
      (λ t ht. each_in_join ok points (λ u. lay_out n n (f t u)) nan
      (λ u hu. each_in_join ok n (λ a. join n (λ b. pair (f t u a b))) nan
      (λ a ha. each_in_join ok n (λ b. pair (f t u a b)) nan
      (λ b hb j hj. pair-finite (f t u a b) (h t u a b ht hu ha hb) j hj))))
    where
      ok : Float → Type 0
      ok x = finite x ≡ true
