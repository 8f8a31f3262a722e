-- Values, lists and tests that are built by an index which goes up from 0. Each adds its last step last, as a loop does.
use Rattle.std.specs.Prelude.{◌&&◌, ◌++◌}
use Rattle.lists.specs.Prelude.{ℕ, zero, suc, Bool, true, List, []}

module _ {A : Type 0} where
  -- the value after the steps f 0, f 1, .., f (n - 1) from x
  unfoldable pub fold : ℕ → (ℕ → A → A) → A → A
  fold zero f x = x
  fold (suc n) f x = f n (fold n f x)

  -- f 0 ++ f 1 ++ .. ++ f (n - 1)
  unfoldable pub join : ℕ → (ℕ → List A) → List A
  join zero f = []
  join (suc n) f = join n f ++ f n

-- p holds of each number below n
unfoldable pub all_below : ℕ → (ℕ → Bool) → Bool
all_below zero p = true
all_below (suc n) p = all_below n p && p n

-- p holds of each pair of an a below rows and a b below columns
abbrev pub all_in : ℕ → ℕ → (ℕ → ℕ → Bool) → Bool
all_in rows columns p = all_below rows (λ a. all_below columns (p a))
