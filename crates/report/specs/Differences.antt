-- Check 10 as the code asks it, number by number in the order of the slices. Assumes nothing.
use Rattle.std.specs.Prelude.{◌≡◌, ◌&&◌, ◌+◌, ◌*◌, ◌/◌, ◌%◌}
use Rattle.lists.specs.Prelude.{ap, ◌∙◌, Bool, List, ℕ, div-add-mod', mul_comm, mul_assoc, add-zero, length, get_or, Float, nan}
use Rattle.lists.specs.Indexed.{all_below}
use Rattle.lists.specs.Agreement.{all_agree}
use Rattle.lists.specs.Steps.{all_flat}
use Rattle.complex.specs.Arithmetic.{sub, finite, csub, cfinite}
use Rattle.block.specs.Operations.{subtracted}
use Rattle.two_time.specs.Layout.{read_as, length_of, everywhere}
use Rattle.report.specs.Residuals.{differences_finite}

-- number i of x − y is finite, and the first count numbers are
abbrev number_finite : List Float → List Float → ℕ → Bool
number_finite x y i = finite (sub (get_or x i nan) (get_or y i nan))

unfoldable pub difference_finite : ℕ → List Float → List Float → Bool
difference_finite count x y = all_below count (number_finite x y)

-- n rows of m numbers, by rows
rows : (n m : ℕ) (f : ℕ → Bool) → all_below (n * m) f ≡ all_below n (λ i. all_below m (λ j. f (i * m + j)))
rows n m f = all_agree (n * m) f (λ p. f (p / m * m + p % m)) (λ p l. rw div-add-mod') ∙ all_flat n m (λ i j. f (i * m + j))

-- two numbers
two : (p : ℕ) (f : ℕ → Bool) → all_below 2 (λ j. f (p * 2 + j)) ≡ f (2 * p) && f (2 * p + 1)
unfolding all_below
two p f = rw (mul_comm p 2, add-zero)

module _ (points orbitals : ℕ) where
  -- a test of all complex numbers of a slice is made at every place
  everywhere_flat : (f : ℕ → Bool) → all_below (points * points * orbitals * orbitals) f ≡ everywhere points orbitals (λ t u a b. f (((t * points + u) * orbitals + a) * orbitals + b))
  unfolding everywhere
  everywhere_flat f =
      rows (points * points * orbitals) orbitals f
      ∙ rows (points * points) orbitals (λ i. all_below orbitals (λ b. f (i * orbitals + b)))
      ∙ rows points points (λ i. all_below orbitals (λ a. all_below orbitals (λ b. f ((i * orbitals + a) * orbitals + b))))

  -- both parts of each
  difference_finite_lem : (x y : List Float) → difference_finite (length_of points orbitals) x y ≡ everywhere points orbitals (λ t u a b. cfinite (subtracted (read_as points orbitals x t u) (read_as points orbitals y t u) a b))
  unfolding difference_finite cfinite subtracted csub
  difference_finite_lem x y =
      let count = points * points * orbitals * orbitals in
      let doubled : length_of points orbitals ≡ 2 * count = simp mul_assoc in
      let parts : ℕ → Bool = λ p. number_finite x y (2 * p) && number_finite x y (2 * p + 1) in
      ap (λ (n : ℕ). difference_finite n x y) (doubled ∙ mul_comm 2 count)
      ∙ rows count 2 (number_finite x y)
      ∙ all_agree count _ parts (λ p l. two p (number_finite x y))
      ∙ everywhere_flat parts

  pub differences_finite_lem : (retarded advanced lesser greater : List Float) → length retarded ≡ length_of points orbitals → length greater ≡ length_of points orbitals
      → difference_finite (length retarded) retarded advanced && difference_finite (length greater) greater lesser ≡ differences_finite points orbitals retarded advanced lesser greater
  unfolding differences_finite
  differences_finite_lem retarded advanced lesser greater r g = rw (r, g, difference_finite_lem retarded advanced, difference_finite_lem greater lesser)
