-- G^< by its start: the empty form is the sum of document 01, starts that agree make the same, and with g0 at +0 the start is +0 where G^R(·,0) is finite.
-- Assumes nothing.
use Rattle.refusal.specs.Verdict.{pass}
use Rattle.std.specs.Prelude.{is_ok, ◌≡◌, ◌&&◌, ◌||◌, ◌∷◌, ◌<◌}
use Rattle.lists.specs.Prelude.{refl, ap₂, ◌∙◌, Bool, and-true, true, false, not, cond, List, [], ℕ, max, arith, leb, ltb, ltb-true, Float}
use Rattle.std.specs.Float.Ieee as Ieee
use Rattle.lists.specs.Indexed.{all_in}
use Rattle.lists.specs.Agreement.{both, all_agree}
use Rattle.complex.specs.declared.Complex.{Complex}
use Rattle.complex.specs.Arithmetic.{finite, cfinite}
use Rattle.block.specs.Block.{Entries, entries_in}
use Rattle.block.specs.Operations.{adjoint, zeros}
use Rattle.block.specs.Agreement.{Agree, product_agree, adjoint_agree}
use Rattle.two_time.specs.declared.sums.Sums.TheVariants.{Lesser}
use Rattle.two_time.specs.Summed.{Summed}
use Rattle.two_time.specs.Layout.{TwoTime, read_as}
use Rattle.two_time.specs.Calls.{size_checks}
use Rattle.two_time.specs.New.{is_new, written, every_new, cleared_new}
use Rattle.two_time.specs.WeightedSum.{Terms}
use Rattle.two_time.specs.Sums.{terms_at, sums_of, new_numbers, new_finite}
use Rattle.two_time.specs.Start.{Start, empty, occupied_first, occupied_block, occupied, started_at, lesser_at, new_lesser_numbers, new_lesser_finite, occupied_by, holds_block, new_lesser_from}
use Rattle.two_time.specs.Outcome.{new_sums, new_flag}
use Rattle.two_time.specs.Agreement.{AgreeTerms, weighted_agree}
use Rattle.two_time.specs.FiniteAgreement.{finite_agree}
use Rattle.two_time.specs.Factors.{FiniteBlock}
use Rattle.two_time.specs.Zeros.{adjoint-finite, product-zero-right, product-zero-left}
use Rattle.two_time.specs.Written.{laid_agree}

-- the empty form is the sum of document 01
module _ (capacity n old points : ℕ) (times left right : List Float) where
  pub empty-numbers : (before : List Float) → new_lesser_numbers empty capacity n old points times left right before ≡ new_numbers Lesser capacity n old points times left right before
  unfolding new_lesser_numbers new_numbers sums_of terms_at
  empty-numbers before = refl

  pub empty-finite : new_lesser_finite empty capacity n old points times left right ≡ new_finite Lesser capacity n old points times left right
  unfolding new_lesser_finite new_finite terms_at
  empty-finite = refl

-- ---- starts that agree

-- a new place is a place of the points
new-inside : (old points t u : ℕ) → is_new old points t u ≡ true → (t < points) × (u < points)
unfolding is_new
new-inside old points t u h = let l = ltb-true (max t u) points (both (leb old (max t u)) (ltb (max t u) points) h).1 in (omega arith, omega arith)

-- two functions that agree at new places are written alike, and two tests that do are one
module _ (n old points : ℕ) where
  pub written_agree : (capacity : ℕ) (f g : TwoTime) (before : List Float) → ((t u : ℕ) → is_new old points t u ≡ true → Agree n (f t u) (g t u))
      → written capacity n old points f before ≡ written capacity n old points g before
  unfolding written
  written_agree capacity f g before h = laid_agree capacity n _ _ (λ t u ht hu a b ha hb. by_flag t u a b ha hb (is_new old points t u) refl)
    where
      by_flag : (t u a b : ℕ) → a < n → b < n → (new : Bool) → is_new old points t u ≡ new → cond new (f t u) (read_as capacity n before t u) a b ≡ cond new (g t u) (read_as capacity n before t u) a b
      by_flag t u a b ha hb true e = h t u e a b ha hb
      by_flag t u a b ha hb false e = refl

  pub tests_agree : (p q : ℕ → ℕ → ℕ → ℕ → Bool) → ((t u a b : ℕ) → is_new old points t u ≡ true → a < n → b < n → p t u a b ≡ q t u a b) → every_new n old points p ≡ every_new n old points q
  unfolding every_new
  tests_agree p q h = all_agree points _ _ (λ t ht. all_agree points _ _ (λ u hu. by_flag t u (is_new old points t u) refl))
    where
      by_flag : (t u : ℕ) (new : Bool) → is_new old points t u ≡ new → not new || all_in n n (p t u) ≡ not new || all_in n n (q t u)
      by_flag t u true e = all_agree n _ _ (λ a ha. all_agree n _ _ (λ b hb. h t u a b e ha hb))
      by_flag t u false e = refl

-- the terms of G^<, where those of document 01 and the starts agree
pub started_agree : (n : ℕ) (s s' : Entries) (x x' : Terms) → Agree n s s' → AgreeTerms n x x' → AgreeTerms n (started_at s x) (started_at s' x')
started_agree n s s' x x' e h = record { from = h.from; count = h.count; start = e; weight = h.weight; left = h.left; right = h.right }

pub same-terms : (n : ℕ) (x : Terms) → AgreeTerms n x x
same-terms n x = record { from = refl; count = refl; start = λ a b ha hb. refl; weight = λ s lo hi. refl; left = λ s lo hi a b ha hb. refl; right = λ s lo hi a b ha hb. refl }

-- two starts agree at a place
pub record SameStart (n : ℕ) (s s' : Start) (t u : ℕ) : Type 0 where
  pub block : Agree n (s.block t u) (s'.block t u)
  pub finite : (a b : ℕ) → a < n → b < n → s.finite t u a b ≡ s'.finite t u a b

module _ (s s' : Start) (capacity n old points : ℕ) (times left right : List Float) (same : (t u : ℕ) → is_new old points t u ≡ true → SameStart n s s' t u) where
  terms : (t u : ℕ) → is_new old points t u ≡ true → AgreeTerms n (lesser_at s capacity n times left right t u) (lesser_at s' capacity n times left right t u)
  terms t u new = started_agree n (s.block t u) (s'.block t u) _ _ (same t u new).block (same-terms n (terms_at Lesser capacity times (read_as capacity n left) (read_as capacity n right) t u))

  pub numbers_agree : (before : List Float) → new_lesser_numbers s capacity n old points times left right before ≡ new_lesser_numbers s' capacity n old points times left right before
  unfolding new_lesser_numbers
  numbers_agree before = written_agree n old points capacity _ _ before (λ t u new. weighted_agree n _ _ (terms t u new))

  pub finite-same : new_lesser_finite s capacity n old points times left right ≡ new_lesser_finite s' capacity n old points times left right
  unfolding new_lesser_finite
  finite-same = tests_agree n old points _ _ (λ t u a b new ha hb. ap₂ ◌&&◌ ((same t u new).finite a b ha hb) (finite_agree n _ _ (terms t u new) a b ha hb))

-- ---- the occupied start

-- it reads g0, G^R(t,0) and G^R(u,0)
module _ (n : ℕ) (g0 g0' : Entries) (g g' : TwoTime) (t u : ℕ) (same : Agree n g0 g0') (row : Agree n (g t 0) (g' t 0)) (column : Agree n (g u 0) (g' u 0)) where
  first_agree : Agree n (occupied_first n g0 g t) (occupied_first n g0' g' t)
  unfolding occupied_first
  first_agree = product_agree n (g t 0) (g' t 0) row g0 g0' same

  block_agree : Agree n (occupied_block n g0 g t u) (occupied_block n g0' g' t u)
  unfolding occupied_block
  block_agree = product_agree n _ _ first_agree (adjoint (g u 0)) (adjoint (g' u 0)) (adjoint_agree n (g u 0) (g' u 0) column)

  pub occupied_agree : SameStart n (occupied n g0 g) (occupied n g0' g') t u
  occupied_agree = record { block = block_agree; finite = λ a b ha hb. ap₂ (λ (x y : Complex). cfinite x && cfinite y) (first_agree a b ha hb) (block_agree a b ha hb) }

-- "With g0 at +0 the bits are those of the old form": where G^R(t,0) and G^R(u,0) are finite both products are +0
module _ (n : ℕ) (g0 : Entries) (g : TwoTime) (t u : ℕ) (zero : Agree n g0 zeros) (row : FiniteBlock n (g t 0)) (column : FiniteBlock n (g u 0)) where
  first-zero : Agree n (occupied_first n g0 g t) zeros
  unfolding occupied_first
  first-zero = product-zero-right n (g t 0) g0 row zero

  block-zero : Agree n (occupied_block n g0 g t u) zeros
  unfolding occupied_block
  block-zero = product-zero-left n (occupied_first n g0 g t) (adjoint (g u 0)) first-zero (adjoint-finite n (g u 0) column)

  pub occupied-zero : SameStart n (occupied n g0 g) empty t u
  unfolding cfinite finite Ieee.of_bits
  occupied-zero = record { block = block-zero; finite = λ a b ha hb. ap₂ (λ (x y : Complex). cfinite x && cfinite y) (first-zero a b ha hb) (block-zero a b ha hb) }

-- so where G^R(t,0) is finite at every point, G^< from g0 at +0 is that of document 01
module _ (capacity n old points : ℕ) (times retarded lesser_advanced g0 : List Float) (zero : Agree n (entries_in n g0) zeros)
    (finite : (t : ℕ) → t < points → FiniteBlock n (read_as capacity n retarded t 0)) where
  same_start : (t u : ℕ) → is_new old points t u ≡ true → SameStart n (occupied_by capacity n g0 retarded) empty t u
  same_start t u new = let inside = new-inside old points t u new in occupied-zero n (entries_in n g0) (read_as capacity n retarded) t u zero (finite t inside.0) (finite u inside.1)

  pub zero-numbers : (before : List Float) → new_lesser_numbers (occupied_by capacity n g0 retarded) capacity n old points times retarded lesser_advanced before
      ≡ new_numbers Lesser capacity n old points times retarded lesser_advanced before
  zero-numbers before =
      numbers_agree (occupied_by capacity n g0 retarded) empty capacity n old points times retarded lesser_advanced same_start before ∙ empty-numbers capacity n old points times retarded lesser_advanced before

  pub zero-finite : new_lesser_finite (occupied_by capacity n g0 retarded) capacity n old points times retarded lesser_advanced ≡ new_finite Lesser capacity n old points times retarded lesser_advanced
  zero-finite =
      finite-same (occupied_by capacity n g0 retarded) empty capacity n old points times retarded lesser_advanced same_start ∙ empty-finite capacity n old points times retarded lesser_advanced

  pub zero-outcome : holds_block n g0 ≡ true → (out : List Float)
      → new_lesser_from capacity n old points times retarded lesser_advanced g0 out ≡ new_sums Lesser capacity n old points times retarded lesser_advanced out
  unfolding new_lesser_from new_sums
  zero-outcome h out = rw (h, and-true, zero-finite, zero-numbers out)

-- ---- what `new_lesser_from` answers once checks 1 to 3 pass

pub new-lesser_said : (capacity n old points : ℕ) (times retarded lesser_advanced g0 out : List Float)
    → size_checks capacity n ((leb old points && leb points capacity) && holds_block n g0) (retarded ∷ lesser_advanced ∷ out ∷ []) ≡ pass → {answer : Summed} {after : List Float}
    → (let made = new_lesser_from capacity n old points times retarded lesser_advanced g0 out in (answer ≡ made.answer) × (after ≡ made.out)) → (ok : Bool) → ok ≡ is_ok answer
    → (new_lesser_finite (occupied_by capacity n g0 retarded) capacity n old points times retarded lesser_advanced ≡ ok)
    × (after ≡ cond ok (new_lesser_numbers (occupied_by capacity n g0 retarded) capacity n old points times retarded lesser_advanced out) (cleared_new capacity n old points out))
unfolding new_lesser_from
new-lesser_said capacity n old points times retarded lesser_advanced g0 out passed e ok h = let t = new_flag _ _ passed _ e.0 ok h in (t.0, e.1 ∙ t.1 _ _ out)
