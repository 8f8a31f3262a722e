-- The agreement law of the one sum over times, for any relation between the entries of two blocks that holds of +0 and that sum, scaling, conjugation and
-- product keep: two weighted sums whose terms are related in the interval are related. Demand 3's equality is one such relation (Agreement.antt), the split of
-- document 02, L12 another. Assumes nothing.
use Rattle.std.specs.Prelude.{◌≡◌, ◌+◌, ◌≤◌, ◌<◌}
use Rattle.lists.specs.Prelude.{refl, ap, ap₂, ℕ, zero, suc, le_refl, arith}
use Rattle.lists.specs.Indexed.{fold}
use Rattle.complex.specs.declared.Complex.{Complex}
use Rattle.complex.specs.Arithmetic.{czero, cadd, cmul, conj, real}
use Rattle.complex.specs.Sum.{sum_from}
use Rattle.block.specs.Block.{Entries}
use Rattle.block.specs.Operations.{product, scaled, adjoint}
use Rattle.block.specs.Agreement.{product_agree}
use Rattle.two_time.specs.WeightedSum.{Terms, product_at, term_at, partial_sum, weighted_sum}

-- a relation between two numbers at a row and a column
abbrev pub Relation : Type 1
Relation = ℕ → ℕ → Complex → Complex → Type 0

-- demand 3's
abbrev pub Equal : Relation
Equal a b z z' = z ≡ z'

module _ (n : ℕ) (R : Relation) where
  -- the entries of two n by n blocks are related, each by its row and column
  abbrev pub Related : Entries → Entries → Type 0
  Related x y = (a b : ℕ) → a < n → b < n → R a b (x a b) (y a b)

  -- what makes a relation pass through every sum over times
  pub record Kept : Type 0 where
    pub none : (a b : ℕ) → R a b czero czero
    pub sum : (a b : ℕ) (x x' y y' : Complex) → R a b x x' → R a b y y' → R a b (cadd x y) (cadd x' y')
    pub scale : (a b : ℕ) (w x x' : Complex) → R a b x x' → R a b (cmul x w) (cmul x' w)
    pub conjugate : (a b : ℕ) (x x' : Complex) → R a b x x' → R b a (conj x) (conj x')
    pub products : (x x' y y' : Entries) → Related x x' → Related y y' → Related (product n x y) (product n x' y')

  -- two sums over one interval with the same weights, whose starts and factors are related
  pub record RelatedTerms (x y : Terms) : Type 0 where
    pub from : x.from ≡ y.from
    pub count : x.count ≡ y.count
    pub start : Related x.start y.start
    pub weight : (s : ℕ) → x.from ≤ s → s < x.from + x.count → x.weight s ≡ y.weight s
    pub left : (s : ℕ) → x.from ≤ s → s < x.from + x.count → Related (x.left s) (y.left s)
    pub right : (s : ℕ) → x.from ≤ s → s < x.from + x.count → Related (x.right s) (y.right s)

pub equal-kept : (n : ℕ) → Kept n Equal
equal-kept n =
    record {
      none = λ a b. refl;
      sum = λ a b x x' y y' h e. ap₂ cadd h e;
      scale = λ a b w x x' h. ap (λ (z : Complex). cmul z w) h;
      conjugate = λ a b x x' h. ap conj h;
      products = λ x x' y y' hx hy. product_agree n x x' hx y y' hy;
    }

module _ (n : ℕ) (R : Relation) (kept : Kept n R) where
  sum-related : (a b : ℕ) (s s' : Complex) (f g : ℕ → Complex) (from k : ℕ) → R a b s s' → ((i : ℕ) → i < k → R a b (f (from + i)) (g (from + i)))
      → R a b (sum_from s f from k) (sum_from s' g from k)
  unfolding sum_from fold
  sum-related a b s s' f g from zero e h = e
  sum-related a b s s' f g from (suc k) e h =
      kept.sum a b (sum_from s f from k) (sum_from s' g from k) (f (from + k)) (g (from + k)) (sum-related a b s s' f g from k e (λ i l. h i (omega arith))) (h k (le_refl (suc k)))

  pub weighted_related : (x y : Terms) → RelatedTerms n R x y → Related n R (weighted_sum n x) (weighted_sum n y)
  unfolding weighted_sum partial_sum term_at product_at scaled
  weighted_related x y h a b ha hb =
      rw (← h.from, ← h.count)
      (sum-related a b (x.start a b) (y.start a b) (λ s. term_at n x s a b) (λ s. term_at n y s a b) x.from x.count (h.start a b ha hb)
      (λ k hk.
      let s = x.from + k in
      let lo : x.from ≤ s = omega arith in
      let hi : s < x.from + x.count = omega arith in
      rw (← (h.weight s lo hi))
      (kept.scale a b (real (x.weight s)) (product n (x.left s) (x.right s) a b) (product n (y.left s) (y.right s) a b)
      (kept.products (x.left s) (y.left s) (x.right s) (y.right s) (h.left s lo hi) (h.right s lo hi) a b ha hb))))

  pub adjoint-related : (x x' : Entries) → Related n R x x' → Related n R (adjoint x) (adjoint x')
  unfolding adjoint
  adjoint-related x x' h a b ha hb = kept.conjugate b a (x b a) (x' b a) (h b a hb ha)
