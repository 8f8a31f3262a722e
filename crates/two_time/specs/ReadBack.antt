-- A two-time function that is laid out is read back number by number, and has the document's length. Assumes nothing.
use Rattle.std.specs.Prelude.{◌≡◌, ◌+◌, ◌*◌, ◌<◌}
use Rattle.lists.specs.Prelude.{refl, ap, ◌∙◌, List, ℕ, add-mul, mul_assoc, mul_comm, mul_left_comm, arith, digits_lt, length}
use Rattle.lists.specs.Prelude.{get_or, Float, nan}
use Rattle.lists.specs.Indexed.{join}
use Rattle.lists.specs.Reading.{length-join, get_or-join}
use Rattle.complex.specs.Numbers.{pair}
use Rattle.block.specs.Block.{Entries, lay_out}
use Rattle.block.specs.Length.{length-rows}
use Rattle.two_time.specs.Layout.{TwoTime, place, length_of, lay_out_all}

module _ (n : ℕ) where
  length_digits : (f : Entries) → length (lay_out n n f) ≡ n * (n * 2)
  length_digits f = length-rows n n f ∙ ap (λ (m : ℕ). n * m) (mul_comm 2 n)

  -- number j of entry (a, b)
  block_at : (f : Entries) (a b j : ℕ) → a < n → b < n → j < 2 → get_or (lay_out n n f) (a * (n * 2) + (b * 2 + j)) nan ≡ get_or (pair (f a b)) j nan
  unfolding lay_out
  block_at f a b j ha hb hj =
      get_or-join n (n * 2) (λ c. join n (λ d. pair (f c d))) nan (λ c hc. length-join n 2 (λ d. pair (f c d)) (λ d hd. refl)) a (b * 2 + j) ha (digits_lt hb hj)
      ∙ get_or-join n 2 (λ d. pair (f a d)) nan (λ d hd. refl) b j hb hj

  module _ (points : ℕ) (f : TwoTime) where
    abbrev row : ℕ → List Float
    row t = join points (λ u. lay_out n n (f t u))

    length-row : (t : ℕ) → length (row t) ≡ points * (n * (n * 2))
    length-row t = length-join points (n * (n * 2)) (λ u. lay_out n n (f t u)) (λ u hu. length_digits (f t u))

    doubled : points * (points * (n * (n * 2))) ≡ length_of points n
    doubled = rw (mul_comm n 2, mul_left_comm n 2 n, mul_left_comm points 2 (n * n), mul_left_comm points 2 (points * (n * n))) (simp mul_assoc)

    pub length-all : length (lay_out_all points n f) ≡ length_of points n
    unfolding lay_out_all
    length-all = length-join points (points * (n * (n * 2))) row (λ t ht. length-row t) ∙ doubled

    module _ (t u a b : ℕ) (ht : t < points) (hu : u < points) (ha : a < n) (hb : b < n) where
      pub number_at : (j : ℕ) → j < 2 → get_or (lay_out_all points n f) (place points n t u a b + j) nan ≡ get_or (pair (f t u a b)) j nan
      unfolding lay_out_all
      number_at j hj =
          ap (λ (i : ℕ). get_or (lay_out_all points n f) i nan) where_it_stands
          ∙ get_or-join points (points * (n * (n * 2))) row nan (λ s hs. length-row s) t (u * (n * (n * 2)) + (a * (n * 2) + (b * 2 + j))) ht (digits_lt hu (digits_lt ha (digits_lt hb hj)))
          ∙ get_or-join points (n * (n * 2)) (λ s. lay_out n n (f t s)) nan (λ s hs. length_digits (f t s)) u (a * (n * 2) + (b * 2 + j)) hu (digits_lt ha (digits_lt hb hj))
          ∙ block_at (f t u) a b j ha hb hj
        where
          where_it_stands : place points n t u a b + j ≡ t * (points * (n * (n * 2))) + (u * (n * (n * 2)) + (a * (n * 2) + (b * 2 + j)))
          where_it_stands =
              let rows : t * (points * (n * (n * 2))) ≡ 2 * (t * points * n * n) =
              rw (mul_comm n 2, mul_left_comm n 2 n, mul_left_comm points 2 (n * n), mul_left_comm t 2 (points * (n * n))) (simp mul_assoc) in
              let blocks : u * (n * (n * 2)) ≡ 2 * (u * n * n) = rw (mul_comm n 2, mul_left_comm n 2 n, mul_left_comm u 2 (n * n)) (simp mul_assoc) in
              let entries : a * (n * 2) ≡ 2 * (a * n) = rw (mul_comm n 2, mul_left_comm a 2 n) in
              simp add-mul (omega arith)
