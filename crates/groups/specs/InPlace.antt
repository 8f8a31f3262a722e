-- At one orbital lanes are neighbouring places, whose right numbers are read where they stand. Assumes nothing.
use Rattle.std.specs.Prelude.{◌≡◌, ◌+◌, ◌*◌, ◌≤◌, ◌<◌}
use Rattle.lists.specs.Prelude.{refl, sym, ap, subst, ◌∙◌, List, ℕ, add-mul, mul_left_comm, arith, Float}
use Rattle.lists.specs.Indexed.{fold}
use Rattle.complex.specs.declared.Complex.{Complex}
use Rattle.complex.specs.Arithmetic.{czero, cadd, cmul}
use Rattle.complex.specs.Numbers.{entry_at}
use Rattle.complex.specs.Sum.{sum_from}
use Rattle.block.specs.Operations.{product}
use Rattle.two_time.specs.declared.sums.Sums.{Sums}
use Rattle.two_time.specs.Layout.{place, read_as, length_of}
use Rattle.two_time.specs.Places.{Placed}
use Rattle.two_time.specs.WeightedSum.{product_at}
use Rattle.terms.specs.declared.Factor.{Factor}
use Rattle.terms.specs.declared.Factor.TheVariants.{Stored, Adjoint}
use Rattle.terms.specs.Kinds.{right_by, right_number, factor_of}
use Rattle.terms.specs.Held.{product_is}
use Rattle.groups.specs.Right.{right_place, right_beside, right-inside, right-read}
use Rattle.groups.specs.PartialSums.{terms_of}

-- the product of lane c, from +0
abbrev pub in_place : Factor → Complex → List Float → ℕ → ℕ → ℕ → Complex
in_place factor x right stride j c = cadd czero (cmul x (right_number factor (entry_at right (j + c * right_beside factor stride))))

lane_place : (factor : Factor) (stride s u c : ℕ) → right_place factor stride 1 s u 0 0 + c * right_beside factor stride ≡ right_place factor stride 1 s (u + c) 0 0
unfolding right_place right_beside
lane_place Stored stride s u c = omega arith
lane_place Adjoint stride s u c = omega (arith, add-mul u c stride, mul_left_comm c 2 stride)

-- a lane's number lies in the slice
pub lane_reach : (factor : Factor) (stride n s u c j len : ℕ) → n ≡ 1 → s < stride → u + c < stride → stride ≤ 256 → j ≡ right_place factor stride n s u 0 0 → length_of stride n ≤ len
    → j + c * right_beside factor stride + 1 < len
lane_reach factor stride n s u c j len one hs hu hp e l =
    let p : Placed stride 1 s (u + c) 0 0 = record { first = hs; second = hu; row = omega arith; column = omega arith; stride_most = hp; orbitals-most = omega arith } in
    let inside = right-inside factor p in
    let at : j ≡ right_place factor stride 1 s u 0 0 = e ∙ ap (λ (m : ℕ). right_place factor stride m s u 0 0) one in
    let long : length_of stride 1 ≤ len = subst (λ (m : ℕ). length_of stride m ≤ len) one l in
    omega (arith, lane_place factor stride s u c)

one_product : (x y : ℕ → ℕ → Complex) → product 1 x y 0 0 ≡ cadd czero (cmul (x 0 0) (y 0 0))
unfolding product sum_from fold
one_product x y = refl

module _ (sums : Sums) (points stride : ℕ) (times left right : List Float) (t s u : ℕ) where
  abbrev First : ℕ → ℕ → Complex
  First n c = in_place (factor_of sums) (entry_at left (place stride n t s 0 0)) right stride (right_place (factor_of sums) stride n s u 0 0) c

  at_one : (p a b : ℕ) → a < 1 → b < 1 → First 1 (p * 1 + b) ≡ product_at 1 (terms_of sums points stride 1 times left right t (u + p) czero) s a b
  unfolding product_at
  at_one p a b ha hb =
      let za : a ≡ 0 = omega arith in
      let zb : b ≡ 0 = omega arith in
      let lane : p * 1 + b ≡ p = omega arith in
      let read : right_number (factor_of sums) (entry_at right (right_place (factor_of sums) stride 1 s u 0 0 + p * right_beside (factor_of sums) stride))
      ≡ right_by (factor_of sums) (read_as stride 1 right) s (u + p) 0 0 =
      ap (λ (m : ℕ). right_number (factor_of sums) (entry_at right m)) (lane_place (factor_of sums) stride s u p) ∙ right-read (factor_of sums) stride 1 right s (u + p) 0 0 in
      ap (First 1) lane ∙ ap (λ (y : Complex). cadd czero (cmul (entry_at left (place stride 1 t s 0 0)) y)) read
      ∙ sym (one_product (read_as stride 1 left t s) (right_by (factor_of sums) (read_as stride 1 right) s (u + p)))
      ∙ rw (za, zb) (sym (product_is points t (u + p) s times (read_as stride 1 left) (read_as stride 1 right) sums 1 0 0))

  -- the product of a lane is that of its place
  pub place-product : (n : ℕ) → n ≡ 1 → (p a b : ℕ) → a < n → b < n
      → First n (p * n + b) ≡ product_at n (terms_of sums points stride n times left right t (u + p) czero) s a b
  place-product n one p =
      subst (λ (m : ℕ). (a b : ℕ) → a < m → b < m → First m (p * m + b) ≡ product_at m (terms_of sums points stride m times left right t (u + p) czero) s a b) (sym one) (at_one p)

  -- the same by the names that code has
  pub lane_in_place : (n : ℕ) → n ≡ 1 → (factor : Factor) (x : Complex) (j : ℕ) → factor ≡ factor_of sums → x ≡ entry_at left (place stride n t s 0 0) → j ≡ right_place factor stride n s u 0 0
      → (p a b : ℕ) → a < n → b < n → in_place factor x right stride j (p * n + b) ≡ product_at n (terms_of sums points stride n times left right t (u + p) czero) s a b
  lane_in_place n one factor x j ef ex ej p a b ha hb = rw (ej, ex, ef) (place-product n one p a b ha hb)
