-- Blocks whose entries agree, and what is made of them. Assumes nothing.
use Rattle.std.specs.Prelude.{◌≡◌, ◌<◌}
use Rattle.lists.specs.Prelude.{refl, ℕ, zero-add}
use Rattle.complex.specs.Arithmetic.{czero, cmul}
use Rattle.complex.specs.Agreement.{sum_agree}
use Rattle.block.specs.Block.{Entries}
use Rattle.block.specs.Operations.{product, adjoint, trace}

-- the entries of two n by n blocks agree. What a list holds elsewhere is no entry.
abbrev pub Agree : ℕ → Entries → Entries → Type 0
Agree n x y = (a b : ℕ) → a < n → b < n → x a b ≡ y a b

module _ (n : ℕ) (x x' : Entries) (hx : Agree n x x') where
  pub product_agree : (y y' : Entries) → Agree n y y' → Agree n (product n x y) (product n x' y')
  unfolding product
  product_agree y y' hy a b ha hb =
      sum_agree czero czero (λ k. cmul (x a k) (y k b)) (λ k. cmul (x' a k) (y' k b)) 0 n refl
      (λ k hk. rw (zero-add k, hx a k ha hk, hy k b hk hb))

  pub adjoint_agree : Agree n (adjoint x) (adjoint x')
  unfolding adjoint
  adjoint_agree a b ha hb = rw (hx b a hb ha)

  pub trace_agree : trace n x ≡ trace n x'
  unfolding trace
  trace_agree = sum_agree czero czero (λ i. x i i) (λ i. x' i i) 0 n refl (λ k hk. rw (zero-add k, hx k k hk hk))
