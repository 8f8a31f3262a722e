-- A finite block times a block of +0, on either side, is +0. Assumes nothing.
use Rattle.std.specs.Prelude.{◌≡◌, ◌<◌}
use Rattle.lists.specs.Prelude.{refl, ap, ap₂, ◌∙◌, ℕ, zero, suc, le_refl, zero-add, arith}
use Rattle.lists.specs.Indexed.{fold}
use Rattle.complex.specs.declared.Complex.{Complex}
use Rattle.complex.specs.Arithmetic.{czero, cadd, cmul}
use Rattle.complex.specs.Sum.{sum_from}
use Rattle.complex.specs.Finite.{conj-finite}
use Rattle.complex.specs.Zeros.{zero-zeros, zeros-and, cmul-zeros-left, cmul-zeros-right}
use Rattle.block.specs.Block.{Entries}
use Rattle.block.specs.Operations.{product, adjoint, zeros}
use Rattle.block.specs.Agreement.{Agree}
use Rattle.two_time.specs.Factors.{FiniteBlock}

pub adjoint-finite : (n : ℕ) (x : Entries) → FiniteBlock n x → FiniteBlock n (adjoint x)
unfolding adjoint
adjoint-finite n x h a b ha hb = conj-finite (x b a) ∙ h b a hb ha

sum_zeros : (n : ℕ) (f : ℕ → Complex) → ((k : ℕ) → k < n → cadd czero (f k) ≡ czero) → sum_from czero f 0 n ≡ czero
unfolding sum_from fold
sum_zeros zero f h = refl
sum_zeros (suc n) f h = ap₂ cadd (sum_zeros n f (λ k l. h k (omega arith))) (ap f (zero-add n)) ∙ h n (le_refl (suc n))

module _ (n : ℕ) (x y : Entries) where
  pub product-zero-right : FiniteBlock n x → Agree n y zeros → Agree n (product n x y) zeros
  unfolding product
  product-zero-right h e a b ha hb = sum_zeros n (λ k. cmul (x a k) (y k b)) (λ k hk. ap (λ (z : Complex). cadd czero (cmul (x a k) z)) (e k b hk hb) ∙ zeros-and (cmul (x a k) czero) (cmul-zeros-right (x a k) czero (h a k ha hk) zero-zeros))

  pub product-zero-left : Agree n x zeros → FiniteBlock n y → Agree n (product n x y) zeros
  unfolding product
  product-zero-left e h a b ha hb = sum_zeros n (λ k. cmul (x a k) (y k b)) (λ k hk. ap (λ (z : Complex). cadd czero (cmul z (y k b))) (e a k ha hk) ∙ zeros-and (cmul czero (y k b)) (cmul-zeros-left czero (y k b) zero-zeros (h k b hk hb)))
