-- A list of +0 is blocks of +0. Assumes nothing.
use Rattle.std.specs.Prelude.{◌≡◌, ◌*◌, ◌<◌}
use Rattle.lists.specs.Prelude.{sym, ap, ◌∙◌, List, ℕ, mul_assoc, mul_comm, arith, replicate, length-replicate, get_or-replicate, ext_get_or, Float}
use Rattle.lists.specs.Indexed.{join}
use Rattle.lists.specs.Agreement.{join_agree}
use Rattle.lists.specs.Reading.{length-join, each_in_join}
use Rattle.complex.specs.declared.Complex.{Complex}
use Rattle.complex.specs.Arithmetic.{plus_zero, czero}
use Rattle.complex.specs.Numbers.{pair}
use Rattle.block.specs.Block.{lay_out}

pub join-replicate : (k w : ℕ) (z : Float) → join k (λ _. replicate w z) ≡ replicate (k * w) z
join-replicate k w z =
    ext_get_or z (join k (λ _. replicate w z)) (replicate (k * w) z) (length-join k w (λ _. replicate w z) (λ i l. length-replicate w z) ∙ sym (length-replicate (k * w) z))
    (λ i l. each_in_join (λ (x : Float). x ≡ z) k (λ _. replicate w z) z (λ m hm j hj. get_or-replicate w j z z (omega (arith, length-replicate w z))) i l ∙ sym (get_or-replicate (k * w) i z z (omega (arith, length-join k w (λ _. replicate w z) (λ i l. length-replicate w z)))))

-- a block of +0
pub block-zero : (n : ℕ) (f : ℕ → ℕ → Complex) → ((a b : ℕ) → a < n → b < n → f a b ≡ czero) → lay_out n n f ≡ replicate (2 * (n * n)) plus_zero
unfolding lay_out
block-zero n f h =
    join_agree n _ _ (λ a ha. join_agree n _ _ (λ b hb. ap pair (h a b ha hb)) ∙ join-replicate n 2 plus_zero) ∙ join-replicate n (n * 2) plus_zero
    ∙ ap (λ (k : ℕ). replicate k plus_zero) (sym (mul_assoc n n 2) ∙ mul_comm (n * n) 2)
