-- Places that no term goes to hold +0. Assumes nothing.
use Rattle.std.specs.Prelude.{◌≡◌, ◌+◌, ◌-◌, ◌*◌, ◌<◌}
use Rattle.lists.specs.Prelude.{sym, ap, ◌∙◌, true, List, ℕ, mul_assoc, mul_comm, arith, replicate, length-replicate, get_or-replicate, ext_get_or}
use Rattle.lists.specs.Prelude.{Float, eq-eqb}
use Rattle.lists.specs.Indexed.{join}
use Rattle.lists.specs.Agreement.{join_agree, each_all}
use Rattle.lists.specs.Reading.{length-join, each_in_join}
use Rattle.complex.specs.declared.Complex.{Complex}
use Rattle.complex.specs.Arithmetic.{plus_zero, czero}
use Rattle.complex.specs.Numbers.{pair}
use Rattle.block.specs.Block.{lay_out}
use Rattle.two_time.specs.declared.sums.Sums.{Sums}
use Rattle.two_time.specs.Layout.{read_as}
use Rattle.two_time.specs.WeightedSum.{Terms, partial_sum, weighted_sum}
use Rattle.two_time.specs.Sums.{terms_at, sums_of}
use Rattle.two_time.specs.OneTest.{partial_none, one_test}
use Rattle.terms.specs.declared.Span.{Span}
use Rattle.terms.specs.Spans.{Spanned}
use Rattle.block.specs.Zero.{join-replicate, block-zero}
use Rattle.groups.specs.PlaceSums.{sum_at, block_finite, zero-start}
use Rattle.groups.specs.Groups.{group_finite, group_numbers}

-- a group that has no s
module _ (sums : Sums) (points n : ℕ) (times left right : List Float) (t u places : ℕ) (out : List Float) (span : Span) (z : Spanned sums points t u places span) (none : span.first ≡ span.last) where
  abbrev at : ℕ → Terms
  at p = terms_at sums points times (read_as points n left) (read_as points n right) t (u + p)

  no-terms : (p : ℕ) → p < places → (at p).count ≡ 0
  no-terms p h = omega (arith, z.least times (read_as points n left) (read_as points n right) p h, z.enough times (read_as points n left) (read_as points n right) p h)

  zero-sum : (p a b : ℕ) → p < places → sum_at sums points n times left right t (u + p) a b ≡ czero
  unfolding sums_of weighted_sum
  zero-sum p a b h = ap (λ (k : ℕ). partial_sum n (at p) k a b) (no-terms p h) ∙ partial_none n (at p) a b ∙ zero-start sums points times (read_as points n left) (read_as points n right) t (u + p) a b

  pub none-finite : group_finite sums points n times left right t u places out ≡ true
  unfolding block_finite
  none-finite = each_all places _ (λ p hp. each_all n _ (λ a ha. each_all n _ (λ b hb. one_test n (at p) a b ∙ rw (eq-eqb (at p).count 0 (no-terms p hp)))))

  pub none-numbers : (len : ℕ) → len ≡ places * (2 * (n * n)) → replicate len plus_zero ≡ group_numbers sums points n times left right t u places out
  none-numbers len e =
      ap (λ (k : ℕ). replicate k plus_zero) e
      ∙ sym (join_agree places _ _ (λ p hp. block-zero n (sum_at sums points n times left right t (u + p)) (λ a b ha hb. zero-sum p a b hp)) ∙ join-replicate places (2 * (n * n)) plus_zero)
