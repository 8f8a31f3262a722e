-- One product more.
use Rattle.std.proofs.Common.{arith}
use Rattle.lists.specs.Prelude.{sym, ap₂, ◌∙◌}
use Rattle.complex.specs.Arithmetic.{cadd, cmul}
use Rattle.complex.specs.Agreement.{sum_more, sum-none}
use Rattle.rows.specs.Numbers.{number_at}
use Rattle.rows.specs.Parts.{part_lane, width}
use Rattle.rows.proofs.row_products.Goals as goal

pub loop-k-init : goal.loop-k-init
loop-k-init c = (c.requires.3, λ b h. sym (sum-none _ _ 0))

pub loop-k-preserved : goal.loop-k-preserved
loop-k-preserved c =
    let i = c.loop-k.invariant in
    let k = c.loop-k.k in (
      c.add_products.ensures.long ∙ i.0,
      λ b h.
          c.add_products.ensures.made b h
          ∙ ap₂ cadd (i.1 b h) (ap₂ cmul c.new-x.ensures (part_lane c.args.rows.now k _ (width k) c.requires.1 (omega arith) b h))
          ∙ sym (sum_more (number_at c.args.sums.now b) _ k),
    )
