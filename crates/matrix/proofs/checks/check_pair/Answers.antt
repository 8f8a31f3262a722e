-- Past check 2 the counts are not cut. Assumes nothing.
use Rattle.std.proofs.Common.{◌≡◌}
use Rattle.lists.specs.Prelude.{ap, sym, ◌∙◌, rules}
use Rattle.refusal.specs.Checks.{finite_entries}
use Rattle.matrix.specs.Dense.{count_of}
use Rattle.matrix.specs.Calls.{pair_checks}
use Rattle.matrix.proofs.Shapes.{small, uncut}
use Rattle.matrix.proofs.checks.check_pair.Goals as goal

pub returns-in_err-finite_entries : goal.returns-in_err-finite_entries
unfolding pair_checks
returns-in_err-finite_entries c =
    let x = c.args.x.now in
    let e : c.finite_entries.result ≡ finite_entries 0 x.values (count_of x) = c.finite_entries.ensures ∙ ap (finite_entries 0 x.values) (c.count.ensures ∙ uncut (small _ _ (sym c.within_block.ensures ∙ c.in_ok-within_block.was))) in
    search rules

pub returns : goal.returns
unfolding pair_checks
returns c =
    let x = c.args.x.now in
    let y = c.args.y.now in
    let e : c.finite_entries.result ≡ finite_entries 0 x.values (count_of x) = c.finite_entries.ensures ∙ ap (finite_entries 0 x.values) (c.count.ensures ∙ uncut (small _ _ (sym c.within_block.ensures ∙ c.in_ok-within_block.was))) in
    let f : c.finite_entries-2.result ≡ finite_entries 1 y.values (count_of y) = c.finite_entries-2.ensures ∙ ap (finite_entries 1 y.values) (c.count-2.ensures ∙ uncut (small _ _ (sym c.within_block-2.ensures ∙ c.in_ok-within_block-2.was))) in
    search rules
