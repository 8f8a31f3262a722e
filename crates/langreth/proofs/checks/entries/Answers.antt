-- The operands in their order.
use Rattle.std.proofs.Common.{rules}
use Rattle.lists.specs.Prelude.{sym, ◌∙◌}
use Rattle.langreth.proofs.Asked.{by-retarded, by-advanced, by-lesser, by-greater}
use Rattle.langreth.specs.Operand.{held}
use Rattle.langreth.proofs.checks.entries.Goals as goal

pub returns-in_err-check_operand : goal.returns-in_err-check_operand
returns-in_err-check_operand c =
    let x = held c.args.operand in
    by-retarded c.args.first x (search rules) (sym c.check_operand.ensures ∙ c.in_err-check_operand.was)

pub returns-in_err-check_operand-2 : goal.returns-in_err-check_operand-2
returns-in_err-check_operand-2 c =
    let x = held c.args.operand in
    by-advanced c.args.first x (sym c.check_operand.ensures ∙ c.in_ok-check_operand.was) (search rules) (sym c.check_operand-2.ensures ∙ c.in_err-check_operand-2.was)

pub returns-in_err-check_operand-3 : goal.returns-in_err-check_operand-3
returns-in_err-check_operand-3 c =
    let x = held c.args.operand in
    by-lesser c.args.first x (sym c.check_operand.ensures ∙ c.in_ok-check_operand.was) (sym c.check_operand-2.ensures ∙ c.in_ok-check_operand-2.was)
    (search rules) (sym c.check_operand-3.ensures ∙ c.in_err-check_operand-3.was)

pub returns : goal.returns
returns c =
    let x = held c.args.operand in
    by-greater c.args.first x (sym c.check_operand.ensures ∙ c.in_ok-check_operand.was) (sym c.check_operand-2.ensures ∙ c.in_ok-check_operand-2.was)
    (sym c.check_operand-3.ensures ∙ c.in_ok-check_operand-3.was) c.check_operand-4.ensures
