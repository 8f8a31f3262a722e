-- Refused, accepted, or 10 with all four outputs cleared.
use Rattle.std.proofs.Common.{rules, ◌≡◌, not}
use Rattle.lists.specs.Prelude.{sym, ap, ◌∙◌}
use Rattle.langreth.specs.Calls.{Components, components_of, listed}
use Rattle.langreth.specs.Operand.{held}
use Rattle.langreth.proofs.Outcome.{refused, work-asks, accepted, overflowed}
use Rattle.langreth.proofs.langreth_product.Goals as goal

pub returns-in_err-check_inputs : goal.returns-in_err-check_inputs
returns-in_err-check_inputs c =
    let out : Components = components_of c.args.retarded.now c.args.advanced.now c.args.lesser.now c.args.greater.now in
    refused _ _ _ _ _ out (c.check_inputs.ensures (listed out) c.all_fit-outputs_fit.ensures) (search rules) c.in_err-check_inputs.was

pub work-requires : goal.work-requires
work-requires c =
    let out : Components = components_of c.args.retarded.now c.args.advanced.now c.args.lesser.now c.args.greater.now in
    work-asks _ _ _ _ _ out (c.check_inputs.ensures (listed out) c.all_fit-outputs_fit.ensures) c.in_ok-check_inputs.was

pub returns-then-is_err : goal.returns-then-is_err
returns-then-is_err c =
    let out : Components = components_of c.args.retarded.now c.args.advanced.now c.args.lesser.now c.args.greater.now in
    let kept = c.work.auto in
    overflowed _ _ _ _ _ out (c.check_inputs.ensures (listed out) c.all_fit-outputs_fit.ensures) c.in_ok-check_inputs.was c.work.ensures
    (c.is_err.ensures.negation ∙ ap not c.if-is_err.true) (search rules)
    (c.clear.ensures, kept.retarded) (c.clear-then-is_err.ensures, kept.advanced) (c.clear-then-is_err-2.ensures, kept.lesser) (c.clear-then-is_err-3.ensures, kept.greater)

pub returns : goal.returns
returns c =
    let out : Components = components_of c.args.retarded.now c.args.advanced.now c.args.lesser.now c.args.greater.now in
    accepted _ _ _ _ _ out (c.check_inputs.ensures (listed out) c.all_fit-outputs_fit.ensures) c.in_ok-check_inputs.was c.work.ensures
    (c.is_err.ensures.negation ∙ ap not c.if-is_err.false)
