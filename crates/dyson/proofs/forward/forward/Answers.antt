-- Row by row.
use Rattle.std.specs.Prelude.{is_ok}
use Rattle.std.proofs.Common.{rules, ◌≡◌, arith}
use Rattle.std.proofs.lemmas.Result.{err_from_is_err_and}
use Rattle.lists.specs.Prelude.{ap, ◌∙◌}
use Rattle.dyson.proofs.Rows.{before-first, after-last, row-made, row-lost}
use Rattle.dyson.proofs.forward.forward.Goals as goal

pub loop-t-init : goal.loop-t-init
loop-t-init c = before-first _ _ _ _ _ _ _ _ c.requires c.clear_new.ensures

pub loop-t-preserved : goal.loop-t-preserved
loop-t-preserved c = row-made _ _ _ _ _ _ _ _ c.requires c.loop-t.invariant (omega arith) (omega arith) (c.loop-t.auto.retarded ∙ c.clear_new.auto.xs) c.forward_row.ensures c.in_ok-forward_row.was

pub returns-in_err-forward_row : goal.returns-in_err-forward_row
returns-in_err-forward_row c =
    let p = err_from_is_err_and c.from_residual.result c.from_residual.ensures.1 in
    row-lost _ _ _ _ _ _ _ _ c.requires c.loop-t.invariant (omega arith) (omega arith) (c.loop-t.auto.retarded ∙ c.clear_new.auto.xs) c.forward_row.ensures c.in_err-forward_row.was (ap is_ok p.1)

pub returns : goal.returns
returns c = after-last _ _ _ _ _ _ _ _ c.requires c.loop-t.invariant (omega arith) (omega arith)
