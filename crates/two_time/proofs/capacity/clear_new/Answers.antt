-- What is asked of the sizes is what the test says.
use Rattle.std.proofs.Common.{◌&&◌}
use Rattle.lists.specs.Prelude.{sym, ◌∙◌, leb, leb-true}
use Rattle.lists.specs.Agreement.{both}
use Rattle.two_time.specs.SizeChecks.{fit_said}
use Rattle.two_time.proofs.capacity.clear_new.Goals as goal

pub clear_rows-requires : goal.clear_rows-requires
clear_rows-requires c =
    let x = c.args in
    let tests = both (leb x.old x.shape.points && leb x.shape.points x.shape.capacity) c.has_length.result c.if-there-has_length.true in
    let orders = both (leb x.old x.shape.points) _ tests.0 in
    let fit = fit_said x.shape.capacity x.shape.orbitals x.xs.now (sym c.has_length.ensures ∙ tests.1) in
    (fit.0, fit.1, leb-true _ _ orders.0, leb-true _ _ orders.1, fit.2)
