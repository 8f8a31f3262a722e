-- The test of one slice and that of the later ones are the test of all.
use Rattle.two_time.specs.SizeChecks.{fits_more}
use Rattle.two_time.proofs.checks.all_fit.Goals as goal

pub returns : goal.returns
returns c =
    fits_more _ _ _ _ _ _ c.has_length.ensures
    (fits_more _ _ _ _ _ _ c.has_length-2.ensures
    (fits_more _ _ _ _ _ _ c.has_length-3.ensures c.has_length-4.ensures))
