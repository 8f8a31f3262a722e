-- The length that is asked is that of N and n cut to their limits.
use Rattle.std.proofs.Common.{ℕ, ◌&&◌, length}
use Rattle.lists.specs.Prelude.{ap, ◌∙◌, eqb, leb}
use Rattle.two_time.specs.SizeChecks.{fits_one}
use Rattle.two_time.proofs.checks.has_length.Goals as goal

pub returns : goal.returns
returns c =
    let x = c.args in ap (λ (m : ℕ). (leb x.points 256 && leb x.orbitals 16) && eqb (length x.xs.now) m) c.function_length.ensures ∙ fits_one x.points x.orbitals x.xs.now
