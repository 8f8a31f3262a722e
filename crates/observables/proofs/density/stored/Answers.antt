-- The place lies in the slice, so the entry is found.
use Rattle.lists.specs.Prelude.{◌∙◌, ap}
use Rattle.complex.specs.Arithmetic.{czero}
use Rattle.std.specs.Option.{unwrap_or}
use Rattle.two_time.specs.Places.{read-placed}
use Rattle.observables.proofs.density.stored.Goals as goal

pub returns : goal.returns
returns c = c.unwrap_or.ensures ∙ ap (λ s. unwrap_or s czero) (c.read.ensures ∙ read-placed c.args.xs.now c.requires.placed c.requires.orbitals_in_bounds)
