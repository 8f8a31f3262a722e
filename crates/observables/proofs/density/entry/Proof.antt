-- `observables::density::entry` meets its contract: the entry is there to be read. Assumes nothing.
use Rattle.lists.specs.Prelude.{ap, ◌∙◌, rules}
use lib.Ieee as Ieee
use Rattle.complex.specs.Arithmetic.{minus_i, cmul}
use Rattle.observables.specs.Density.{density}
use Rattle.observables.specs.Passed.{passed-placed}
use Rattle.observables.proofs.density.entry.Statement.{statement}
use Rattle.observables.proofs.density.entry.Tie as tie

pub entry_spec : {M : Type 1} → statement M
unfolding Ieee.neg Ieee.of_bits density
entry_spec =
    tie.close
    (tie.spec
    (λ c κs. let h = c.before.requires in (passed-placed h.0 h.1.0 h.1.1, h.0.room))  -- stored-requires
    (λ c κs. search rules)  -- times-requires
    (λ c. c.times.ensures ∙ ap (cmul minus_i) c.before.stored.ensures))  -- returns
