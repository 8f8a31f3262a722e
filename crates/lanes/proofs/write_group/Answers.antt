-- Unfit, finite, or not finite with the slice cleared.
use Rattle.lists.specs.Prelude.{sym, ap, ◌∙◌, ℕ, replicate}
use Rattle.complex.specs.Arithmetic.{plus_zero}
use Rattle.two_time.specs.Outcome.{summed_out}
use Rattle.lanes.specs.Lanes.{written}
use Rattle.lanes.proofs.write_group.Goals as goal

pub returns-then-not-orbitals-places : goal.returns-then-not-orbitals-places
unfolding written summed_out
returns-then-not-orbitals-places c = let e = c.if-not-orbitals-places.true in (rw e, rw e)

pub returns-then-not-places-orbitals : goal.returns-then-not-places-orbitals
unfolding written summed_out
returns-then-not-places-orbitals c = let few = c.if-not-orbitals-places.false in let e = c.if-not-places-orbitals.true in (rw (few, e), rw (few, e))

pub returns-then-write_blocks : goal.returns-then-write_blocks
unfolding written summed_out
returns-then-write_blocks c =
    let few = c.if-not-orbitals-places.false in
    let fits = c.if-not-places-orbitals.false in
    let finite = sym c.write_blocks.ensures.0 ∙ c.if-write_blocks.true in
    (rw (few, fits, finite), rw (few, fits, finite) (c.write_blocks.ensures.1 c.if-write_blocks.true))

pub returns : goal.returns
unfolding written summed_out
returns c =
    let few = c.if-not-orbitals-places.false in
    let fits = c.if-not-places-orbitals.false in
    let finite = sym c.write_blocks.ensures.0 ∙ c.if-write_blocks.false in
    (rw (few, fits, finite), rw (few, fits, finite) (c.clear.ensures ∙ ap (λ (m : ℕ). replicate m plus_zero) c.write_blocks.auto.out))
