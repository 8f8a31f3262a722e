-- On the diagonal 1·(−i), elsewhere 0·(−i), computed. Assumes nothing.
use Rattle.lists.specs.Prelude.{refl, eq-eqb, ne_eqb}
use Rattle.std.specs.Float.Ieee as Ieee
use Rattle.complex.specs.Arithmetic.{cmul}
use Rattle.block.specs.Operations.{identity, scaled}
use Rattle.report.proofs.identities.minus_i_identity.Goals as goal

pub returns-then-a-b : goal.returns-then-a-b
unfolding scaled identity cmul Ieee.of_bits Ieee.add Ieee.sub Ieee.mul Ieee.neg
returns-then-a-b c = rw (eq-eqb _ _ c.if-a-b.true) refl

pub returns-else-a-b : goal.returns-else-a-b
unfolding scaled identity cmul Ieee.of_bits Ieee.add Ieee.sub Ieee.mul Ieee.neg
returns-else-a-b c = rw (ne_eqb _ _ c.if-a-b.false) refl
