-- `complex::is_finite` meets its contract: a number between the infinities is no NaN and neither of them. By cases, each of which computes.
-- Assumes nothing.
use Rattle.std.specs.Prelude.{◌≡◌, ◌&&◌}
use Rattle.lists.specs.Prelude.{refl, true, false, Float, nan, inf, fin, lt, div, neg, of_bits, binary64}
use Rattle.complex.specs.Arithmetic.{finite, plus_zero, one}
use Rattle.complex.proofs.is_finite.Statement.{statement}
use Rattle.complex.proofs.is_finite.Tie as tie

between : (x : Float) → lt x (div binary64 one plus_zero) && lt (div binary64 (neg one) plus_zero) x ≡ finite x
unfolding lt div neg of_bits finite
between nan = refl
between (inf true) = refl
between (inf false) = refl
between (fin s m e) = refl

pub is_finite_spec : {M : Type 1} → statement M
is_finite_spec = tie.close (tie.spec (λ c. between c.args.x))
