-- Document 01, report: "six residuals as in `keldysh.rs`", and the seventh of document 02, L7; one for each identity: the largest norm of what
-- it leaves, over the places of which it speaks, rows first.
use Rattle.std.specs.Prelude.{◌&&◌}
use Rattle.lists.specs.Prelude.{ℕ, Bool, true, cond, List, eqb, ltb, Float}
use Rattle.std.specs.Float.Ieee as Ieee
use Rattle.complex.specs.Arithmetic.{plus_zero, one, minus_i, real, cfinite}
use Rattle.complex.specs.Sum.{largest_in}
use Rattle.block.specs.Operations.{adjoint, identity, scaled, subtracted, matrix_norm_max}
use Rattle.two_time.specs.Layout.{TwoTime, read_as, everywhere}
use Rattle.report.specs.declared.ConsistencyReport.{ConsistencyReport}
use Rattle.report.specs.declared.identities.Identity.{Identity}
use Rattle.report.specs.declared.identities.Identity.TheVariants.{RetardedCausality, AdvancedCausality, AdvancedAdjoint, LesserAntihermiticity}
use Rattle.report.specs.declared.identities.Identity.TheVariants.{GreaterAntihermiticity, Spectral, EqualTime}

-- x(t,u) − (−x(u,t)†): minus is a scaling by -1+0i
unfoldable pub minus_mirror : TwoTime → TwoTime
minus_mirror x t u = subtracted (x t u) (scaled (real (Ieee.neg one)) (adjoint (x u t)))

-- the support of a retarded function is asked at t < u, that of an advanced one at t > u, the rule of equal
-- times at t = u, all else everywhere
unfoldable pub counted : Identity → ℕ → ℕ → Bool
counted RetardedCausality t u = ltb t u
counted AdvancedCausality t u = ltb u t
counted AdvancedAdjoint t u = true
counted LesserAntihermiticity t u = true
counted GreaterAntihermiticity t u = true
counted Spectral t u = true
counted EqualTime t u = eqb t u

module _ (points orbitals : ℕ) (retarded advanced lesser greater : List Float) where
  abbrev function : List Float → TwoTime
  function = read_as points orbitals

  -- what an identity leaves at (t, u); the sixth is (G^R − G^A) − (G^> − G^<). The seventh (document 02, L7: "the equal-time rule, that
  -- G^> − G^< at (t,t) is −i times the identity") is that difference less −i times the identity.
  unfoldable pub deviation_of : Identity → TwoTime
  deviation_of RetardedCausality = function retarded
  deviation_of AdvancedCausality = function advanced
  deviation_of AdvancedAdjoint = λ t u. subtracted (function advanced t u) (adjoint (function retarded u t))
  deviation_of LesserAntihermiticity = minus_mirror (function lesser)
  deviation_of GreaterAntihermiticity = minus_mirror (function greater)
  deviation_of Spectral = λ t u. subtracted (subtracted (function retarded t u) (function advanced t u)) (subtracted (function greater t u) (function lesser t u))
  deviation_of EqualTime = λ t u. subtracted (subtracted (function greater t u) (function lesser t u)) (scaled minus_i identity)

  unfoldable pub residual_at : Identity → ℕ → ℕ → Float
  residual_at identity t u = cond (counted identity t u) (matrix_norm_max orbitals orbitals (deviation_of identity t u)) plus_zero

  unfoldable pub residual_of : Identity → Float
  residual_of identity = largest_in points points (residual_at identity)

  abbrev pub report_of : ConsistencyReport
  report_of =
      record {
        retarded_causality = residual_of RetardedCausality;
        advanced_causality = residual_of AdvancedCausality;
        advanced_adjoint = residual_of AdvancedAdjoint;
        lesser_antihermiticity = residual_of LesserAntihermiticity;
        greater_antihermiticity = residual_of GreaterAntihermiticity;
        spectral_identity = residual_of Spectral;
        equal_time = residual_of EqualTime;
      }

  -- "only its subtractions can give 10": the blocks of G^R − G^A and of G^> − G^<
  unfoldable pub differences_finite : Bool
  differences_finite =
      everywhere points orbitals (λ t u a b. cfinite (subtracted (function retarded t u) (function advanced t u) a b))
      && everywhere points orbitals (λ t u a b. cfinite (subtracted (function greater t u) (function lesser t u) a b))
