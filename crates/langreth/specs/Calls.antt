-- Document 01, Langreth: the components of a product, and the outcome of `langreth_product`. "retarded causal, advanced sums s from t to t' with
-- weights (s, t, t') where t ≤ t' and is +0 elsewhere" are sums of their own; "lesser is left retarded with right lesser plus left lesser with
-- right advanced, greater alike, by `time_convolution`, in that order."
use Rattle.std.specs.Prelude.{◌&&◌, ◌∷◌, ◌++◌}
use Rattle.lists.specs.Prelude.{ℕ, Bool, List, [], Float}
use Rattle.complex.specs.Arithmetic.{cfinite}
use Rattle.refusal.specs.Verdict.{Verdict, ◌then◌, zeroed, afterwards}
use Rattle.refusal.specs.Checks.{finite_work}
use Rattle.block.specs.Operations.{added}
use Rattle.two_time.specs.declared.sums.Sums.TheVariants.{Full, Causal, AntiCausal}
use Rattle.two_time.specs.Layout.{TwoTime, read_as, lay_out_all, everywhere}
use Rattle.two_time.specs.Sums.{sums_of, sums_numbers, sums_finite}
use Rattle.two_time.specs.Calls.{input_checks}

-- a with b, plus c with d, and whether every block made for it is finite
module _ (points orbitals : ℕ) (times a b c d : List Float) where
  unfoldable pub correlation : TwoTime
  correlation t u =
      added (sums_of Full points orbitals times (read_as points orbitals a) (read_as points orbitals b) t u) (sums_of Full points orbitals times (read_as points orbitals c) (read_as points orbitals d) t u)

  abbrev pub correlation_numbers : List Float
  correlation_numbers = lay_out_all points orbitals correlation

  unfoldable pub correlation_finite : Bool
  correlation_finite =
      sums_finite Full points orbitals times a b && (sums_finite Full points orbitals times c d && everywhere points orbitals (λ t u i j. cfinite (correlation t u i j)))

-- four components: of an operand, or of what the outputs hold
pub record Components : Type 0 where
  pub retarded : List Float
  pub advanced : List Float
  pub lesser : List Float
  pub greater : List Float

-- of four slices
abbrev pub components_of : List Float → List Float → List Float → List Float → Components
components_of retarded advanced lesser greater = record { retarded = retarded; advanced = advanced; lesser = lesser; greater = greater }

-- the four in call order
abbrev pub listed : Components → List (List Float)
listed x = x.retarded ∷ x.advanced ∷ x.lesser ∷ x.greater ∷ []

-- the answer, and what the outputs hold afterwards
pub record Multiplied : Type 0 where
  pub answer : Verdict
  pub out : Components

module _ (points orbitals : ℕ) (times : List Float) (left right : Components) where
  -- the components of the product; lesser and greater, of the operands' x and y
  abbrev pub product_of : Components
  product_of =
      let correlations : List Float → List Float → List Float = λ x y. correlation_numbers points orbitals times left.retarded y x right.advanced in
      components_of (sums_numbers Causal points orbitals times left.retarded right.retarded) (sums_numbers AntiCausal points orbitals times left.advanced right.advanced)
      (correlations left.lesser right.lesser) (correlations left.greater right.greater)

  unfoldable pub product_finite : Bool
  product_finite =
      let finite : List Float → List Float → Bool = λ x y. correlation_finite points orbitals times left.retarded y x right.advanced in
      sums_finite Causal points orbitals times left.retarded right.retarded
      && (sums_finite AntiCausal points orbitals times left.advanced right.advanced && (finite left.lesser right.lesser && finite left.greater right.greater))

  -- operands the left four, then the right four: checks 1 to 7, then 10
  unfoldable pub product_verdict : Components → Verdict
  product_verdict out = input_checks points orbitals times (listed left ++ listed right) (listed out) then finite_work product_finite

  unfoldable pub langreth_product : Components → Multiplied
  langreth_product out =
      let holds : List Float → List Float → List Float = afterwards zeroed (product_verdict out) in
      record {
        answer = product_verdict out;
        out = components_of (holds product_of.retarded out.retarded) (holds product_of.advanced out.advanced) (holds product_of.lesser out.lesser) (holds product_of.greater out.greater);
      }
