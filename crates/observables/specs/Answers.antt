-- What a call answers where a question refuses, and where all pass. Assumes nothing.
use Rattle.std.specs.Prelude.{Ok, Err, ◌≡◌}
use Rattle.lists.specs.Prelude.{refl, sym, ap, ◌∙◌, List, ℕ, Float}
use Rattle.complex.specs.declared.Complex.{Complex}
use Rattle.complex.specs.Arithmetic.{cfinite}
use Rattle.refusal.specs.declared.Refusal.{Refusal}
use Rattle.refusal.specs.Verdict.{pass, Verdict, ◌then◌}
use Rattle.refusal.specs.Agreement.{then-assoc, then-after, then-refused}
use Rattle.refusal.specs.Checks.{time_below, valid_tolerance, real_within, finite_work}
use Rattle.matrix.specs.declared.DenseMatrix.{DenseMatrix}
use Rattle.block.specs.Block.{Entries, entries_in}
use Rattle.matrix.specs.Dense.{entries_of, checked}
use Rattle.block.specs.Operations.{product, trace, finite_trace, all_finite}
use Rattle.observables.specs.declared.Observed.{Observed}
use Rattle.observables.specs.declared.Observed.TheVariants.{Number}
use Rattle.observables.specs.Density.{density_of, product_of}
use Rattle.observables.specs.Calls.{observed, lesser_checks, lesser_block_checks, particle_number, one_body_expectation}
use Rattle.observables.specs.Passed.{ends-passed}
use Rattle.observables.specs.LesserChecks.{block_at}

-- ---- blocks

pub checked_yes : {v w : Verdict} {block made : DenseMatrix} → v ≡ pass → v ≡ w → block ≡ made → Ok block ≡ checked w made
unfolding checked
checked_yes p e b = rw (← e, b, p)

pub checked-no : {v w : Verdict} {r : Refusal} (made : DenseMatrix) → v ≡ Err r → v ≡ w → Err r ≡ checked w made
unfolding checked
checked-no made p e = rw (← e, p)

-- ---- observables

-- a number, and a refusal whatever the number is
pub observed_yes : {v : Verdict} {x y : Float} → v ≡ pass → y ≡ x → Number y ≡ observed v x
unfolding observed
observed_yes p e = rw (p, e)

pub observed-no : {v : Verdict} {r : Refusal} (x y : Float) → v ≡ Err r → observed (Err r) x ≡ observed v y
unfolding observed
observed-no x y p = rw p

-- 10 and 14 of a trace, then its real part
abbrev pub real_observed : Float → Complex → Observed
real_observed tolerance z = observed (finite_work (cfinite z) then real_within tolerance z.im) z.re

-- 8 and 11 after the checks of what is read
abbrev pub with_arguments : Float → ℕ → ℕ → Verdict → Verdict
with_arguments tolerance time points inputs = inputs then valid_tolerance tolerance then time_below time points

-- three checks that are made together before others: they refuse, or pass
module _ (a b c w : Verdict) {v : Verdict} (asked : v ≡ (a then b then c)) where
  in-line : ((a then b then c) then w) ≡ (a then b then c then w)
  in-line = then-assoc a (b then c) w ∙ ap (λ (u : Verdict). a then u) (then-assoc b c w)

  pub first-refused : {r : Refusal} (x y : Float) → v ≡ Err r → observed (Err r) x ≡ observed (a then b then c then w) y
  first-refused {r} x y p = observed-no x y (sym in-line ∙ then-refused (a then b then c) w r (sym asked ∙ p))

  pub first-passed : (x : Float) → v ≡ pass → observed w x ≡ observed (a then b then c then w) x
  first-passed x p = ap (λ (u : Verdict). observed u x) (sym (then-after (a then b then c) w (sym asked ∙ p)) ∙ in-line)

-- the trace of the density
module _ (capacity points orbitals : ℕ) (lesser : List Float) (time : ℕ) (tolerance : Float) where
  -- the questions in their order
  pub number-order : (z : Complex) → trace orbitals (density_of capacity orbitals lesser time) ≡ z
      → observed (lesser_checks capacity points orbitals lesser then valid_tolerance tolerance then time_below time points then finite_work (cfinite z) then real_within tolerance z.im) z.re
      ≡ particle_number capacity points orbitals lesser time tolerance
  unfolding particle_number
  number-order z e = rw e refl

-- the trace of the product by a matrix
module _ (capacity points orbitals : ℕ) (lesser : List Float) (time : ℕ) (x : DenseMatrix) (tolerance : Float) where
  abbrev pub asks : Entries → Verdict
  asks f = finite_work (all_finite orbitals orbitals f) then finite_work (finite_trace orbitals f) then real_within tolerance (trace orbitals f).im

  -- the questions in their order
  pub product-order : (o rho : Entries) → entries_of x ≡ o → density_of capacity orbitals lesser time ≡ rho
      → observed (lesser_block_checks capacity points orbitals lesser x then valid_tolerance tolerance then time_below time points then asks (product orbitals o rho)) (trace orbitals (product orbitals o rho)).re
      ≡ one_body_expectation capacity points orbitals lesser time x tolerance
  unfolding one_body_expectation
  product-order o rho e d = rw (e, d) refl
