-- Where the slices passed for the rest have their lengths, the number that leaves is document 01's number of the answer, and after 10 a slice passed
-- for numbers holds +0 throughout. Assumes nothing.
use Rattle.complex.specs.declared.Complex.{Complex}
use Rattle.matrix.specs.declared.DenseMatrix.{DenseMatrix}
use Rattle.refusal.specs.declared.Refusal.{Refusal}
use Rattle.std.specs.Result.{result_and}
use Rattle.std.specs.Prelude.{Result, Ok, Err, ◌≡◌}
use Rattle.lists.specs.Prelude.{refl, Bool, true, false, cond, List, ℕ, min, length, Float, eq-eqb}
use Rattle.refusal.specs.Verdict.{pass, Verdict, by, ask, number_of, zeroed, afterwards, measured_number, decision_number}
use Rattle.refusal.specs.Checks.{fitting}
use Rattle.matrix.specs.Calls.{value_number}
use Rattle.answers.specs.declared.numbers.Numbers.{Numbers}
use Rattle.answers.specs.Answer.{answer_of, with_output, measured_numbers, complex_numbers, numbers_answer, decision_answer, block_answer}

either : {A : Type 0} (b : Bool) (x : A) → cond b x x ≡ x
either true x = refl
either false x = refl

module _ (places : List ℕ) (part : List Float) where
  pub verdict-number : (v : Verdict) → (answer_of v places part).number ≡ number_of v
  unfolding answer_of number_of
  verdict-number (Ok tt) = refl
  verdict-number (Err r) = refl

  -- check 3 changes no verdict where it passes
  fits : (v : Verdict) → (answer_of (with_output true v) places part).number ≡ number_of v
  unfolding with_output fitting ask
  fits (Ok tt) = verdict-number pass
  fits (Err r) = rw either (verdict-number (Err r))

  pub numbers-number : (n : Numbers) (before : List Float) → length before ≡ min n.count 7 → (numbers_answer n before places part).answer.number ≡ number_of n.verdict
  unfolding numbers_answer
  numbers-number n before h = rw (eq-eqb (length before) (min n.count 7) h) (fits n.verdict)

  pub numbers-cleared : (n : Numbers) (before : List Float) → n.verdict ≡ Err (by 10) → length before ≡ min n.count 7
      → numbers_answer n before places part ≡ record { answer = answer_of (Err (by 10)) places part; out = zeroed before }
  unfolding numbers_answer with_output fitting ask afterwards
  numbers-cleared n before v h = rw (v, eq-eqb (length before) (min n.count 7) h)

  -- one complex number, as a trace that is not finite
  pub complex_cleared : {v : Result Complex Refusal} (before : List Float) → v ≡ Err (by 10) → length before ≡ 2
      → numbers_answer (complex_numbers v) before places part ≡ record { answer = answer_of (Err (by 10)) places part; out = zeroed before }
  complex_cleared before e h = rw e (numbers-cleared (complex_numbers (Err (by 10))) before refl h)

  pub decision_number_lem : (d : Result Bool Refusal) (before : List ℕ) → length before ≡ 1 → (decision_answer d before places part).answer.number ≡ decision_number d
  unfolding decision_answer decision_number number_of
  decision_number_lem (Ok true) before h = rw (eq-eqb (length before) 1 h) (fits pass)
  decision_number_lem (Ok false) before h = rw (eq-eqb (length before) 1 h) (fits pass)
  decision_number_lem (Err r) before h = rw (eq-eqb (length before) 1 h) (fits (Err r))

  pub block-number : (made : Result DenseMatrix Refusal) (shape : List ℕ) (out : List Float) → length shape ≡ 2 → length out ≡ 512
      → (block_answer made shape out places part).answer.number ≡ number_of (result_and made pass)
  unfolding block_answer
  block-number made shape out h l = rw (eq-eqb (length shape) 2 h, eq-eqb (length out) 512 l) (fits (result_and made pass))

pub measured_number_lem : (m : Result Float Refusal) → number_of (measured_numbers m).verdict ≡ measured_number m
unfolding number_of measured_number
measured_number_lem (Ok x) = refl
measured_number_lem (Err r) = refl

pub complex_number : (v : Result Complex Refusal) → number_of (complex_numbers v).verdict ≡ value_number v
unfolding number_of value_number
complex_number (Ok z) = refl
complex_number (Err r) = refl
