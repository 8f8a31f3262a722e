-- An answer as it leaves: its number, what a refusal carries, and numbers, a decision or a block, each in slices passed for it.
use Rattle.complex.specs.declared.Complex.{Complex}
use Rattle.refusal.specs.declared.Refusal.{Refusal}
use Rattle.std.specs.Borrow.{MutBor}
use Rattle.std.specs.Result.{result_and, result_unwrap_or}
use Rattle.std.specs.Prelude.{Result, Ok, Err, ◌-◌, ◌||◌, ◌&&◌, ◌∷◌, ◌++◌}
use Rattle.lists.specs.Prelude.{true, false, ℕ, min, Bool, cond, List, [], eqb, length, replicate, take, Float}
use denote.Triple.Both.{Both}
use Rattle.complex.specs.Arithmetic.{plus_zero}
use Rattle.refusal.specs.Verdict.{pass, Verdict, ◌then◌, zeroed, afterwards}
use Rattle.refusal.specs.Checks.{fitting}
use Rattle.matrix.specs.declared.DenseMatrix.{DenseMatrix}
use Rattle.matrix.specs.Dense.{no_block}
use Rattle.answers.specs.declared.numbers.Numbers.{Numbers}

-- a slice passed to be written: what it holds as the call begins, `.entry`, and as it ends, `.exit`
abbrev pub Passed : Type 0 → Type 0
Passed A = Both (MutBor (List A)) (MutBor (List A))

-- the number, 0 where the call is accepted, and what `places` and `part` hold
pub record Answer : Type 0 where
  pub number : ℕ
  pub places : List ℕ
  pub part : List Float

-- what a slice passed for these items holds afterwards: one of another length is as it was
unfoldable pub written : {A : Type 0} → List A → List A → List A
written items before = cond (eqb (length before) (length items)) items before

-- a refusal writes its operand, first and second place, and its part; an accepted call writes nothing
unfoldable pub answer_of : Verdict → List ℕ → List Float → Answer
answer_of (Ok tt) places part = record { number = 0; places = places; part = part }
answer_of (Err r) places part =
    record { number = r.number; places = written (r.operand ∷ r.first ∷ r.second ∷ []) places; part = written (r.part ∷ []) part }

-- In a contract: `after` the call, which returned this number, there is what its verdict `answers`.
abbrev pub after : ℕ → Passed ℕ → Passed Float → Answer
after number places part = record { number = number; places = places.exit.now; part = part.exit.now }

abbrev pub answers : Verdict → Passed ℕ → Passed Float → Answer
answers verdict places part = answer_of verdict places.entry.now part.entry.now

-- "Has each lent slice its exact length? 3", of what is passed for an output: asked after checks 1 and 2 and before all others, so that a
-- refusal by one of those two stands
unfoldable pub with_output : Bool → Verdict → Verdict
with_output fits (Ok tt) = fitting fits
with_output fits (Err r) = cond (eqb r.number 1 || eqb r.number 2) (Err r) (fitting fits then Err r)

-- an answer with what its output holds
pub record With (Out : Type 0) : Type 0 where
  pub answer : Answer
  pub out : Out

abbrev pub after_with : {A : Type 0} → ℕ → Passed A → Passed ℕ → Passed Float → With (List A)
after_with number out places part = record { answer = after number places part; out = out.exit.now }

-- at most seven numbers, as the first of seven values: one that is measured, and a complex number by its two parts
abbrev pub numbered : Verdict → List Float → Numbers
numbered verdict numbers = record { verdict = verdict; count = length numbers; values = numbers ++ replicate (7 - length numbers) plus_zero }

abbrev pub measured_numbers : Result Float Refusal → Numbers
measured_numbers (Ok x) = numbered pass (x ∷ [])
measured_numbers (Err r) = numbered (Err r) (replicate 1 plus_zero)

abbrev pub complex_numbers : Result Complex Refusal → Numbers
complex_numbers (Ok z) = numbered pass (z.re ∷ z.im ∷ [])
complex_numbers (Err r) = numbered (Err r) (replicate 2 plus_zero)

unfoldable pub numbers_answer : Numbers → List Float → List ℕ → List Float → With (List Float)
numbers_answer n before places part =
    let count = min n.count 7 in
    let verdict = with_output (eqb (length before) count) n.verdict in
    record { answer = answer_of verdict places part; out = afterwards zeroed verdict (written (take count n.values) before) before }

abbrev pub answers_numbers : Numbers → Passed Float → Passed ℕ → Passed Float → With (List Float)
answers_numbers n value places part = numbers_answer n value.entry.now places.entry.now part.entry.now

-- a decision in one byte: 1 for yes, 0 for no
abbrev pub decision_verdict : Result Bool Refusal → Verdict
decision_verdict (Ok true) = pass
decision_verdict (Ok false) = pass
decision_verdict (Err r) = Err r

unfoldable pub decision_byte : Result Bool Refusal → List ℕ → List ℕ
decision_byte (Ok true) before = written (1 ∷ []) before
decision_byte (Ok false) before = written (0 ∷ []) before
decision_byte (Err r) before = before

unfoldable pub decision_answer : Result Bool Refusal → List ℕ → List ℕ → List Float → With (List ℕ)
decision_answer d before places part =
    record { answer = answer_of (with_output (eqb (length before) 1) (decision_verdict d)) places part; out = decision_byte d before }

abbrev pub answers_decision : Result Bool Refusal → Passed ℕ → Passed ℕ → Passed Float → With (List ℕ)
answers_decision d decided places part = decision_answer d decided.entry.now places.entry.now part.entry.now

-- the block of these rows, columns and 512 numbers
abbrev pub block : ℕ → ℕ → List Float → DenseMatrix
block rows columns values = record { rows = rows; columns = columns; values = values }

-- A block that is made, or `no_block` beside a refusal, is written where its shape has two places and its numbers 512; otherwise both are as they were.
pub record Slices : Type 0 where
  pub shape : List ℕ
  pub values : List Float

abbrev pub slices : List ℕ → List Float → Slices
slices shape values = record { shape = shape; values = values }

abbrev pub room : List ℕ → List Float → Bool
room shape out = eqb (length shape) 2 && eqb (length out) 512

unfoldable pub block_written : DenseMatrix → List ℕ → List Float → Slices
block_written x shape out = cond (room shape out) (slices (x.rows ∷ x.columns ∷ []) x.values) (slices shape out)

unfoldable pub block_answer : Result DenseMatrix Refusal → List ℕ → List Float → List ℕ → List Float → With Slices
block_answer made shape out places part =
    record { answer = answer_of (with_output (room shape out) (result_and made pass)) places part; out = block_written (result_unwrap_or made no_block) shape out }

abbrev pub after_block : ℕ → Passed ℕ → Passed Float → Passed ℕ → Passed Float → With Slices
after_block number shape out places part = record { answer = after number places part; out = slices shape.exit.now out.exit.now }

abbrev pub answers_block : Result DenseMatrix Refusal → Passed ℕ → Passed Float → Passed ℕ → Passed Float → With Slices
answers_block made shape out places part = block_answer made shape.entry.now out.entry.now places.entry.now part.entry.now
