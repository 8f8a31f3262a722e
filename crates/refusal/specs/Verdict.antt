-- Document 01, "Questions in order": the answer to a question, how a call asks several, and what it leaves in what it was lent.
use Rattle.std.specs.Prelude.{⊤, Result, Ok, Err}
use Rattle.lists.specs.Prelude.{ℕ, zero, suc, Bool, true, false, cond, List, eqb, length, replicate, Float}
use Rattle.complex.specs.Arithmetic.{plus_zero}
use Rattle.refusal.specs.declared.Refusal.{Refusal}

infixr 30 ◌then◌
-- a refusal by a check that has no places
abbrev pub by : ℕ → Refusal
by number = record { number = number; operand = 0; first = 0; second = 0; part = plus_zero }

-- the answer to one question, or to several asked in order, and the answer yes
abbrev pub Verdict : Type 0
Verdict = Result ⊤ Refusal

abbrev pub pass : Verdict
pass = Ok tt

-- "Each line gives the number returned when the answer is no."
unfoldable pub ask : Bool → Refusal → Verdict
ask true r = pass
ask false r = Err r

-- two questions in order: the first refusal is the answer
abbrev pub ◌then◌ : Verdict → Verdict → Verdict
Ok tt then later = later
Err r then later = Err r

-- the questions f 0, f 1, .., f (n - 1), in order
unfoldable pub ask_all : ℕ → (ℕ → Verdict) → Verdict
ask_all zero f = pass
ask_all (suc n) f = ask_all n f then f n

-- the number of an answer; 0 where nothing is refused
unfoldable pub number_of : Verdict → ℕ
number_of (Ok tt) = 0
number_of (Err r) = r.number

-- +0 throughout
abbrev pub zeroed : List Float → List Float
zeroed before = replicate (length before) plus_zero

-- the refusals after which a slice is cleared
abbrev pub clears : ℕ → Bool
clears number = eqb number 10

-- What a slice holds afterwards: what was made, where the call is accepted. "After 10 every output and scratch slice holds +0
-- throughout; after any other number nothing lent has changed." There `cleared` is `zeroed`.
unfoldable pub afterwards : (List Float → List Float) → Verdict → List Float → List Float → List Float
afterwards cleared (Ok tt) made before = made
afterwards cleared (Err r) made before = cond (clears r.number) (cleared before) before

-- a number that is measured, once its questions are asked, and the refusal's number of such an answer: 0 where nothing is refused
unfoldable pub measured : Verdict → Float → Result Float Refusal
measured (Ok tt) x = Ok x
measured (Err r) x = Err r

unfoldable pub measured_number : Result Float Refusal → ℕ
measured_number (Ok x) = 0
measured_number (Err r) = r.number

-- a yes-or-no answer alike
unfoldable pub decide : Verdict → Bool → Result Bool Refusal
decide (Ok tt) true = Ok true
decide (Ok tt) false = Ok false
decide (Err r) b = Err r

unfoldable pub decision_number : Result Bool Refusal → ℕ
decision_number (Ok true) = 0
decision_number (Ok false) = 0
decision_number (Err r) = r.number
