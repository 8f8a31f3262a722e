-- None rises to a time past the end.
use Rattle.lists.specs.Prelude.{arith}
use Rattle.refusal.specs.Search.{past_rise}
use Rattle.refusal.proofs.checks.rising_prefix.Goals as goal

pub returns-then-not-times-i : goal.returns-then-not-times-i
returns-then-not-times-i c = record { within = omega arith; passed = c.loop-i.invariant; ended = λ _. c.if-not-times-i.true }

pub returns : goal.returns
returns c = record { within = omega arith; passed = λ k l. c.loop-i.invariant k (omega arith); ended = λ l. past_rise c.args.times.now _ (omega arith) }
