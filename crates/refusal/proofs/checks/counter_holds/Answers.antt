-- The sum is there exactly where it is within the word.
use Rattle.std.proofs.Common.{Option, Some, None, ◌≡◌, ◌<◌}
use Rattle.std.specs.Option.{SomeIff, is_some}
use Rattle.lists.specs.Prelude.{sym, ◌∙◌, ℕ, arith, leb, le-leb, lt-leb}
use Rattle.refusal.specs.Checks.{counter_holds}
use Rattle.refusal.proofs.checks.counter_holds.Goals as goal

there : (r : Option ℕ) (n : ℕ) → SomeIff r (n < 0x1_0000_0000_0000_0000) n → is_some r ≡ leb n 0xffff_ffff_ffff_ffff
there None n h = sym (lt-leb n 0xffff_ffff_ffff_ffff (omega arith))
there (Some x) n h = sym (le-leb n 0xffff_ffff_ffff_ffff (omega arith))

pub returns : goal.returns
unfolding counter_holds
returns c = c.numbered.ensures ∙ rw (c.is_some.ensures, there _ _ c.checked_add.ensures)
