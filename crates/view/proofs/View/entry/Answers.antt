-- Where the checks pass the entry is stored.
use Rattle.std.proofs.Common.{◌≡◌}
use Rattle.std.specs.Option.{unwrap_or}
use Rattle.lists.specs.Prelude.{refl, sym, ap, ◌∙◌}
use Rattle.complex.specs.Arithmetic.{czero}
use Rattle.refusal.specs.Verdict.{pass}
use Rattle.matrix.specs.Calls.{valued}
use Rattle.view.specs.Calls.{entry_checks, stored_entry}
use Rattle.view.specs.EntryRead.{entry-there}
use Rattle.view.proofs.View.entry.Goals as goal

pub returns : goal.returns
unfolding stored_entry entry_checks valued
returns c =
    let v = c.args.self in
    let x = c.args in
    let lesser = sym c.check.ensures ∙ c.in_ok-check.was in
    let first = sym c.time_below.ensures ∙ c.in_ok-time_below.was in
    let second = sym c.time_below-2.ensures ∙ c.in_ok-time_below-2.was in
    let row = sym c.orbital_below.ensures ∙ c.in_ok-orbital_below.was in
    let column = sym c.orbital_below-2.ensures ∙ c.in_ok-orbital_below-2.was in
    let asked : entry_checks v.points v.orbitals v.numbers.now x.t x.u x.a x.b ≡ pass = rw (lesser, first, second, row, column) refl in
    let there = c.unwrap_or.ensures ∙ ap (λ s. unwrap_or s czero) (c.read-stored.ensures ∙ entry-there v.points v.orbitals v.numbers.now x.t x.u x.a x.b asked) in
    rw (lesser, first, second, row, column, there) refl
