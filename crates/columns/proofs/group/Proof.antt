-- `columns::group` meets its contract: one place at one orbital by its own loop, all else by `groups::group`. Assumes nothing.
use Rattle.std.specs.Prelude.{◌≡◌}
use Rattle.lists.specs.Prelude.{sym, ap, ap₂, ◌∙◌, true, ℕ, eqb, length, rules, eqb-true}
use Rattle.lists.specs.Agreement.{both}
use Rattle.two_time.specs.Outcome.{SumsOutcome}
use Rattle.groups.specs.PlaceSums.{begins}
use Rattle.groups.specs.Groups.{group_sums}
use Rattle.columns.specs.Singles.{Single, single, single-outcome}
use Rattle.columns.proofs.group.Statement.{statement}
use Rattle.columns.proofs.group.Tie as tie

abbrev start : tie.Then-single-out → tie.Start
start c = c.before.before.before.before.before.before

tests : (c : tie.Then-single-out) → (c.before.is_single-single.result ≡ true) × (length ((start c).args.out.now) ≡ 2)
tests c = let b = both _ (eqb (length ((start c).args.out.now)) 2) c.if-single-out.true in (b.0, eqb-true _ _ b.1)

one : (c : tie.Then-single-out) → let x = (start c).args in (x.orbitals ≡ 1) × (x.places ≡ 1) × Single x.sums x.points x.left.now x.right.now x.t x.u
one c = let x = (start c).args in single x.sums x.points x.orbitals x.left.now x.right.now x.t x.u x.places (sym c.before.is_single-single.ensures ∙ (tests c).0)

returns : tie.Need-returns-then-single-out
returns c =
    let w = c.before.before in let p = w.before.before in let d = p.before in let x = (start d).args in
    let e : group_sums x.sums x.points x.orbitals x.times.now x.left.now x.right.now x.t x.u x.places x.out.now ≡ _ =
    ap₂ (λ (n places : ℕ). group_sums x.sums x.points n x.times.now x.left.now x.right.now x.t x.u places x.out.now) (one d).0 (one d).1
    ∙ single-outcome x.sums x.points x.times.now x.left.now x.right.now x.t x.u x.out.now (one d).2 (tests d).1 p.place_sum-z.result
    (p.place_sum-z.ensures ∙ begins x.sums x.points 1 x.times.now x.left.now x.right.now x.t x.u 0 0) in
    (w.write.ensures.0 ∙ sym (ap (λ (o : SumsOutcome). o.answer) e), w.write.ensures.1 ∙ sym (ap (λ (o : SumsOutcome). o.out) e))

pub group_spec : {M : Type 1} → statement M
group_spec =
    tie.close (tie.spec
    (λ c κs. search rules)  -- is_single-single-requires
    (λ c κs. (one c).2) (λ c κs. (tests c.before.before).1)  -- place_sum-z-requires, write-requires
    (λ c. search rules)  -- shape_of-out-then-single-out
    returns
    (λ c κs. search rules) (λ c. search rules) (λ c. search rules))  -- group-requires, same-length-2, returns-2
