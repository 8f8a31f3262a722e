-- 7 is asked where the checks before it pass.
use Rattle.std.proofs.Common.{rules, ◌≡◌, ◌∷◌, Bool, List}
use Rattle.lists.specs.Prelude.{sym, ◌∙◌, true, [], Float}
use Rattle.refusal.specs.Verdict.{Verdict, ◌then◌}
use Rattle.refusal.specs.Checks.{large_enough, within_limits, fitting, within_capacity}
use Rattle.refusal.specs.Agreement.{then-after, then-refused}
use Rattle.two_time.specs.declared.capacity.Shape.{Shape}
use Rattle.two_time.specs.Calls.{all_fit, capacity_checks, point_checks}
use Rattle.two_time.specs.CapacityChecks.{capacity-asked, capacity-passed}
use Rattle.two_time.proofs.capacity.check_points.Goals as goal

-- the checks before 7
before : (s : Shape) (xs : List Float) {fits : Bool} {v w : Verdict} → fits ≡ all_fit s.capacity s.orbitals (xs ∷ [])
    → v ≡ (large_enough s.points s.orbitals then within_limits s.capacity s.orbitals then fitting fits then within_capacity s.points s.capacity)
    → v ≡ w → capacity_checks s.capacity s.points s.orbitals true (xs ∷ []) ≡ w
before s xs {fits} {v} h e was = sym (capacity-asked s.capacity s.points s.orbitals true (xs ∷ []) fits v h e) ∙ was

pub returns-in_err-check_capacity : goal.returns-in_err-check_capacity
unfolding point_checks
returns-in_err-check_capacity c = rw (then-refused _ _ _ (before c.args.shape c.args.xs.now c.has_length-fits.ensures c.check_capacity.ensures c.in_err-check_capacity.was)) (search rules)

pub finite_points-requires : goal.finite_points-requires
finite_points-requires c =
    let z = capacity-passed _ _ _ _ _ (before c.args.shape c.args.xs.now c.has_length-fits.ensures c.check_capacity.ensures c.in_ok-check_capacity.was) in (z.2.points-most, z.2.orbitals-most, z.1)

pub returns : goal.returns
unfolding point_checks
returns c = c.finite_points.ensures ∙ sym (then-after _ _ (before c.args.shape c.args.xs.now c.has_length-fits.ensures c.check_capacity.ensures c.in_ok-check_capacity.was))
