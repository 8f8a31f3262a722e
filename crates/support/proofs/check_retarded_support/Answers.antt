-- It asks the checks of `check_support` in their order.
use Rattle.std.proofs.Common.{rules, ◌≡◌, ◌∷◌, Bool, List, le_refl, le_of_eq}
use Rattle.lists.specs.Prelude.{sym, ◌∙◌, true, [], ℕ, Float}
use Rattle.refusal.specs.Verdict.{Verdict, ◌then◌}
use Rattle.refusal.specs.Checks.{large_enough, within_limits, fitting}
use Rattle.two_time.specs.Calls.{all_fit, size_checks}
use Rattle.two_time.specs.SizeChecks.{sizes-one, sizes-passed, long-first}
use Rattle.two_time.specs.Checks.{operands-last}
use Rattle.support.specs.Support.{check_support}
use Rattle.support.proofs.check_retarded_support.Goals as goal

sizes : (points orbitals : ℕ) (xs : List Float) {fits : Bool} {v w : Verdict} → fits ≡ all_fit points orbitals (xs ∷ [])
    → v ≡ (large_enough points orbitals then within_limits points orbitals then fitting fits) → v ≡ w → size_checks points orbitals true (xs ∷ []) ≡ w
sizes points orbitals xs f e h = sym (sizes-one points orbitals xs f e) ∙ h

pub returns-in_err-check_sizes : goal.returns-in_err-check_sizes
unfolding check_support
returns-in_err-check_sizes c = rw (sizes _ _ c.args.xs.now c.has_length.ensures c.check_sizes.ensures c.in_err-check_sizes.was) (search rules)

pub returns-in_err-check_operand : goal.returns-in_err-check_operand
unfolding check_support
returns-in_err-check_operand c =
    rw (
      sizes _ _ c.args.xs.now c.has_length.ensures c.check_sizes.ensures c.in_ok-check_sizes.was,
      sym (operands-last 0 _ _ c.check_operand.ensures) ∙ c.in_err-check_operand.was,
    ) (search rules)

pub returns-in_err-valid_tolerance : goal.returns-in_err-valid_tolerance
unfolding check_support
returns-in_err-valid_tolerance c =
    rw (
      sizes _ _ c.args.xs.now c.has_length.ensures c.check_sizes.ensures c.in_ok-check_sizes.was,
      sym (operands-last 0 _ _ c.check_operand.ensures) ∙ c.in_ok-check_operand.was,
      sym c.valid_tolerance.ensures ∙ c.in_err-valid_tolerance.was,
    ) (search rules)

pub retarded-requires : goal.retarded-requires
retarded-requires c =
    let z = sizes-passed _ _ true _ (sizes _ _ c.args.xs.now c.has_length.ensures c.check_sizes.ensures c.in_ok-check_sizes.was) in
    (z.points-most, z.orbitals-most, le_refl _, le_of_eq (sym (long-first _ _ _ z.long).0))

pub returns : goal.returns
unfolding check_support
returns c =
    rw (
      sizes _ _ c.args.xs.now c.has_length.ensures c.check_sizes.ensures c.in_ok-check_sizes.was,
      sym (operands-last 0 _ _ c.check_operand.ensures) ∙ c.in_ok-check_operand.was,
      sym c.valid_tolerance.ensures ∙ c.in_ok-valid_tolerance.was,
    ) c.retarded.ensures
