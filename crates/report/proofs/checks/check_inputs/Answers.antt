-- The checks in their order.
use Rattle.std.proofs.Common.{rules, ◌≡◌, ◌∷◌, Bool, List}
use Rattle.lists.specs.Prelude.{sym, ◌∙◌, true, [], Float}
use Rattle.refusal.specs.Verdict.{Verdict, ◌then◌}
use Rattle.refusal.specs.Checks.{large_enough, within_limits, fitting}
use Rattle.refusal.specs.Agreement.{then-end}
use Rattle.two_time.specs.Calls.{all_fit, size_checks, operand_checks}
use Rattle.two_time.specs.SizeChecks.{sizes_asked_lem}
use Rattle.report.specs.declared.components.Components.{Components}
use Rattle.report.proofs.checks.check_inputs.Goals as goal

abbrev lent : Components → List (List Float)
lent x = x.retarded.now ∷ x.advanced.now ∷ x.lesser.now ∷ x.greater.now ∷ []

-- checks 1 to 3 answer what their call answers
sizes : (x : Components) {all : Bool} {v w : Verdict} → all ≡ all_fit x.points x.orbitals (lent x)
    → v ≡ (large_enough x.points x.orbitals then within_limits x.points x.orbitals then fitting all) → v ≡ w → size_checks x.points x.orbitals true (lent x) ≡ w
sizes x f e p = sym (sizes_asked_lem x.points x.orbitals (lent x) true _ _ f e) ∙ p

pub returns-in_err-check_sizes : goal.returns-in_err-check_sizes
returns-in_err-check_sizes c = rw (sizes c.args.components c.all_fit-fits.ensures c.check_sizes.ensures c.in_err-check_sizes.was) (search rules)

pub returns-in_err-check_operand : goal.returns-in_err-check_operand
unfolding operand_checks
returns-in_err-check_operand c =
    rw (sizes c.args.components c.all_fit-fits.ensures c.check_sizes.ensures c.in_ok-check_sizes.was, sym c.check_operand.ensures ∙ c.in_err-check_operand.was) (search rules)

pub returns-in_err-check_operand-2 : goal.returns-in_err-check_operand-2
unfolding operand_checks
returns-in_err-check_operand-2 c =
    rw (
      sizes c.args.components c.all_fit-fits.ensures c.check_sizes.ensures c.in_ok-check_sizes.was,
      sym c.check_operand.ensures ∙ c.in_ok-check_operand.was,
      sym c.check_operand-2.ensures ∙ c.in_err-check_operand-2.was,
    ) (search rules)

pub returns-in_err-check_operand-3 : goal.returns-in_err-check_operand-3
unfolding operand_checks
returns-in_err-check_operand-3 c =
    rw (
      sizes c.args.components c.all_fit-fits.ensures c.check_sizes.ensures c.in_ok-check_sizes.was,
      sym c.check_operand.ensures ∙ c.in_ok-check_operand.was,
      sym c.check_operand-2.ensures ∙ c.in_ok-check_operand-2.was,
      sym c.check_operand-3.ensures ∙ c.in_err-check_operand-3.was,
    ) (search rules)

pub returns : goal.returns
unfolding operand_checks
returns c =
    rw (
      sizes c.args.components c.all_fit-fits.ensures c.check_sizes.ensures c.in_ok-check_sizes.was,
      sym c.check_operand.ensures ∙ c.in_ok-check_operand.was,
      sym c.check_operand-2.ensures ∙ c.in_ok-check_operand-2.was,
      sym c.check_operand-3.ensures ∙ c.in_ok-check_operand-3.was,
    ) (c.check_operand-4.ensures ∙ sym (then-end _))
