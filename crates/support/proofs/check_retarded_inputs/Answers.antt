-- It asks the checks of `check_inputs` in their order.
use Rattle.std.proofs.Common.{rules, ◌≡◌, ◌∷◌, ◌&&◌, Bool, List, le_of_eq}
use Rattle.lists.specs.Prelude.{sym, ◌∙◌, true, [], Float}
use Rattle.refusal.specs.Verdict.{Verdict, ◌then◌}
use Rattle.refusal.specs.Checks.{large_enough, within_limits, fitting, within_capacity}
use Rattle.two_time.specs.declared.capacity.Shape.{Shape}
use Rattle.two_time.specs.Calls.{all_fit, capacity_checks}
use Rattle.two_time.specs.SizeChecks.{fits_more, long-first}
use Rattle.two_time.specs.CapacityChecks.{capacity-asked, capacity-passed}
use Rattle.support.specs.Support.{support_checks, check_inputs}
use Rattle.support.proofs.check_retarded_inputs.Goals as goal

sizes : (s : Shape) (xs ys : List Float) {f g : Bool} {v w : Verdict} → f ≡ all_fit s.capacity s.orbitals (xs ∷ []) → g ≡ all_fit s.capacity s.orbitals (ys ∷ [])
    → v ≡ (large_enough s.points s.orbitals then within_limits s.capacity s.orbitals then fitting (f && g) then within_capacity s.points s.capacity)
    → v ≡ w → capacity_checks s.capacity s.points s.orbitals true (xs ∷ ys ∷ []) ≡ w
sizes s xs ys {f} {g} {v} hf hg e h = sym (capacity-asked s.capacity s.points s.orbitals true (xs ∷ ys ∷ []) (f && g) v (fits_more _ _ xs _ f g hf hg) e) ∙ h

pub returns-in_err-check_capacity : goal.returns-in_err-check_capacity
unfolding check_inputs
returns-in_err-check_capacity c =
    let x = c.args in
    rw (sizes x.shape x.free.now x.self_energy.now c.has_length.ensures c.has_length-2.ensures c.check_capacity.ensures c.in_err-check_capacity.was) (search rules)

pub returns-in_err-valid_tolerance : goal.returns-in_err-valid_tolerance
unfolding check_inputs support_checks
returns-in_err-valid_tolerance c =
    let x = c.args in
    rw (
      sizes x.shape x.free.now x.self_energy.now c.has_length.ensures c.has_length-2.ensures c.check_capacity.ensures c.in_ok-check_capacity.was,
      sym c.valid_tolerance.ensures ∙ c.in_err-valid_tolerance.was,
    ) (search rules)

pub retarded-requires : goal.retarded-requires
retarded-requires c =
    let x = c.args in
    let z = capacity-passed _ _ _ true _ (sizes x.shape x.free.now x.self_energy.now c.has_length.ensures c.has_length-2.ensures c.check_capacity.ensures c.in_ok-check_capacity.was) in
    (z.2.points-most, z.2.orbitals-most, z.1, le_of_eq (sym (long-first _ _ _ z.2.long).0))

pub returns-in_err-retarded : goal.returns-in_err-retarded
unfolding check_inputs support_checks
returns-in_err-retarded c =
    let x = c.args in
    rw (
      sizes x.shape x.free.now x.self_energy.now c.has_length.ensures c.has_length-2.ensures c.check_capacity.ensures c.in_ok-check_capacity.was,
      sym c.valid_tolerance.ensures ∙ c.in_ok-valid_tolerance.was,
      sym c.retarded.ensures ∙ c.in_err-retarded.was,
    ) (search rules)

pub retarded-requires-2 : goal.retarded-requires-2
retarded-requires-2 c =
    let x = c.args in
    let z = capacity-passed _ _ _ true _ (sizes x.shape x.free.now x.self_energy.now c.has_length.ensures c.has_length-2.ensures c.check_capacity.ensures c.in_ok-check_capacity.was) in
    (z.2.points-most, z.2.orbitals-most, z.1, le_of_eq (sym (long-first _ _ _ (long-first _ _ _ z.2.long).1).0))

pub returns : goal.returns
unfolding check_inputs support_checks
returns c =
    let x = c.args in
    rw (
      sizes x.shape x.free.now x.self_energy.now c.has_length.ensures c.has_length-2.ensures c.check_capacity.ensures c.in_ok-check_capacity.was,
      sym c.valid_tolerance.ensures ∙ c.in_ok-valid_tolerance.was,
      sym c.retarded.ensures ∙ c.in_ok-retarded.was,
    ) c.retarded-2.ensures
