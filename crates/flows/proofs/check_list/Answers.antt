-- 7 is asked where the checks before it pass.
use Rattle.std.proofs.Common.{rules, ◌≡◌, ◌∷◌}
use Rattle.lists.specs.Prelude.{refl, sym, ◌∙◌, []}
use Rattle.two_time.specs.CapacityChecks.{capacity-asked}
use Rattle.flows.specs.Calls.{list_checks}
use Rattle.flows.specs.Asked.{list_asked}
use Rattle.flows.proofs.check_list.Goals as goal

pub returns-in_err-check_capacity : goal.returns-in_err-check_capacity
unfolding list_checks
returns-in_err-check_capacity c =
    let s = c.args.shape in
    rw (sym (capacity-asked s.capacity s.points s.orbitals c.args.fits (c.args.lesser.now ∷ []) _ _ c.has_length-long.ensures c.check_capacity.ensures) ∙ c.in_err-check_capacity.was) (search rules)

pub returns-in_err-within_list : goal.returns-in_err-within_list
unfolding list_checks
returns-in_err-within_list c =
    let s = c.args.shape in
    let sizes = sym (capacity-asked s.capacity s.points s.orbitals c.args.fits (c.args.lesser.now ∷ []) _ _ c.has_length-long.ensures c.check_capacity.ensures) ∙ c.in_ok-check_capacity.was in
    rw (sizes, sym c.within_list.ensures ∙ c.in_err-within_list.was) (search rules)

pub returns : goal.returns
returns c =
    let s = c.args.shape in
    let sizes = sym (capacity-asked s.capacity s.points s.orbitals c.args.fits (c.args.lesser.now ∷ []) _ _ c.has_length-long.ensures c.check_capacity.ensures) ∙ c.in_ok-check_capacity.was in
    list_asked s.capacity s.points s.orbitals c.args.lesser.now c.args.queries c.args.fits refl (rw (sizes, sym c.within_list.ensures ∙ c.in_ok-within_list.was) refl) c.check_points.ensures
