-- Each question in its order.
use Rattle.std.proofs.Common.{rules, ◌≡◌, ◌≤◌, ℕ}
use Rattle.lists.specs.Prelude.{sym, ap, ap₂, ◌∙◌, ltb-true}
use Rattle.refusal.specs.Verdict.{by}
use Rattle.refusal.specs.Checks.{counter_holds, desk_known}
use Rattle.refusal.specs.Agreement.{ask_pass}
use Rattle.transient_run.specs.Products.{formed}
use Rattle.transient_run.specs.Form.{form_of}
use Rattle.transient_run.specs.FormChecks.{sizes-small}
use Rattle.transient_run.specs.Inputs.{given}
use Rattle.transient_run.proofs.Asked.{by-desk, by-sizes, by-grid, by-free, by-self_energy, by-lesser_self_energy, by-block, by-support, by-counter}
use Rattle.transient_run.proofs.checking.checks.Goals as goal

pub returns-in_err-desk_known : goal.returns-in_err-desk_known
returns-in_err-desk_known c retarded lesser kernel lesser_advanced fits =
    by-desk c.args.old (given c.args.inputs c.args.session c.args.desk retarded lesser kernel lesser_advanced) (search rules) (sym c.desk_known.ensures ∙ c.in_err-desk_known.was)

pub returns-in_err-form_sizes : goal.returns-in_err-form_sizes
returns-in_err-form_sizes c retarded lesser kernel lesser_advanced fits =
    by-sizes c.args.old (given c.args.inputs c.args.session c.args.desk retarded lesser kernel lesser_advanced) (sym c.desk_known.ensures ∙ c.in_ok-desk_known.was)
    c.has_length-free_fits.ensures c.has_length-self_energy_fits.ensures c.has_length-lesser_self_energy_fits.ensures fits (c.form_sizes.ensures c.args.inputs.g0.now)
    (search rules) c.in_err-form_sizes.was

pub returns-in_err-check_grid : goal.returns-in_err-check_grid
returns-in_err-check_grid c retarded lesser kernel lesser_advanced fits =
    by-grid c.args.old (given c.args.inputs c.args.session c.args.desk retarded lesser kernel lesser_advanced) (sym c.desk_known.ensures ∙ c.in_ok-desk_known.was)
    c.has_length-free_fits.ensures c.has_length-self_energy_fits.ensures c.has_length-lesser_self_energy_fits.ensures fits (c.form_sizes.ensures c.args.inputs.g0.now)
    c.in_ok-form_sizes.was (search rules) (sym c.check_grid.ensures ∙ c.in_err-check_grid.was)

pub returns-in_err-check_points : goal.returns-in_err-check_points
returns-in_err-check_points c retarded lesser kernel lesser_advanced fits =
    by-free c.args.old (given c.args.inputs c.args.session c.args.desk retarded lesser kernel lesser_advanced) (sym c.desk_known.ensures ∙ c.in_ok-desk_known.was)
    c.has_length-free_fits.ensures c.has_length-self_energy_fits.ensures c.has_length-lesser_self_energy_fits.ensures fits (c.form_sizes.ensures c.args.inputs.g0.now)
    c.in_ok-form_sizes.was (sym c.check_grid.ensures ∙ c.in_ok-check_grid.was) (search rules) (sym c.check_points.ensures ∙ c.in_err-check_points.was)

pub returns-in_err-check_points-2 : goal.returns-in_err-check_points-2
returns-in_err-check_points-2 c retarded lesser kernel lesser_advanced fits =
    by-self_energy c.args.old (given c.args.inputs c.args.session c.args.desk retarded lesser kernel lesser_advanced) (sym c.desk_known.ensures ∙ c.in_ok-desk_known.was)
    c.has_length-free_fits.ensures c.has_length-self_energy_fits.ensures c.has_length-lesser_self_energy_fits.ensures fits (c.form_sizes.ensures c.args.inputs.g0.now)
    c.in_ok-form_sizes.was (sym c.check_grid.ensures ∙ c.in_ok-check_grid.was) (sym c.check_points.ensures ∙ c.in_ok-check_points.was) (search rules) (sym c.check_points-2.ensures ∙ c.in_err-check_points-2.was)

pub returns-in_err-check_points-3 : goal.returns-in_err-check_points-3
returns-in_err-check_points-3 c retarded lesser kernel lesser_advanced fits =
    by-lesser_self_energy c.args.old (given c.args.inputs c.args.session c.args.desk retarded lesser kernel lesser_advanced) (sym c.desk_known.ensures ∙ c.in_ok-desk_known.was)
    c.has_length-free_fits.ensures c.has_length-self_energy_fits.ensures c.has_length-lesser_self_energy_fits.ensures fits (c.form_sizes.ensures c.args.inputs.g0.now)
    c.in_ok-form_sizes.was (sym c.check_grid.ensures ∙ c.in_ok-check_grid.was) (sym c.check_points.ensures ∙ c.in_ok-check_points.was)
    (sym c.check_points-2.ensures ∙ c.in_ok-check_points-2.was) (search rules) (sym c.check_points-3.ensures ∙ c.in_err-check_points-3.was)

pub returns-in_err-form_entries : goal.returns-in_err-form_entries
returns-in_err-form_entries c retarded lesser kernel lesser_advanced fits =
    by-block c.args.old (given c.args.inputs c.args.session c.args.desk retarded lesser kernel lesser_advanced) (sym c.desk_known.ensures ∙ c.in_ok-desk_known.was)
    c.has_length-free_fits.ensures c.has_length-self_energy_fits.ensures c.has_length-lesser_self_energy_fits.ensures fits (c.form_sizes.ensures c.args.inputs.g0.now)
    c.in_ok-form_sizes.was (sym c.check_grid.ensures ∙ c.in_ok-check_grid.was) (sym c.check_points.ensures ∙ c.in_ok-check_points.was)
    (sym c.check_points-2.ensures ∙ c.in_ok-check_points-2.was) (sym c.check_points-3.ensures ∙ c.in_ok-check_points-3.was) (search rules) (sym c.form_entries.ensures ∙ c.in_err-form_entries.was)

pub returns-in_err-check_retarded_inputs : goal.returns-in_err-check_retarded_inputs
returns-in_err-check_retarded_inputs c retarded lesser kernel lesser_advanced fits =
    by-support c.args.old (given c.args.inputs c.args.session c.args.desk retarded lesser kernel lesser_advanced) (sym c.desk_known.ensures ∙ c.in_ok-desk_known.was)
    c.has_length-free_fits.ensures c.has_length-self_energy_fits.ensures c.has_length-lesser_self_energy_fits.ensures fits (c.form_sizes.ensures c.args.inputs.g0.now)
    c.in_ok-form_sizes.was (sym c.check_grid.ensures ∙ c.in_ok-check_grid.was) (sym c.check_points.ensures ∙ c.in_ok-check_points.was)
    (sym c.check_points-2.ensures ∙ c.in_ok-check_points-2.was) (sym c.check_points-3.ensures ∙ c.in_ok-check_points-3.was) (sym c.form_entries.ensures ∙ c.in_ok-form_entries.was) (search rules) (sym c.check_retarded_inputs.ensures ∙ c.in_err-check_retarded_inputs.was)

pub returns : goal.returns
returns c retarded lesser kernel lesser_advanced fits =
    by-counter c.args.old (given c.args.inputs c.args.session c.args.desk retarded lesser kernel lesser_advanced) (sym c.desk_known.ensures ∙ c.in_ok-desk_known.was)
    c.has_length-free_fits.ensures c.has_length-self_energy_fits.ensures c.has_length-lesser_self_energy_fits.ensures fits (c.form_sizes.ensures c.args.inputs.g0.now)
    c.in_ok-form_sizes.was (sym c.check_grid.ensures ∙ c.in_ok-check_grid.was) (sym c.check_points.ensures ∙ c.in_ok-check_points.was)
    (sym c.check_points-2.ensures ∙ c.in_ok-check_points-2.was) (sym c.check_points-3.ensures ∙ c.in_ok-check_points-3.was) (sym c.form_entries.ensures ∙ c.in_ok-form_entries.was) (sym c.check_retarded_inputs.ensures ∙ c.in_ok-check_retarded_inputs.was)
    (c.counter_holds.ensures ∙ ap₂ counter_holds c.counter_of.ensures (c.formed-count.ensures
    ∙ ap (λ (k : ℕ). formed k c.args.old c.args.inputs.shape.points) (c.start_products-start.ensures.0 c.args.inputs.initial.rows c.args.inputs.initial.columns c.args.inputs.g0.now)))

-- once the sizes pass the points are at most 256 and the block is small
pub form_entries-requires : goal.form_entries-requires
form_entries-requires c = (sizes-small c.args.inputs.shape.capacity c.args.inputs.shape.points c.args.inputs.shape.orbitals (form_of c.args.inputs.initial c.args.inputs.g0.now) _ (sym (c.form_sizes.ensures c.args.inputs.g0.now) ∙ c.in_ok-form_sizes.was)).1

pub formed-count-requires : goal.formed-count-requires
formed-count-requires c = (c.start_products-start.ensures.1, c.requires, (sizes-small c.args.inputs.shape.capacity c.args.inputs.shape.points c.args.inputs.shape.orbitals (form_of c.args.inputs.initial c.args.inputs.g0.now) _ (sym (c.form_sizes.ensures c.args.inputs.g0.now) ∙ c.in_ok-form_sizes.was)).0)

pub counter_of-requires : goal.counter_of-requires
unfolding desk_known
counter_of-requires c = ltb-true _ _ (ask_pass _ (by 22) (sym c.desk_known.ensures ∙ c.in_ok-desk_known.was))
