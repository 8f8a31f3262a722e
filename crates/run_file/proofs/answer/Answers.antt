-- A well-formed file has the sizes that its first words name.
use Rattle.lists.specs.Prelude.{sym, ◌∙◌}
use Rattle.run_file.specs.Table.{file-sized}
use Rattle.run_file.proofs.answer.Goals as goal

pub run-requires : goal.run-requires
run-requires c =
    let points = c.word.ensures in
    let orbitals = c.word-in-Ok.ensures in
    let sizes = file-sized _ (sym c.check_file.ensures ∙ c.in-Ok.is) in
    (record { points_named = points; orbitals_named = orbitals; sizes = rw (points, orbitals) sizes }, c.requires)
