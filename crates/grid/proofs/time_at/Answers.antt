-- A time past the end is a NaN.
use Rattle.lists.specs.Prelude.{◌∙◌, le_refl, nan}
use Rattle.grid.specs.Past.{nan-bits}
use Rattle.grid.proofs.time_at.Goals as goal

pub returns : goal.returns
returns c = c.unwrap_or.ensures ∙ rw (c.copied.ensures, nan-bits) (c.get.ensures.lookup.4 (le_refl c.args.i) nan)
