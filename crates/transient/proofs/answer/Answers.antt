-- The text that is written lies in the array. Assumes nothing.
use Rattle.std.proofs.Common.{sym, length-take-le}
use Rattle.run_file.specs.FileRun.{text-within}
use Rattle.transient.proofs.answer.Goals as goal

pub slice_bounds-text-end : goal.slice_bounds-text-end
slice_bounds-text-end g c = text-within _ _ c.print-length.ensures.0 c.print-length.ensures.1

pub slice_bounds-write_all-end : goal.slice_bounds-write_all-end
slice_bounds-write_all-end g c = sym (length-take-le _ _ (text-within _ _ c.print-length.ensures.0 c.print-length.ensures.1))
