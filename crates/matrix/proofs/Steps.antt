-- What a loop's sum, largest and test of all are before the first step and after one more, as one list for `search` and `grind`. Assumes nothing.
use Rattle.lists.specs.Steps.{fold_more, fold-none, all_more, all_none}
use Rattle.complex.specs.Agreement.{sum_more, sum-none}

pub ruleset one_more = (sum_more, sum-none, fold_more, fold-none, all_more, all_none)
