-- What a loop's largest and test of all are before the first step and after one more, as one list for `search` and `grind`. Assumes nothing.
use Rattle.lists.specs.Steps.{fold_more, fold-none, all_more, all_none}

pub ruleset one_more = (fold_more, fold-none, all_more, all_none)
