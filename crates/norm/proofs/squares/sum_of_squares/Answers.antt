use Rattle.std.specs.Prelude.{◌*◌}
use Rattle.norm.proofs.Words.{raised_sum}
use Rattle.norm.proofs.squares.sum_of_squares.Goals as goal

pub returns : goal.returns
returns c = let a = c.args.a in let b = c.args.b in raised_sum (a * a) c.args.raise (b * b)
