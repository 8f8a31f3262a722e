-- What became of sums: they are there, or an error says why not.
use Rattle.std.specs.Prelude.{⊤, Result, Err, ◌≡◌}
use Rattle.std.specs.Result.{IsErr, IsErrAnd}
use Rattle.std.proofs.lemmas.Result.{err_from_is_err_and}
use Rattle.lists.specs.Prelude.{ap, ◌∙◌}
use Rattle.two_time.specs.declared.sums.SumError.{SumError}
use Rattle.two_time.specs.declared.sums.SumError.TheVariants.{Unfit}

abbrev pub Summed : Type 0
Summed = Result ⊤ SumError

-- what a `?` returns at a refusal of sizes
pub unfit_of : (r : Summed) → IsErr r × IsErrAnd r (λ (e : SumError). e ≡ Unfit) → r ≡ Err Unfit
unfit_of r h = let p = err_from_is_err_and r h.1 in p.1 ∙ ap (λ (e : SumError). let s : Summed = Err e in s) p.2
