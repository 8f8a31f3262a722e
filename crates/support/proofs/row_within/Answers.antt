-- The first place that is refused is the answer to all.
use Rattle.std.proofs.Common.{rules, arith, ◌≡◌, ◌<◌, ◌+◌, ◌*◌, ℕ, List}
use Rattle.lists.specs.Prelude.{sym, ◌∙◌, le_trans, Float}
use borrow.Author.Count.{below_more}
use Rattle.complex.specs.Arithmetic.{plus_zero, div}
use Rattle.complex.specs.Numbers.{entry_at}
use Rattle.complex.specs.Sum.{largest_from}
use Rattle.refusal.specs.Verdict.{Verdict}
use Rattle.refusal.specs.Checks.{retarded_at}
use Rattle.refusal.specs.Agreement.{all_asked}
use Rattle.refusal.specs.Search.{first-refused}
use Rattle.block.specs.Operations.{cnorm}
use Rattle.two_time.specs.declared.capacity.Shape.{Shape}
use Rattle.two_time.specs.Layout.{read_as}
use Rattle.support.specs.Support.{scale_of, retarded_place}
use Rattle.support.specs.Scale.{before, block-numbers}
use Rattle.support.specs.CheckNine.{not-asked, place-asked}
use Rattle.support.proofs.row_within.Goals as goal

-- the answer at a place past the diagonal
here : (s : Shape) (xs : List Float) (operand t u : ℕ) (tolerance scale largest : Float) {v w : Verdict} → t < u → scale ≡ scale_of s.points s.orbitals (read_as s.capacity s.orbitals xs)
    → largest ≡ largest_from plus_zero (s.orbitals * s.orbitals) (λ k. cnorm (entry_at xs (2 * ((t * s.capacity + u) * (s.orbitals * s.orbitals) + k))))
    → v ≡ retarded_at operand t u tolerance (div largest scale) → v ≡ w → retarded_place s.points s.orbitals operand tolerance (read_as s.capacity s.orbitals xs) t u ≡ w
here s xs operand t u tolerance scale largest {v} past known l e was =
    place-asked s.points s.orbitals operand tolerance _ t u scale largest v past known (l ∙ block-numbers s.capacity s.orbitals xs t u) e ∙ was

pub loop-u-init : goal.loop-u-init
loop-u-init c = (omega arith, omega arith, λ k l. not-asked _ _ _ _ _ _ k (omega arith))

pub largest_from-requires : goal.largest_from-requires
largest_from-requires c =
    let h = c.requires.capacity_bound in
    let past = c.loop-u-test.true in
    let row = c.requires.t_lt_points.0 in
    le_trans (before {t = c.args.t} {u = c.loop-u.u} h.0 h.1 (omega arith) (omega arith)).inside h.3

pub returns-in_err-retarded_at : goal.returns-in_err-retarded_at
returns-in_err-retarded_at c =
    let i = c.loop-u.invariant in
    rw (first-refused _ _ _ _ c.loop-u-test.true i.2 (here c.args.shape c.args.xs.now _ _ _ _ _ _ i.0 c.requires.t_lt_points.1 c.largest_from.ensures c.retarded_at.ensures c.in_err-retarded_at.was)) (search rules)

pub loop-u-preserved : goal.loop-u-preserved
loop-u-preserved c =
    let i = c.loop-u.invariant in (
      omega arith,
      omega arith,
      below_more _ _ i.2 (here c.args.shape c.args.xs.now _ _ _ _ _ _ i.0 c.requires.t_lt_points.1 c.largest_from.ensures c.retarded_at.ensures c.in_ok-retarded_at.was),
    )

pub returns : goal.returns
returns c = sym (all_asked c.args.shape.points _ (λ k l. c.loop-u.invariant.2 k (omega arith)))
