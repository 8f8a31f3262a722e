-- `largest::below_middle` meets its contract: the bits are those that `above_root` reads. Assumes nothing.
use Rattle.std.specs.Prelude.{◌≡◌}
use Rattle.lists.specs.Prelude.{sym, subst, false, T, binary64, ne, fits, rules}
use Rattle.lists.specs.Agreement.{never, neither}
use Rattle.complex.specs.Bits.{equals_itself}
use Rattle.largest.proofs.Middles.{below-middle as root_below}
use Rattle.largest.proofs.below_middle.Statement.{statement}
use Rattle.largest.proofs.below_middle.Tie as tie

-- the arguments are binary64 numbers, and after the first test no NaN
held : (c : tie.Start) → let x = c.args in T (fits binary64 x.largest) × T (fits binary64 x.re) × T (fits binary64 x.im)
held c = (subst T (sym c.well_formed.0.1) tt, subst T (sym c.well_formed.1.0.1) tt, subst T (sym c.well_formed.1.1.0.1) tt)

numbers : (c : tie.Else-re-im) → let x = c.before.args in (ne x.re x.re ≡ false) × (ne x.im x.im ≡ false) × (ne x.largest x.largest ≡ false)
numbers c =
    let e = neither _ _ c.if-re-im.false in
    let f = neither _ _ e.0 in
    (f.0, f.1, e.1)

returns-2 : tie.Need-returns
returns-2 c t =
    let s = c.before.before in
    let x = s.args in
    root_below x.largest x.re x.im (held s).0 (held s).1 (held s).2 (c.above_root.ensures t)

pub below_middle_spec : {M : Type 1} → statement M
below_middle_spec =
    tie.close
    (tie.spec
    (λ c t. never t)
    (λ c. equals_itself c.before.args.re (numbers c).0)
    (λ c. equals_itself c.before.args.im (numbers c).1)
    (λ c. equals_itself c.before.args.largest (numbers c).2)
    (λ c κs. search rules) returns-2)
