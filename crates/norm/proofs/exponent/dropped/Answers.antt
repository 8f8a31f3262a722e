-- Both ways are laws of `Exponents`.
use Rattle.std.specs.Prelude.{◌≡◌, ◌≤◌}
use Rattle.lists.specs.Prelude.{refl, sym, ap, ◌∙◌, Bool, leb, arith, leb-true, leb-false, ℤ}
use Rattle.std.specs.Int.Signed.{mag}
use Rattle.norm.specs.Parts.{UpTo}
use Rattle.norm.proofs.Sixteen.{held, held-up_to, up_to, minus}
use Rattle.norm.proofs.Exponents.{drop-one, drop_more}
use Rattle.norm.proofs.exponent.dropped.Goals as goal

-- the test by the digits' number z
asked : (z : ℤ) → UpTo 128 z → {r : Bool} → r ≡ leb 54 (mag (held z)) → r ≡ leb 54 (mag z)
asked z u h = h ∙ ap (λ (k : ℤ). leb 54 (mag k)) (held-up_to z u (omega arith))

pub returns-then-reaches : goal.returns-then-reaches
returns-then-reaches c =
    let z = c.digits-z.result in
    let u = c.digits-z.ensures.0 in
    let long : 54 ≤ mag z = leb-true _ _ (sym (asked z u c.reaches.ensures) ∙ c.if-reaches.true) in
    let m = (minus _ _ _ 53 (held-up_to z u (omega arith)) refl (omega (arith, long)) (omega (arith, u.1))).1 in
    let k = drop_more c.args.root (mag z) c.requires c.digits-z.ensures.1 long in
    (up_to _ m k.few, rw m k)

pub returns-else-reaches : goal.returns-else-reaches
returns-else-reaches c =
    let z = c.digits-z.result in
    (up_to 1 refl (omega arith), drop-one c.args.root (mag z) c.digits-z.ensures.1 (omega (arith, leb-false 54 (mag z) (sym (asked z c.digits-z.ensures.0 c.reaches.ensures) ∙ c.if-reaches.false))))
