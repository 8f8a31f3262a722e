-- What has passed the check settles the norm.
use Rattle.std.specs.Prelude.{◌≡◌, ◌+◌}
use Rattle.lists.specs.Prelude.{ap₂, subst, ℕ, arith}
use Rattle.std.specs.Int.Signed.{mag}
use Rattle.norm.specs.Parts.{Encodes}
use Rattle.norm.specs.Checked.{Covers, whole_squares}
use Rattle.norm.proofs.Sixteen.{held, same}
use Rattle.norm.proofs.Middles.{settles}
use Rattle.norm.proofs.guess.at_53_digits.Goals as goal

pub returns : goal.returns
returns c =
    let a = c.args in
    let gap = mag a.gap in
    let shift = mag a.shift in
    let sum = c.in_ok-t.field-0 in
    let q = c.in_ok-q.q in
    let covers : Covers sum.t (whole_squares a.qa a.qb gap) (mag sum.more) =
    subst (λ (g : ℕ). Covers sum.t (whole_squares a.qa a.qb g) (mag sum.more)) (same a.gap c.requires.2 (omega arith)) c.in_ok-t.ensures.1 in
    let step : mag (held sum.more) + mag (held a.shift) ≡ mag sum.more + shift =
    ap₂ (λ (m n : ℕ). m + n) (same sum.more c.in_ok-t.ensures.0 (omega arith)) (same a.shift c.requires.3 (omega arith)) in
    settles a.qa a.qb gap shift (mag sum.more) q c.encoded.result (c.in_ok-q.ensures (whole_squares a.qa a.qb gap) (mag sum.more) covers)
    c.if-q-le4503599627370496.false c.if-q-ge9007199254740992.false (subst (Encodes c.encoded.result q) step c.encoded.ensures)
