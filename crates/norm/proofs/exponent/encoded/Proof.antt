-- `norm::exponent::encoded` meets its contract: the pattern is the step's field and the significand, by `Exponents`, and stands for the steps, by
-- `Encoding`. Assumes nothing.
use Rattle.std.specs.Prelude.{◌≡◌, ◌+◌, ◌-◌, ◌*◌, ◌/◌, ◌^◌, ◌≤◌, ◌<◌}
use Rattle.lists.specs.Prelude.{refl, sym, ap, ◌∙◌, ℕ, mod-lt, leb, arith, pow_pos, leb-true, leb-false, ℤ, pos}
use lib.Count.{count_leading_zeros, leading_le}
use Rattle.std.proofs.Common.{◌+ℤ◌, ◌-ℤ◌}
use lib.Signed.{mag}
use Rattle.norm.specs.Parts.{Rounded, Encodes}
use Rattle.norm.specs.Encoding.{bits-of-step, bits-past-steps}
use Rattle.norm.proofs.Sixteen.{held, held-is, held-up_to, up_to, Made, plus, minus}
use Rattle.norm.proofs.Exponents.{short_significand, carried-most, long_significand}
use Rattle.norm.proofs.exponent.encoded.Statement.{statement}
use Rattle.norm.proofs.exponent.encoded.Tie as tie

-- the step's field and the significand are the number's bits
pattern : {m k : ℕ} (b : ℕ) → b ≡ k * 2 ^ 52 + m → Rounded m k → k < 2046 → Encodes b m k
pattern b e r h = rw e (bits-of-step r h)

-- ---- the exponents on the way

abbrev step : tie.Start → ℕ
step s = mag s.args.more + mag s.args.shift

step-made : (s : tie.Start) → Made (held s.args.more +ℤ held s.args.shift) (step s)
step-made s =
    let p = s.requires in
    plus _ _ _ _ (held-up_to s.args.more p.1 (omega arith)) (held-up_to s.args.shift p.2 (omega arith)) (omega (arith, p.1.1, p.2.1))

past : (c : tie.After-reaches) → c.reaches.result ≡ leb 2046 (step c.before)
past c = c.reaches.ensures ∙ ap (λ (z : ℤ). leb 2046 (mag z)) (step-made c.before).1

abbrev leading : tie.After-zeros-leading → ℕ
leading c = count_leading_zeros 64 c.before.before.before.args.m

leading_is : (c : tie.After-zeros-leading) → held c.zeros-leading.result ≡ pos (leading c)
leading_is c = held-is _ c.zeros-leading.ensures (omega (arith, leading_le 64 c.before.before.before.args.m))

short : (c : tie.After-reaches-2) → c.reaches-2.result ≡ leb 12 (leading c.before)
short c = c.reaches-2.ensures ∙ ap (λ (z : ℤ). leb 12 (mag z)) (leading_is c.before)

below : (c : tie.After-zeros-leading) → step c.before.before.before < 2046
below c = leb-false _ _ (sym (past c.before.before) ∙ c.before.if-reaches.false)

full : (c : tie.Else-reaches-2) → leading c.before.before ≤ 11
full c = let h = leb-false 12 (leading c.before.before) (sym (short c.before) ∙ c.if-reaches-2.false) in omega arith

abbrev carried : tie.Else-reaches-2 → ℕ
carried c = 11 - leading c.before.before

few : (c : tie.Else-reaches-2) → carried c ≤ 1
few c = let s = c.before.before.before.before.before in carried-most s.args.m s.requires.0.most

carried-made : (c : tie.Else-reaches-2) → Made (pos 11 -ℤ held c.before.before.zeros-leading.result) (carried c)
carried-made c = minus _ _ 11 _ refl (leading_is c.before.before) (full c) (omega arith)

raised : (c : tie.Else-reaches-2) → let s = c.before.before.before.before.before in
    Made (held (held s.args.more +ℤ held s.args.shift) +ℤ held (pos 11 -ℤ held c.before.before.zeros-leading.result)) (step s + carried c)
raised c = plus _ _ _ _ (step-made c.before.before.before.before.before).1 (carried-made c).1 (omega (arith, below c.before.before, few c))

field : (c : tie.Else-reaches-2) → let s = c.before.before.before.before.before in
    Made (held (held (held s.args.more +ℤ held s.args.shift) +ℤ held (pos 11 -ℤ held c.before.before.zeros-leading.result)) +ℤ pos 1) (step s + carried c + 1)
field c = plus _ _ _ 1 (raised c).1 refl (omega (arith, below c.before.before, few c))

places_are : (c : tie.After-places) → c.places.result ≡ carried c.before.before
places_are c = c.places.ensures ∙ ap mag (carried-made c.before.before).1

field_is : (c : tie.After-field_bits) → let s = c.before.before.before.before.before.before in c.field_bits.result ≡ (step s + carried c.before + 1) * 2 ^ 52
field_is c = c.field_bits.ensures ∙ ap (λ (z : ℤ). mag z * 2 ^ 52) (field c.before).1

-- ---- each way out

returns : tie.Need-returns-then-reaches
returns c = let s = c.before.before in bits-past-steps s.requires.0 (leb-true _ _ (sym (past c.before) ∙ c.if-reaches.true))

returns-2 : tie.Need-returns-then-reaches-2
returns-2 c =
    let z = c.before.before in
    let s = z.before.before.before in
    let more = leb-true 12 _ (sym (short c.before) ∙ c.if-reaches-2.true) in
    pattern _ (short_significand s.args.m (step s) s.requires.0.most more s.requires.0.full) s.requires.0 (below z)

returns-3 : tie.Need-returns
returns-3 c =
    let e = c.before.before in
    let s = e.before.before.before.before.before in
    pattern _ (rw (field_is c.before, places_are c) (long_significand s.args.m (step s) s.requires.0.most (full e))) s.requires.0 (below e.before.before)

pub encoded_spec : {M : Type 1} → statement M
encoded_spec =
    tie.close (tie.spec
    (λ c. (step-made c).0)
    (λ c κs. (up_to _ (step-made c).1 (omega (arith, c.requires.1.1, c.requires.2.1)), up_to 2046 refl (omega arith)))
    returns
    (λ c κs. tt)
    (λ c κs. (up_to _ (leading_is c) (omega (arith, leading_le 64 c.before.before.before.args.m)), up_to 12 refl (omega arith)))
    returns-2
    (λ c. (carried-made c).0) (λ c. (raised c).0) (λ c. (field c).0)
    (λ c κs. up_to _ (field c).1 (omega (arith, below c.before.before, few c)))
    (λ c κs. up_to _ (carried-made c.before).1 (omega arith))
    (λ c. omega (arith, places_are c))
    (λ c. record { fits = omega (arith, field_is c.before, below c.before.before.before.before, few c.before.before, mod-lt (c.before.before.before.before.before.before.before.args.m / 2 ^ c.places.result) (pow_pos 52)) })
    returns-3)
