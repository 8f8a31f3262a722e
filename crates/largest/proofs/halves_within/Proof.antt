-- `largest::halves_within` meets its contract: both sums are read from the bits. Assumes nothing.
use Rattle.std.specs.Prelude.{◌≡◌, ◌%◌, ◌^◌}
use Rattle.lists.specs.Prelude.{sym, ap, ap₂, ◌∙◌, subst, true, false, ℕ, T, Float, binary64, le, ne, fits, of_bits, to_bits, rules}
use Rattle.lists.specs.Agreement.{never, neither, both}
use Rattle.complex.specs.Arithmetic.{add, size}
use Rattle.complex.specs.Bits.{equals_itself}
use Rattle.largest.proofs.Unsigned.{size_of_bits, bits_of_number}
use Rattle.largest.proofs.Halves.{half-of-number, halves_within}
use Rattle.largest.proofs.halves_within.Statement.{statement}
use Rattle.largest.proofs.halves_within.Tie as tie

-- the parts are binary64 numbers, and after the first test no NaN
held : (c : tie.Start) → let x = c.args in T (fits binary64 x.re) × T (fits binary64 x.im)
held c = (subst T (sym c.well_formed.1.0.1) tt, subst T (sym c.well_formed.1.1.0.1) tt)

numbers : (c : tie.Else-re-im) → let x = c.before.args in (ne x.re x.re ≡ false) × (ne x.im x.im ≡ false)
numbers c = neither _ _ c.if-re-im.false

returns-2 : tie.Need-returns
returns-2 c t =
    let a = c.before in
    let s = a.before.before in
    let x = s.args in
    let h = both _ _ t in
    let sum : (y : Float) (b d : ℕ) → T (fits binary64 y) → d ≡ b → le (add (of_bits binary64 (to_bits binary64 y % 2 ^ 63)) (of_bits binary64 d)) x.largest ≡ true → le (add (size y) (of_bits binary64 b)) x.largest ≡ true =
    λ y b d f e g. ap₂ (λ (p q : Float). le (add p q) x.largest) (sym (size_of_bits y f)) (ap (of_bits binary64) (sym e)) ∙ g in
    halves_within x.largest x.re x.im (held s).0 (held s).1
    (sum x.re _ _ (held s).0 a.half_bits.ensures h.0)
    (sum x.im _ _ (held s).1 c.half_bits-2.ensures h.1)

pub halves_within_spec : {M : Type 1} → statement M
halves_within_spec =
    tie.close
    (tie.spec
    (λ c t. never t)  -- returns-then-re-im
    (λ c. equals_itself c.before.args.re (numbers c).0)  -- float_to_bits-a
    (λ c. equals_itself c.before.args.im (numbers c).1)  -- float_to_bits-b
    (λ c. bits_of_number c.before.args.re (held c.before).0 (numbers c).0)  -- float_from_bits-first
    (λ c κs. search rules)  -- half_bits-requires
    (λ c. rw c.half_bits.ensures (half-of-number c.before.before.args.im (held c.before.before).1 (numbers c.before).1))  -- float_from_bits-first-2
    (λ c. bits_of_number c.before.before.args.im (held c.before.before).1 (numbers c.before).1)  -- float_from_bits-second
    (λ c κs. search rules)  -- half_bits-requires-2
    (λ c. rw c.half_bits-2.ensures (half-of-number c.before.before.before.args.re (held c.before.before.before).0 (numbers c.before.before).0))  -- float_from_bits-second-2
    returns-2)
