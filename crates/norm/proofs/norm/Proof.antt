-- `norm::norm` meets its contract: each way out is a case of the definition, by `ByBits`. Assumes nothing.
use Rattle.std.specs.Prelude.{◌≡◌, ◌+◌, ◌*◌, ◌^◌, ◌<◌, ◌≤◌}
use Rattle.lists.specs.Prelude.{refl, sym, ap, ap₂, ◌∙◌, subst, false, ℕ, max, min, le_refl, le_trans, mod-le, arith, rules, T}
use Rattle.lists.specs.Prelude.{lt_of_le-ne, nan, inf, binary64, fits, of_bits}
use lib.Ieee as Ieee
use Rattle.norm.specs.Norm.{rounded_root}
use Rattle.norm.specs.Parts.{unsigned, units_of}
use Rattle.complex.specs.Bits.{at-most-infinity}
use Rattle.norm.specs.Claims.{parts_swapped}
use Rattle.norm.proofs.ByBits.{infinite-part, nan-part, finite-parts, larger-first}
use Rattle.norm.proofs.norm.Statement.{statement}
use Rattle.norm.proofs.norm.Tie as tie

held : (c : tie.Start) → T (fits binary64 c.args.re) × T (fits binary64 c.args.im)
held c = (subst T (sym c.well_formed.0.1) tt, subst T (sym c.well_formed.1.0.1) tt)

-- the constants that the code returns
infinity : of_bits binary64 (2047 * 2 ^ 52) ≡ inf false
unfolding of_bits
infinity = refl

no_number : Ieee.div binary64 (of_bits binary64 0) (of_bits binary64 0) ≡ nan
unfolding of_bits Ieee.div
no_number = refl

-- below infinity's pattern, after the tests
finite : (c : tie.Else-b-gt-INFINITY) → let s = c.before.before.before.before.before.before.args in (unsigned s.re < 2047 * 2 ^ 52) × (unsigned s.im < 2047 * 2 ^ 52)
finite c =
    let m = c.before.before.before.before in (
      rw m.before.magnitude-a.ensures at (lt_of_le-ne c.before.if-a-gt-INFINITY.false c.before.before.before.if-a-eq-INFINITY.false),
      rw m.magnitude-b.ensures at (lt_of_le-ne c.if-b-gt-INFINITY.false c.before.before.if-b-eq-INFINITY.false),
    )

returns-2 : tie.Need-returns-then-b-eq-INFINITY
returns-2 c =
    let m = c.before.before in
    let s = m.before.before in
    infinity ∙ sym (parts_swapped s.args.re s.args.im ∙ infinite-part s.args.im s.args.re (held s).1 (sym m.magnitude-b.ensures ∙ c.if-b-eq-INFINITY.true))

returns-3 : tie.Need-returns-then-a-gt-INFINITY
returns-3 c =
    let m = c.before.before.before in
    let s = m.before.before in
    no_number
    ∙ sym (nan-part s.args.re s.args.im (held s).0 (rw m.before.magnitude-a.ensures at c.if-a-gt-INFINITY.true) (λ e. c.before.if-b-eq-INFINITY.false (m.magnitude-b.ensures ∙ e)))

returns-4 : tie.Need-returns-then-b-gt-INFINITY
returns-4 c =
    let m = c.before.before.before.before in
    let s = m.before.before in
    no_number
    ∙ sym (parts_swapped s.args.re s.args.im
    ∙ nan-part s.args.im s.args.re (held s).1 (rw m.magnitude-b.ensures at c.if-b-gt-INFINITY.true) (λ e. c.before.before.before.if-a-eq-INFINITY.false (m.before.magnitude-a.ensures ∙ e)))

norm-bits-requires : tie.Need-norm_bits-requires
norm-bits-requires c κs =
    let e = c.before.before in
    let m = e.before.before.before.before in
    ordered c.before.larger.result c.smaller.result m.before.magnitude-a.result m.magnitude-b.result c.before.larger.ensures c.smaller.ensures
    (rw m.before.magnitude-a.ensures (finite e).0) (rw m.magnitude-b.ensures (finite e).1)
  where
    ordered : (x y a b : ℕ) → x ≡ max a b → y ≡ min a b → a < 2047 * 2 ^ 52 → b < 2047 * 2 ^ 52 → (y ≤ x) × (x < 2047 * 2 ^ 52)
    ordered x y a b p q h l = (omega arith, omega arith)

returns-5 : tie.Need-returns
returns-5 c =
    let l = c.before.before in
    let m = l.before.before.before.before.before in
    let s = m.before.before in
    c.norm_bits.ensures.1
    ∙ ap rounded_root
    (larger-first m.before.magnitude-a.result m.magnitude-b.result l.larger.result c.before.smaller.result l.larger.ensures c.before.smaller.ensures
    ∙ ap₂ (λ (a b : ℕ). units_of a ^ 2 + units_of b ^ 2) m.before.magnitude-a.ensures m.magnitude-b.ensures)
    ∙ sym (finite-parts s.args.re s.args.im (held s).0 (held s).1 (finite l.before).0 (finite l.before).1)

pub norm_spec : {M : Type 1} → statement M
norm_spec =
    tie.close
    (tie.spec
    (λ c κs. search rules) (λ c κs. search rules)
    (λ c. at-most-infinity (2047 * 2 ^ 52) (le_refl (2047 * 2 ^ 52)))
    (λ c. let m = c.before in let s = m.before.before in infinity ∙ sym (infinite-part s.args.re s.args.im (held s).0 (sym m.before.magnitude-a.ensures ∙ c.if-a-eq-INFINITY.true)))
    (λ c. at-most-infinity (2047 * 2 ^ 52) (le_refl (2047 * 2 ^ 52)))
    returns-2 returns-3 returns-4 (λ c κs. search rules) (λ c κs. search rules) norm-bits-requires
    (λ c. at-most-infinity c.norm_bits.result (le_trans (mod-le c.norm_bits.result (2 ^ 63)) c.norm_bits.ensures.0))
    returns-5)
