-- How a term goes to the lanes of a row by its ranges. Assumes nothing.
use Rattle.std.specs.Prelude.{◌≡◌, ◌&&◌, ◌||◌, ◌⊎◌, ◌≤◌, ◌<◌}
use Rattle.lists.specs.Prelude.{refl, sym, ap, ◌∙◌, Bool, true, false, cond, List, inl, inr, ℕ, dec_lt, arith, leb, ltb, eqb, Float}
use Rattle.lists.specs.Prelude.{leb-true, le-leb, lt-leb, lt-ltb, le-ltb, eqb-true}
use Rattle.lists.specs.Agreement.{both}
use Rattle.complex.specs.declared.Complex.{Complex}
use Rattle.complex.specs.Arithmetic.{real, cadd, cmul}
use Rattle.terms.specs.declared.Term.{Term}
use Rattle.rows.specs.Rows.{stepped, is_ranged}
use Rattle.rows.specs.Numbers.{number_at, Mapped}

-- from lane lo on
unfoldable pub only_from : ℕ → (ℕ → Complex → Complex) → ℕ → Complex → Complex
only_from lo f c z = cond (leb lo c) (f c z) z

module _ (lo : ℕ) (f : ℕ → Complex → Complex) where
  pub from_on : (c : ℕ) (z : Complex) → lo ≤ c → only_from lo f c z ≡ f c z
  unfolding only_from
  from_on c z h = rw (le-leb lo c h)

  pub from-before : (c : ℕ) (z : Complex) → c < lo → only_from lo f c z ≡ z
  unfolding only_from
  from-before c z h = rw (lt-leb lo c h)

  pub from-none : (xs : List Float) → Mapped (only_from lo f) lo xs xs
  from-none xs = record { long = refl; made = λ b l. sym (from-before b (number_at xs b) l); kept = λ b l m. refl }

-- the ranges of a term follow each other
pub record Ranged (term : Term) : Type 0 where
  pub low : term.below ≤ term.before
  pub middle : term.before ≤ term.after
  pub high : term.after ≤ term.above
  pub top : term.above ≤ term.lanes
  pub few : term.lanes ≤ 16

-- as code asks it
module _ (term : Term) where
  pub ranged_when : is_ranged term ≡ true → Ranged term
  unfolding is_ranged
  ranged_when h =
      let p = both (leb term.below term.before && leb term.before term.after) _ h in
      let q = both (leb term.below term.before) _ p.0 in
      let r = both (leb term.after term.above) _ p.1 in
      let s = both (leb term.above term.lanes) _ r.1 in
      record { low = leb-true _ _ q.0; middle = leb-true _ _ q.1; high = leb-true _ _ r.0; top = leb-true _ _ s.0; few = leb-true _ _ s.1 }

  pub when_ranged : Ranged term → is_ranged term ≡ true
  unfolding is_ranged
  when_ranged r = rw (le-leb _ _ r.low, le-leb _ _ r.middle, le-leb _ _ r.high, le-leb _ _ r.top, le-leb _ _ r.few)

-- a term's lanes by their ranges
module _ (term : Term) (c : ℕ) (p z : Complex) where
  pub stepped-common : (c < term.below) ⊎ (term.above ≤ c) → stepped term c p z ≡ cadd z (cmul p (real term.common))
  unfolding stepped
  stepped-common (inl h) = rw (lt-ltb c term.below h)
  stepped-common (inr h) = by_flag (ltb c term.below)
    where
      by_flag : (f : Bool) → cond (f || leb term.above c) (cadd z (cmul p (real term.common))) (cond (leb term.before c && ltb c term.after) (cadd z (cmul p (real term.ends))) z) ≡ cadd z (cmul p (real term.common))
      by_flag true = refl
      by_flag false = rw (le-leb term.above c h)

  pub stepped-ends : term.below ≤ c → c < term.above → term.before ≤ c → c < term.after → stepped term c p z ≡ cadd z (cmul p (real term.ends))
  unfolding stepped
  stepped-ends h k l m = rw (le-ltb c term.below h, lt-leb term.above c k, le-leb term.before c l, lt-ltb c term.after m)

  pub stepped-none : term.below ≤ c → c < term.above → (c < term.before) ⊎ (term.after ≤ c) → stepped term c p z ≡ z
  unfolding stepped
  stepped-none h k (inl l) = rw (le-ltb c term.below h, lt-leb term.above c k, lt-leb term.before c l)
  stepped-none h k (inr l) = rw (le-ltb c term.below h, lt-leb term.above c k) (by_flag (leb term.before c))
    where
      by_flag : (f : Bool) → cond (f && ltb c term.after) (cadd z (cmul p (real term.ends))) z ≡ z
      by_flag true = rw (le-ltb c term.after l)
      by_flag false = refl

-- what a call leaves of any lane
module _ (lo hi : ℕ) (f : ℕ → Complex → Complex) (old new : List Float) (m : Mapped (only_from lo f) hi old new) where
  ranged-call : (c : ℕ) → c < 16 → number_at new c ≡ cond (leb lo c && ltb c hi) (f c (number_at old c)) (number_at old c)
  unfolding only_from
  ranged-call c h =
      elim (dec_lt c hi) [
        | yes l ↦ m.made c l ∙ rw (lt-ltb c hi l) (by_flag (leb lo c))
        | no l ↦ m.kept c (omega arith) h ∙ rw (le-ltb c hi (let g : hi ≤ c = omega arith in g)) (by-none (leb lo c))
      ]
    where
      by_flag : (b : Bool) → cond b (f c (number_at old c)) (number_at old c) ≡ cond (b && true) (f c (number_at old c)) (number_at old c)
      by_flag true = refl
      by_flag false = refl

      by-none : (b : Bool) → number_at old c ≡ cond (b && false) (f c (number_at old c)) (number_at old c)
      by-none true = refl
      by-none false = refl

-- where every lane has the common weight there are sixteen
pub all_lanes : (term : Term) → Ranged term → eqb term.below 16 || (eqb term.above 0 && eqb term.lanes 16) ≡ true → (c : ℕ) → c < 16 → c < term.lanes
all_lanes term r e c h = by_flag (eqb term.below 16) refl e
  where
    by_flag : (f : Bool) → eqb term.below 16 ≡ f → f || (eqb term.above 0 && eqb term.lanes 16) ≡ true → c < term.lanes
    by_flag true g _ = omega (arith, eqb-true term.below 16 g, r.low, r.middle, r.high, r.top)
    by_flag false _ g = omega (arith, eqb-true term.lanes 16 (both (eqb term.above 0) (eqb term.lanes 16) g).1)

module _ (term : Term) (ranged : Ranged term) (products : ℕ → Complex) (old : List Float) where
  abbrev adding : Float → ℕ → Complex → Complex
  adding w c z = cadd z (cmul (products c) (real w))

  abbrev stepping : ℕ → Complex → Complex
  stepping c z = stepped term c (products c) z

  -- one call, where every lane has the common weight
  pub all-stepped : (new : List Float) → eqb term.below 16 || (eqb term.above 0 && eqb term.lanes 16) ≡ true
      → Mapped (only_from 0 (adding term.common)) 16 old new → Mapped stepping term.lanes old new
  all-stepped new e m = by_flag (eqb term.below 16) refl e
    where
      made : (c : ℕ) → c < 16 → (c < term.below) ⊎ (term.above ≤ c) → number_at new c ≡ stepping c (number_at old c)
      made c h w = m.made c h ∙ from_on 0 (adding term.common) c (number_at old c) (omega arith) ∙ sym (stepped-common term c (products c) (number_at old c) w)

      by_flag : (f : Bool) → eqb term.below 16 ≡ f → f || (eqb term.above 0 && eqb term.lanes 16) ≡ true → Mapped stepping term.lanes old new
      by_flag true g _ =
          let full : term.below ≡ 16 = eqb-true term.below 16 g in
          let r = ranged in
          record { long = m.long; made = λ c h. made c (omega (arith, r.few)) (inl (omega (arith, r.few))); kept = λ c h l. absurd (omega (arith, r.low, r.middle, r.high, r.top)) }
      by_flag false g k =
          let b = both (eqb term.above 0) (eqb term.lanes 16) k in
          let none : term.above ≡ 0 = eqb-true term.above 0 b.0 in
          let full : term.lanes ≡ 16 = eqb-true term.lanes 16 b.1 in
          record { long = m.long; made = λ c h. made c (omega arith) (inr (omega arith)); kept = λ c h l. absurd (omega arith) }

  -- three calls, one after another
  module _ (t1 t2 t3 : List Float) (m1 : Mapped (only_from 0 (adding term.common)) term.below old t1) (m2 : Mapped (only_from term.before (adding term.ends)) term.after t1 t2)
      (m3 : Mapped (only_from term.above (adding term.common)) term.lanes t2 t3) where
    abbrev call : ℕ → ℕ → Float → ℕ → Complex → Complex
    call lo hi w c z = cond (leb lo c && ltb c hi) (adding w c z) z

    abbrev calls : ℕ → Complex → Complex
    calls c z = call term.above term.lanes term.common c (call term.before term.after term.ends c (call 0 term.below term.common c z))

    called : (c : ℕ) → c < 16 → number_at t3 c ≡ calls c (number_at old c)
    called c h =
        ranged-call _ _ _ t2 t3 m3 c h ∙ ap (call term.above term.lanes term.common c) (ranged-call _ _ _ t1 t2 m2 c h)
        ∙ ap (λ (z : Complex). call term.above term.lanes term.common c (call term.before term.after term.ends c z)) (ranged-call _ _ _ old t1 m1 c h)

    -- by the range that a lane lies in
    by_range : (c : ℕ) (z : Complex) → c < term.lanes → calls c z ≡ stepping c z
    unfolding stepped
    by_range c z h =
        let r = ranged in
        elim (dec_lt c term.below) [
          | yes l ↦ rw (le-leb 0 c (omega arith), lt-ltb c term.below l, lt-leb term.before c (omega (arith, r.low)), lt-leb term.above c (omega (arith, r.low, r.middle, r.high)))
          | no l ↦ (let b : ltb c term.below ≡ false = le-ltb c term.below (omega arith) in elim (dec_lt c term.before) [
            | yes k ↦ rw (le-leb 0 c (omega arith), b, lt-leb term.before c k, lt-leb term.above c (omega (arith, r.middle, r.high)))
            | no k ↦ (let d : leb term.before c ≡ true = le-leb term.before c (omega arith) in elim (dec_lt c term.after) [
              | yes i ↦ rw (le-leb 0 c (omega arith), b, d, lt-ltb c term.after i, lt-leb term.above c (omega (arith, r.high)))
              | no i ↦ (let g : ltb c term.after ≡ false = le-ltb c term.after (omega arith) in elim (dec_lt c term.above) [
                | yes j ↦ rw (le-leb 0 c (omega arith), b, d, g, lt-leb term.above c j)
                | no j ↦ rw (le-leb 0 c (omega arith), b, d, g, le-leb term.above c (let e : term.above ≤ c = omega arith in e), lt-ltb c term.lanes h)
              ])
            ])
          ])
        ]

    pub three-stepped : Mapped stepping term.lanes old t3
    three-stepped =
        let r = ranged in
        record {
          long = m3.long ∙ m2.long ∙ m1.long;
          made = λ c h. called c (omega (arith, r.few)) ∙ by_range c (number_at old c) h;
          kept = λ c h l. m3.kept c h l ∙ m2.kept c (omega (arith, r.high, r.top)) l ∙ m1.kept c (omega (arith, r.low, r.middle, r.high, r.top)) l;
        }
