-- `groups::adding::add_term` meets its contract: the term by Step. Assumes nothing.
use Rattle.std.specs.Prelude.{◌≡◌, ◌+◌, ◌-◌, ◌*◌, ◌≤◌, ◌<◌}
use Rattle.lists.specs.Prelude.{refl, sym, ap, ◌∙◌, List, ℕ, mul-le-mul_left, mul-one, arith, digits_lt, length, Float, rules, put_mid}
use Rattle.terms.specs.declared.Factor.{Factor}
use Rattle.two_time.specs.Layout.{read_as}
use Rattle.terms.specs.Kinds.{right_by}
use Rattle.two_time.specs.Places.{Placed}
use Rattle.two_time.proofs.Places.{block_inside}
use Rattle.terms.specs.TermAt.{TermAt, term_at_lem}
use Rattle.complex.specs.Numbers.{entry_at}
use Rattle.lanes.specs.Lanes.{lane_at}
use Rattle.rows.specs.Rows.{stepped}
use Rattle.rows.specs.Ranges.{Ranged}
use Rattle.rows.specs.Parts.{Rowed, rowed_none, rowed_next, part_length}
use Rattle.rows.specs.Fitting.{Fits, totals_length, totals_lane}
use Rattle.groups.specs.InPlace.{in_place, lane_in_place, lane_reach}
use Rattle.groups.proofs.Step.{ranged, lane_step, lane_product}
use Rattle.groups.proofs.adding.add_term.Statement.{statement}
use Rattle.groups.proofs.adding.add_term.Tie as tie

abbrev start : tie.After-factor_of-factor → tie.Start
start f = f.before.before.before.before.before.before

-- the places are few
few : (f : tie.After-factor_of-factor) → (start f).args.places ≤ 16
few f =
    let x = (start f).args in let p = (start f).requires.0 in
    let h : x.places * 1 ≤ x.places * x.orbitals = mul-le-mul_left x.places p.4 in
    omega (arith, mul-one x.places, p.8)

placed : (f : tie.After-factor_of-factor) → let x = (start f).args in Placed x.stride x.orbitals x.t x.s 0 0
placed f =
    let p = (start f).requires.0 in
    record { first = omega (arith, p.0, p.2); second = omega (arith, p.1, p.2); row = p.4; column = p.4; stride_most = p.3; orbitals-most = p.5 }

term_is : (c : tie.After-term_of-term) → let x = (start c.before).args in TermAt x.sums x.times.now x.points x.orbitals x.t x.s x.u x.places c.term_of-term.result
term_is c =
    let x = (start c.before).args in
    let p = (start c.before).requires.0 in
    term_at_lem x.sums x.times.now x.points x.orbitals x.t x.s x.u x.places c.term_of-term.result p.1 (omega (arith, p.2, p.3)) p.5 (few c.before) c.term_of-term.ensures

ranges : (c : tie.After-term_of-term) → Ranged c.term_of-term.result
ranges c =
    let x = (start c.before).args in
    ranged x.sums x.times.now x.points x.orbitals x.t x.s x.u x.places c.term_of-term.result (term_is c) (start c.before).requires.0.8

-- at one orbital: the first row alone
one-row : (g : tie.After-add_in_place) → let i = g.before.before.before.before.before.before.before in let x = (start i.before.before).args in
    Rowed (λ a c z. stepped i.before.term_of-term.result c (in_place i.before.before.factor_of-factor.result g.before.before.new-x.result x.right.now x.stride g.before.before.before.before.before.right_place-j.result c) z)
    i.before.term_of-term.result.lanes 1 x.totals.now (put_mid 0 (32 - 0) x.totals.now g.add_in_place.new.totals)
one-row g =
    let i = g.before.before.before.before.before.before.before in let k = i.before in
    let s = start k.before in
    let x = s.args in
    rowed_next _ k.term_of-term.result.lanes 0 32 x.totals.now x.totals.now g.add_in_place.new.totals (rowed_none _ _ x.totals.now s.requires.1.1.1.1) (omega arith) (ranges k).few refl
    g.add_in_place.ensures

returns : tie.Need-returns-then-orbitals-eq1
returns c =
    let g = c.before.before in let new = g.before.before in let j = new.before.before.before in let f1 = j.before in let i = f1.before in
    let k = i.before in let f = k.before in let s = start f in let x = s.args in let pre = s.requires.0 in
    let one : x.orbitals ≡ 1 = f1.if-orbitals-eq1.true in
    let m = one-row g in (
      s.requires.1.1.1.0,
      m.long,
      λ a p b ha hp hb.
          m.made a (p * x.orbitals + b) (omega arith) (rw (term_is k).lanes (digits_lt hp hb))
          ∙ lane_step x.sums x.times.now x.points x.orbitals x.t x.s x.u x.places k.term_of-term.result (term_is k) pre.1 s.requires.1.0 x.stride x.left.now x.right.now p a b hp hb _ _
          (lane_in_place x.sums x.points x.stride x.times.now x.left.now x.right.now x.t x.s x.u x.orbitals one _ _ _ f.factor_of-factor.ensures (new.new-x.ensures ∙ ap (entry_at x.left.now) i.place-i.ensures.0) j.right_place-j.ensures p a b ha hb),
    )

-- the packed rows, and the term fits them
abbrev packed : tie.After-add_packed → List Float
packed g = g.before.before.before.before.pack.new.rows

fit : (g : tie.After-add_packed) → let i = g.before.before.before.before.before.before.before in let x = (start i.before.before).args in
    Fits x.left.now i.place-i.result x.orbitals (packed g) i.before.term_of-term.result x.totals.now
fit g =
    let w = g.before.before.before.before in let i = w.before.before.before in
    let s = start i.before.before in
    let p = s.requires in
    record {
      ranged = ranges i.before;
      few = p.0.5;
      short = p.1.1.0.2;
      inside = block_inside (placed i.before.before) i.place-i.result (length s.args.left.now) i.place-i.ensures.0 p.1.1.0.0;
      rows_long = w.pack.ensures.0;
      totals_long = p.1.1.1.1;
    }

returns-2 : tie.Need-returns-else-orbitals-eq1
returns-2 c =
    let g = c.before.before in let w = g.before.before.before.before in let i = w.before.before.before in let k = i.before in
    let f = k.before in let s = start f in let x = s.args in let pre = s.requires.0 in
    let m = g.add_packed.ensures.1 in (
      w.pack.ensures.0,
      ap length m ∙ totals_length _ _ _ _ _ _ (fit g),
      λ a p b ha hp hb.
          ap (λ (xs : List Float). lane_at xs a (p * x.orbitals + b)) m
          ∙ totals_lane _ _ _ _ _ _ (fit g) a (p * x.orbitals + b) ha (rw (term_is k).lanes (digits_lt hp hb))
          ∙ lane_step x.sums x.times.now x.points x.orbitals x.t x.s x.u x.places k.term_of-term.result (term_is k) pre.1 s.requires.1.0 x.stride x.left.now x.right.now p a b hp hb _ _
          (lane_product x.sums x.points x.stride x.orbitals x.times.now x.left.now x.right.now x.t x.s x.u i.place-i.result (packed g) a p b ha hb i.place-i.ensures.0
          (λ q hq. w.pack.ensures.1 q p b hq hp hb ∙ ap (λ (h : Factor). right_by h (read_as x.stride x.orbitals x.right.now) x.s (x.u + p) q b) f.factor_of-factor.ensures)),
    )

-- the first number of this step's left factor
read : (i : tie.After-place-i) → let x = (start i.before.before).args in i.place-i.result + 1 < length x.left.now
read i = omega (arith, i.place-i.ensures.1, (start i.before.before).requires.1.1.0.0)

add-in-place-requires : tie.Need-add_in_place-requires
add-in-place-requires c κs =
    let j = c.before.before.before.before in let i = j.before.before in let k = i.before in
    let s = start k.before in
    let x = s.args in let pre = s.requires.0 in
    let one : x.orbitals ≡ 1 = j.before.if-orbitals-eq1.true in
    let lanes : k.term_of-term.result.lanes ≡ x.places = (term_is k).lanes ∙ ap (λ (n : ℕ). x.places * n) one ∙ mul-one x.places in (
      (ranges k, part_length x.totals.now 0 32 refl s.requires.1.1.1.1 (omega arith), pre.3),
      λ d h. lane_reach k.before.factor_of-factor.result x.stride x.orbitals x.s x.u d j.right_place-j.result (length x.right.now) one (omega (arith, pre.1, pre.2)) (omega (arith, h, lanes, pre.7)) pre.3 j.right_place-j.ensures s.requires.1.1.0.1,
    )

pub add_term_spec : {M : Type 1} → statement M
add_term_spec =
    tie.close (tie.spec
    (λ c κs. search rules) (λ c κs. search rules)  -- factor_of-factor-requires, term_of-term-requires
    (λ c κs. placed c.before)  -- place-i-requires
    (λ c κs. let p = (start c.before.before.before).requires.0 in record { first = omega (arith, p.1, p.2); second = omega (arith, p.6, p.7); row = p.4; column = p.4; stride_most = p.3; orbitals-most = p.5 })  -- right_place-j-requires
    (λ c. let h = read c.before.before in let p = (start c.before.before.before.before).requires.1.1.0.2 in omega arith)  -- offset_bounds-left-i
    (λ c. let h = read c.before.before.before in omega arith)  -- bounds-left-i
    (λ c. let h = read c.before.before.before in let p = (start c.before.before.before.before.before).requires.1.1.0.2 in omega arith)  -- overflow_add-i
    (λ c. let h = read c.before.before.before in let p = (start c.before.before.before.before.before).requires.1.1.0.2 in omega arith)  -- offset_bounds-left-i-then-orbitals-eq1
    (λ c. let h = read c.before.before.before.before in omega arith)  -- bounds-left-i-then-orbitals-eq1
    (λ c κs. search rules) (λ c. search rules) (λ c. search rules)  -- new-x-requires, offset_bounds-totals-start, slice_bounds-add_in_place-count
    (λ c. search rules)  -- slice_bounds-add_in_place-start
    (λ c. let s = start c.before.before.before.before.before.before.before in omega (arith, s.requires.1.1.1.1))  -- slice_bounds-add_in_place-end
    add-in-place-requires
    (λ c κs. let s = start c.before.before.before.before in let p = s.requires.0 in ((omega (arith, p.1, p.2), p.7, p.3, p.5, p.8), (s.requires.1.1.0.1, s.requires.1.1.1.0)))  -- pack-requires
    (λ c κs. search rules)  -- add_packed-requires
    (λ c. let g = c.before.before in (one-row g).long ∙ sym (start g.before.before.before.before.before.before.before.before.before).requires.1.1.1.1)  -- shape_of-totals-then-orbitals-eq1
    returns
    (λ c. let w = c.before.before.before.before.before.before in w.pack.ensures.0 ∙ sym (start w.before.before.before.before.before).requires.1.1.1.0)  -- shape_of-rows
    (λ c. c.before.before.add_packed.auto.totals)  -- shape_of-totals-else-orbitals-eq1
    returns-2)
