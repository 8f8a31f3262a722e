-- `groups::packing::pack` meets its contract: before step k the rows before k are written. Assumes nothing.
use Rattle.std.specs.Prelude.{◌≡◌, ◌+◌, ◌-◌, ◌*◌, ◌≤◌, ◌<◌}
use Rattle.lists.specs.Prelude.{sym, subst, ◌∙◌, ⊎_elim, ℕ, eq-or-lt_of_le, arith, digits_lt, length, put_mid, rules}
use Rattle.two_time.specs.Layout.{read_as}
use Rattle.terms.specs.Kinds.{right_by}
use Rattle.lanes.specs.Lanes.{lane_at}
use Rattle.rows.specs.Parts.{part_length, put-length, put_lane, put_other, width}
use Rattle.groups.proofs.packing.pack.Statement.{statement}
use Rattle.groups.proofs.packing.pack.Tie as tie

abbrev invariant-loop : tie.invariant-loop-k
invariant-loop factor right stride n s u places rows₀ k₀ rows k =
    (k ≤ n) × (length rows ≡ 512)
    × ((m p b : ℕ) → m < k → p < places → b < n → lane_at rows m (p * n + b) ≡ right_by factor (read_as stride n right) s (u + p) m b)

abbrev decreases-loop : tie.decreases-loop-k
decreases-loop factor right stride n s u places rows₀ k₀ rows k = n - k

abbrev start : tie.At-loop-k invariant-loop decreases-loop → tie.Start invariant-loop decreases-loop
start l = l.before.before.before

loop-again : tie.Need-loop-k-preserved invariant-loop decreases-loop
loop-again c =
    let w = c.before.before in let t = w.before.before in let l = t.before in let s = start l in let x = s.args in let i = l.loop-k.invariant in
    let k = l.loop-k.k in let old = l.loop-k.rows in let ys = w.pack_row.new.row in
    let few : k < 16 = omega (arith, t.loop-k-test.true, s.requires.0.3) in
    let long = w.pack_row.ensures.0 in (
      omega (arith, t.loop-k-test.true),
      put-length old k _ (width k) i.1 few ys long,
      λ m p b h hp hb.
          let lane : p * x.orbitals + b < 16 = omega (arith, digits_lt hp hb, s.requires.0.4) in
          ⊎_elim
          (λ e. subst (λ (r : ℕ). lane_at (put_mid (32 * k) (32 * k + 32 - 32 * k) old ys) r (p * x.orbitals + b) ≡ right_by x.factor (read_as x.stride x.orbitals x.right.now) x.s (x.u + p) r b) (sym e)
          (put_lane old k _ (width k) i.1 few ys long (p * x.orbitals + b) lane ∙ w.pack_row.ensures.1 p b hp hb))
          (λ less. put_other old k _ (width k) i.1 few ys long m (p * x.orbitals + b) lane (λ e. omega arith) ∙ i.2 m p b less hp hb)
          (eq-or-lt_of_le (let v : m ≤ k = omega arith in v)),
    )

pub pack_spec : {M : Type 1} → statement M
pack_spec =
    tie.close (tie.spec invariant-loop decreases-loop
    (λ c. (omega arith, c.before.before.requires.1.1, λ m p b h. absurd (omega arith)))  -- loop-k-init
    (λ c. search rules) (λ c. search rules) (λ c. search rules) (λ c. search rules)  -- overflow_mul-at, overflow_add-end, offset_bounds-rows-at, slice_bounds-pack_row-count
    (λ c. search rules)  -- slice_bounds-pack_row-start
    (λ c. let s = start c.before in omega (arith, c.loop-k-test.true, s.requires.0.3, c.before.loop-k.invariant.1))  -- slice_bounds-pack_row-end
    (λ c κs. let t = c.before in let l = t.before in let s = start l in let h = s.requires.0 in ((h.0, h.1, h.2, t.loop-k-test.true, h.3, h.4), (s.requires.1.0, part_length l.loop-k.rows l.loop-k.k _ (width l.loop-k.k) l.loop-k.invariant.1 (omega (arith, t.loop-k-test.true, h.3)))))  -- pack_row-requires
    (λ c. search rules) (λ c. search rules)  -- overflow_step-k, loop-k-smaller
    loop-again
    (λ c. c.before.loop-k.invariant.1 ∙ sym (start c.before).requires.1.1)  -- shape_of-rows
    (λ c. let i = c.before.loop-k.invariant in (i.1, λ k p b h. i.2 k p b (omega (arith, h, c.loop-k-test.false)))))  -- returns
