-- `starts::product_lanes` meets its contract: before step a the rows before a are written. Assumes nothing.
use Rattle.std.specs.Prelude.{◌≡◌, ◌+◌, ◌-◌, ◌*◌, ◌≤◌, ◌<◌}
use Rattle.lists.specs.Prelude.{sym, subst, ◌∙◌, ⊎_elim, ℕ, eq-or-lt_of_le, mul_left_comm, arith, digits_lt, length, put_mid, rules}
use Rattle.two_time.specs.Parts.{part-within}
use Rattle.lanes.specs.Lanes.{lane_at}
use Rattle.rows.specs.Parts.{part_length, put-length, put_lane, put_other, width}
use Rattle.starts.specs.Products.{dot, right_at}
use Rattle.starts.proofs.product_lanes.Statement.{statement}
use Rattle.starts.proofs.product_lanes.Tie as tie

abbrev invariant-loop : tie.invariant-loop-a
invariant-loop columns left i right n places lanes₀ width a₀ lanes a =
    (a ≤ n) × (length lanes ≡ 512)
    × ((m p b : ℕ) → m < a → p < places → b < n → lane_at lanes m (p * n + b) ≡ dot n left (i + m * (2 * n)) (right_at columns right p b))

abbrev decreases-loop : tie.decreases-loop-a
decreases-loop columns left i right n places lanes₀ width a₀ lanes a = n - a

abbrev start : tie.At-loop-a invariant-loop decreases-loop → tie.Start invariant-loop decreases-loop
start l = l.before.before.before.before

-- this step's row of the left factor lies in its slice
inside : (t : tie.In-loop-a invariant-loop decreases-loop) → let x = (start t.before).args in x.i + t.before.loop-a.a * (2 * x.orbitals) + 2 * x.orbitals ≤ length x.left.now
inside t =
    let s = start t.before in let n = s.args.orbitals in
    omega (arith, part-within (2 * n) t.loop-a-test.true, mul_left_comm n 2 n, s.requires.0.1)

few : (t : tie.In-loop-a invariant-loop decreases-loop) → t.before.loop-a.a < 16
few t = omega (arith, t.loop-a-test.true, (start t.before).requires.0.0)

loop-again : tie.Need-loop-a-preserved invariant-loop decreases-loop
loop-again c =
    let w = c.before.before in let t = w.before.before in let l = t.before in let s = start l in let x = s.args in let i = l.loop-a.invariant in
    let a = l.loop-a.a in let old = l.loop-a.lanes in let ys = w.lanes_row.new.row in
    let h = few t in
    let long = w.lanes_row.ensures.0 in (
      omega (arith, t.loop-a-test.true),
      put-length old a _ (width a) i.1 h ys long,
      λ m p b l hp hb.
          let lane : p * x.orbitals + b < 16 = omega (arith, digits_lt hp hb, s.requires.1.0) in
          ⊎_elim
          (λ e. subst (λ (r : ℕ). lane_at (put_mid (32 * a) (32 * a + 32 - 32 * a) old ys) r (p * x.orbitals + b) ≡ dot x.orbitals x.left.now (x.i + r * (2 * x.orbitals)) (right_at x.columns x.right.now p b)) (sym e)
          (put_lane old a _ (width a) i.1 h ys long (p * x.orbitals + b) lane ∙ w.lanes_row.ensures.1 p b hp hb))
          (λ less. put_other old a _ (width a) i.1 h ys long m (p * x.orbitals + b) lane (λ e. omega arith) ∙ i.2 m p b less hp hb)
          (eq-or-lt_of_le (let v : m ≤ a = omega arith in v)),
    )

pub product_lanes_spec : {M : Type 1} → statement M
product_lanes_spec =
    tie.close (tie.spec invariant-loop decreases-loop
    (λ c. search rules)  -- overflow_mul-width
    (λ c. (omega arith, c.before.before.before.requires.1.1, λ m p b h. absurd (omega arith)))  -- loop-a-init
    (λ c. let h = few c in omega arith) (λ c. let h = few c in omega arith)  -- overflow_mul-at, overflow_add-end
    (λ c. let h = inside c in omega arith) (λ c. let h = inside c in omega arith)  -- overflow_mul-a, overflow_add-i
    (λ c. let h = few c in omega arith) (λ c. omega arith) (λ c. omega arith)  -- offset_bounds-lanes-at, slice_bounds-lanes_row-count, slice_bounds-lanes_row-start
    (λ c. let h = few c in omega (arith, c.before.loop-a.invariant.1))  -- slice_bounds-lanes_row-end
    (λ c κs. let t = c.before in let l = t.before in let s = start l in let h = s.requires.0 in
    ((h.0, inside t, h.2), (omega (arith, t.loop-a-test.true), s.requires.1.0, part_length l.loop-a.lanes l.loop-a.a _ (width l.loop-a.a) l.loop-a.invariant.1 (few t))))  -- lanes_row-requires
    (λ c. search rules) (λ c. search rules)  -- overflow_step-a, loop-a-smaller
    loop-again
    (λ c. c.before.loop-a.invariant.1 ∙ sym (start c.before).requires.1.1)  -- shape_of-lanes
    (λ c. let i = c.before.loop-a.invariant in (i.1, λ a p b h. i.2 a p b (omega (arith, h, c.loop-a-test.false)))))  -- returns
