-- `groups::packing::pack_row` meets its contract: before step p the lanes of the places before p are written. Assumes nothing.
use Rattle.std.specs.Prelude.{◌≡◌, ◌+◌, ◌-◌, ◌*◌, ◌≤◌, ◌<◌}
use Rattle.lists.specs.Prelude.{sym, subst, ◌∙◌, ⊎_elim, ℕ, eq-or-lt_of_le, arith, digits_lt, length, rules}
use Rattle.two_time.specs.Layout.{read_as}
use Rattle.terms.specs.Kinds.{right_by}
use Rattle.two_time.specs.Places.{Placed}
use Rattle.two_time.specs.Parts.{part-within}
use Rattle.rows.specs.Numbers.{number_at}
use Rattle.groups.specs.Right.{row_inside, row_read}
use Rattle.groups.proofs.packing.pack_row.Statement.{statement}
use Rattle.groups.proofs.packing.pack_row.Tie as tie

abbrev invariant-loop : tie.invariant-loop-p
invariant-loop factor right stride n s u k places row₀ p₀ row p =
    (p ≤ places) × (length row ≡ 32) × ((q b : ℕ) → q < p → b < n → number_at row (q * n + b) ≡ right_by factor (read_as stride n right) s (u + q) k b)

abbrev decreases-loop : tie.decreases-loop-p
decreases-loop factor right stride n s u k places row₀ p₀ row p = places - p

abbrev start : tie.At-loop-p invariant-loop decreases-loop → tie.Start invariant-loop decreases-loop
start l = l.before.before.before

-- this step's place
placed : (t : tie.In-loop-p invariant-loop decreases-loop) → let x = (start t.before).args in Placed x.stride x.orbitals x.s (x.u + t.before.loop-p.p) x.k 0
placed t =
    let h = (start t.before).requires.0 in
    record { first = h.0; second = omega (arith, t.loop-p-test.true, h.1); row = h.3; column = omega (arith, h.3); stride_most = h.2; orbitals-most = h.4 }

-- its lanes
fits : (t : tie.In-loop-p invariant-loop decreases-loop) → let x = (start t.before).args in t.before.loop-p.p * x.orbitals + x.orbitals ≤ 16
fits t = let s = start t.before in omega (arith, part-within s.args.orbitals t.loop-p-test.true, s.requires.0.5)

pack-block-row-requires : tie.Need-pack_block_row-requires invariant-loop decreases-loop
pack-block-row-requires c κs =
    let j = c.before in let t = j.before in
    let s = start t.before in
    let x = s.args in
    ((fits t, t.before.loop-p.invariant.1), λ b h. omega (arith, row_inside x.factor (placed t) x.k j.right_place-j.result s.requires.0.3 j.right_place-j.ensures b h, s.requires.1.0))

loop-again : tie.Need-loop-p-preserved invariant-loop decreases-loop
loop-again c =
    let w = c.before.before in let j = w.before.before in let t = j.before in let l = t.before in let s = start l in let x = s.args in
    let i = l.loop-p.invariant in let p = l.loop-p.p in let m = w.pack_block_row.ensures in
    let f = fits t in (
      omega (arith, t.loop-p-test.true),
      m.long,
      λ q b h k.
          ⊎_elim
          (λ e. subst (λ (r : ℕ). number_at w.pack_block_row.new.row (r * x.orbitals + b) ≡ right_by x.factor (read_as x.stride x.orbitals x.right.now) x.s (x.u + r) x.k b) (sym e)
          (m.made b k ∙ row_read x.factor (placed t) x.k j.right_place-j.result s.requires.0.3 j.right_place-j.ensures b x.right.now))
          (λ less. m.kept (q * x.orbitals + b) (digits_lt less k) ∙ i.2 q b less k)
          (eq-or-lt_of_le (let v : q ≤ p = omega arith in v)),
    )

pub pack_row_spec : {M : Type 1} → statement M
pack_row_spec =
    tie.close (tie.spec invariant-loop decreases-loop
    (λ c. (omega arith, c.before.before.requires.1.1, λ q b h. absurd (omega arith)))  -- loop-p-init
    (λ c. let h = (start c.before).requires.0 in omega (arith, c.loop-p-test.true, h.1, h.2))  -- overflow_add-u
    (λ c κs. placed c)  -- right_place-j-requires
    (λ c. let f = fits c.before in omega arith)  -- overflow_mul-p
    pack-block-row-requires
    (λ c. search rules) (λ c. search rules)  -- overflow_step-p, loop-p-smaller
    loop-again
    (λ c. c.before.loop-p.invariant.1 ∙ sym (start c.before).requires.1.1)  -- shape_of-row
    (λ c. let i = c.before.loop-p.invariant in (i.1, λ p b h k. i.2 p b (omega (arith, h, c.loop-p-test.false)) k)))  -- returns
