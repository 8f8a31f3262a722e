-- `lesser::row` meets its contract: G^R(t,0)·g0 stands at the front of an array, and G^< is made from there. Assumes nothing.
use Rattle.std.specs.Prelude.{◌∷◌, ◌+◌, ◌*◌, ◌≤◌}
use Rattle.lists.specs.Prelude.{sym, ◌∙◌, Bool, true, false, List, [], ℕ, arith, le-leb, length, Float, rules, not-true, not-false}
use Rattle.lists.specs.Agreement.{all_agree, join_agree}
use Rattle.block.specs.Block.{lay_out}
use Rattle.block.specs.Length.{length-block}
use Rattle.two_time.specs.Places.{product-most}
use Rattle.two_time.specs.SizeChecks.{SizesPassed, sizes-passed, sizes_pass, long-first, long_also, long-none}
use Rattle.two_time.specs.Start.{holds_block}
use Rattle.lanes.specs.Filled.{filled_none, filled-all, fails-one}
use Rattle.lesser.specs.Rows.{lesser_finite, lesser_block, finite-is, block-is, first-fails}
use Rattle.lesser.proofs.row.Statement.{statement}
use Rattle.lesser.proofs.row.Tie as tie

abbrev start : tie.After-slice_known-1 → tie.Start
start c = c.before.before.before.before.before

sizes : (s : tie.Start) → let x = s.args in SizesPassed x.capacity x.orbitals true (x.retarded.now ∷ x.lesser_advanced.now ∷ [])
sizes s = sizes-passed _ _ _ _ s.requires.0.2

block : (s : tie.Start) → s.args.orbitals * s.args.orbitals ≤ 256
block s = product-most s.args.orbitals s.args.orbitals (sizes s).orbitals-most (sizes s).orbitals-most

-- place p from column `from` on
abbrev finite_at : tie.Start → ℕ → Bool
finite_at s p = let x = s.args in lesser_finite x.capacity x.orbitals x.times.now x.retarded.now x.lesser_advanced.now x.g0.now x.t (x.from + p)

abbrev laid : tie.Start → ℕ → List Float
laid s p = let x = s.args in lay_out x.orbitals x.orbitals (lesser_block x.capacity x.orbitals x.times.now x.retarded.now x.lesser_advanced.now x.g0.now x.t (x.from + p))

returns : tie.Need-returns-then-count-eq0
returns c =
    let s = start c.before in
    let x = s.args in
    filled-all x.count (finite_at s) (laid s) (2 * (x.orbitals * x.orbitals)) (λ p. length-block x.orbitals _) x.out.now 0 x.out.now (filled_none x.count (finite_at s) (laid s) x.out.now) (let e = c.if-count-eq0.true in omega arith) s.requires.1

slice_aggregate_first : tie.Need-slice_bounds-first-end
slice_aggregate_first c = search rules

first-requires : tie.Need-first-requires
first-requires c κs =
    let s = start c.before.before in
    let z = sizes s in
    (s.requires.0.0, sizes_pass _ z (long_also _ _ _ (long-first _ _ _ z.long).0 (long-none _)), s.requires.0.3, sym (slice_aggregate_first c))

-- the row's first product, as the array holds it
abbrev filled : tie.After-first → List Float
filled c = c.first.new.filled

returns-2 : tie.Need-returns-then-not-first
returns-2 c =
    let f = c.before.before in
    let e = f.before.before in
    let s = start e.before in
    let x = s.args in
    let fails = sym f.first.ensures.0 ∙ not-true _ c.if-not-first.true-raw in
    fails-one x.count (finite_at s) (laid s) 0 _ (let l = e.if-count-eq0.false in omega (arith, l))
    (first-fails x.capacity x.orbitals x.times.now x.retarded.now x.lesser_advanced.now x.g0.now x.t fails (x.from + 0))

slice_aggregate_blocks : tie.Need-slice_bounds-blocks-end
slice_aggregate_blocks c = search rules

blocks-requires : tie.Need-blocks-requires
unfolding holds_block
blocks-requires c κs =
    let f = c.before.before.before.before in
    let s = start f.before.before.before in
    let b = block s in
    let l = f.first.ensures.1 in
    ((s.requires.0.0, s.requires.0.1, s.requires.0.2, rw (le-leb _ _ (sizes s).orbitals-most, le-leb (2 * (s.args.orbitals * s.args.orbitals)) (length (filled f)) (omega arith))), s.requires.1)

returns-3 : tie.Need-returns
returns-3 c =
    let b = c.before.before in
    let e = b.before.before.before in
    let f = e.before.before in
    let s = start f.before.before.before in
    let x = s.args in
    let ok = not-false _ e.if-not-first.false-raw in
    let held = f.first.ensures.2 ok in
    let finite = sym f.first.ensures.0 ∙ ok in (
      b.blocks-2.ensures.0 ∙ all_agree x.count _ _ (λ p hp. finite-is x.capacity x.orbitals x.times.now x.retarded.now x.lesser_advanced.now x.g0.now x.t (filled f) held finite (x.from + p)),
      λ h. b.blocks-2.ensures.1 h ∙ join_agree x.count _ _ (λ p hp. block-is x.capacity x.orbitals x.times.now x.retarded.now x.lesser_advanced.now x.g0.now x.t (filled f) held finite (x.from + p)),
    )

pub row_spec : {M : Type 1} → statement M
row_spec =
    tie.close
    (tie.spec
    returns
    slice_aggregate_first
    first-requires
    returns-2
    slice_aggregate_blocks
    blocks-requires
    (λ c. search rules)  -- shape_of-out
    returns-3)
