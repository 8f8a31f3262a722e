-- `transient_run::counting::formed` meets its contract: the counts of two runs, and what lies between. Assumes nothing.
use Rattle.std.specs.Prelude.{◌≡◌, ◌+◌, ◌≤◌}
use Rattle.lists.specs.Prelude.{sym, ap, ◌∙◌, ℕ, min, min-eq_left, le_trans, arith}
use Rattle.transient_run.specs.Products.{formed, count_of, formed-count, formed-on}
use Rattle.transient_run.proofs.counting.formed.Statement.{statement}
use Rattle.transient_run.proofs.counting.formed.Tie as tie

-- a count that is cut at 256 is that of points within it
within : (start count p : ℕ) → count ≡ count_of start (min p 256) → p ≤ 256 → count ≡ formed start 0 p
within start count p e h = e ∙ ap (count_of start) (min-eq_left h) ∙ sym (formed-count start p)

sum : (c : tie.After-count_of) → let x = c.before.before.args in
    (c.before.count_of-before.result ≡ formed x.start 0 x.old) × (c.count_of.result ≡ formed x.start 0 x.points) × (formed x.start 0 x.old + formed x.start x.old x.points ≡ formed x.start 0 x.points)
sum c =
    let s = c.before.before in
    let x = s.args in (
      within x.start _ x.old c.before.count_of-before.ensures (le_trans s.requires.1 s.requires.2),
      within x.start _ x.points c.count_of.ensures s.requires.2,
      formed-on x.start x.old x.points s.requires.1,
    )

pub formed_spec : {M : Type 1} → statement M
formed_spec =
    tie.close
    (tie.spec
    (λ c κs. c.requires.0)  -- count_of-before-requires
    (λ c κs. c.before.requires.0)  -- count_of-requires
    (λ c. let e = sum c in omega (arith, e.0, e.1, e.2))  -- overflow_sub-result
    (λ c. let e = sum c in omega (arith, e.0, e.1, e.2)))  -- returns
