-- Demand 3 alone is weak: a solver that leaves +0 everywhere, and one that leaves the free function with +0 above the diagonal, meet the same
-- statement, and P11 tells both from the definition. So the rows themselves are demand 2's. Assumes nothing.
use Rattle.std.specs.Prelude.{◌≡◌, ◌<◌}
use Rattle.lists.specs.Prelude.{refl, sym, ap, ◌∙◌, true, cond, ℕ, arith, ltb, get_or, replicate, nan, binary64, to_bits, lt-ltb, ltb-false}
use Rattle.std.specs.Float.Ieee as Ieee
use Rattle.lists.specs.Indexed.{join}
use Rattle.lists.specs.Agreement.{cond_agree}
use Rattle.complex.specs.Arithmetic.{one, czero, finite, cfinite}
use Rattle.refusal.specs.Verdict.{zeroed}
use Rattle.block.specs.Block.{lay_out}
use Rattle.two_time.specs.Layout.{TwoTime, lay_out_all}
use Rattle.two_time.specs.New.{is_new, written}
use Rattle.support.specs.Support.{retarded}
use Rattle.transient_run.specs.Calls.{Run, Outcome, verdict_of, transient_run}
use Rattle.transient_run.specs.P12 as P12
use Rattle.transient_run.proofs.P12 as P12Made
use Rattle.causality.specs.Statement.{Solver, of, SameTo, Demand3}
use Rattle.causality.specs.Stages.{RowsTo}
use Rattle.causality.specs.Made.{with_orbitals}
use Rattle.causality.specs.Solvers.{left-made, leaves, solver_of, meets}
use Rattle.causality.specs.Prefix.{run, inputs_pass, passes}

-- +0 everywhere
abbrev nothing : Run → TwoTime
nothing r t u a b = czero

-- the free function, +0 above the diagonal
abbrev free_below : Run → TwoTime
free_below r t u a b = cond (ltb t u) czero (of r r.free t u a b)

-- G^R is g, and all else +0
abbrev weak : (Run → TwoTime) → Solver
weak g = solver_of g nothing (λ r. zeroed r.kernel) (λ r. zeroed r.lesser_advanced)

abbrev pub all_zero : Solver
all_zero = weak nothing

abbrev pub free_only : Solver
free_only = weak free_below

zero-finite : cfinite czero ≡ true
unfolding cfinite finite Ieee.of_bits
zero-finite = refl

-- one argument for both: whatever G^R is, with G^< at +0
no-lesser : (g : Run → TwoTime)
    → ((k : ℕ) (r r' : Run) → SameTo k r (with_orbitals r' r.orbitals) → RowsTo r.orbitals k (g r) (g (with_orbitals r' r.orbitals)))
    → ((r : Run) (t u a b : ℕ) → t < u → g r t u a b ≡ czero) → Demand3 (weak g)
no-lesser g rows above =
    meets g nothing _ _
    (record {
      retarded = λ k r r' hk hk' same. rows k r r' same;
      lesser = λ k r r' hk hk' v same t u ht hu a b ha hb. refl;
      numbers = λ r v t u a b ht hu ha hb. zero-finite;
      above = above;
    })

pub all_zero-meets : Demand3 all_zero
all_zero-meets = no-lesser nothing (λ k r r' same t u ht a b ha hb. refl) (λ r t u a b less. refl)

pub free_only-meets : Demand3 free_only
free_only-meets =
    no-lesser free_below
    (λ k r r' same t u ht a b ha hb. cond_agree (ltb t u) _ _ _ _ (λ _. refl) (λ below. same.free t u ht (ltb-false t u below) a b ha hb))
    (λ r t u a b less. rw (lt-ltb t u less))

-- ---- P11 tells them apart: G(2,0) = 3.5, where they leave +0 and 1

-- the bits of the real part of G(2,0)
abbrev seen : Outcome → ℕ
seen o = to_bits binary64 (get_or o.retarded 12 nan)

definition_sees : seen (transient_run run) ≡ 0x400c_0000_0000_0000
unfolding Ieee.of_bits to_bits
definition_sees = rw (P12Made.outcome one (replicate 18 one) refl inputs_pass)

all_zero_sees : seen (all_zero run) ≡ 0
unfolding solver_of is_new written lay_out_all lay_out join Ieee.of_bits to_bits
all_zero_sees = rw (left-made zeroed (verdict_of 0 3 run) (leaves run (nothing run) (replicate 18 one)) (replicate 18 one) passes)

free_only_sees : seen (free_only run) ≡ 0x3ff0_0000_0000_0000
unfolding solver_of is_new written lay_out_all lay_out join Ieee.of_bits to_bits
free_only_sees = rw (left-made zeroed (verdict_of 0 3 run) (leaves run (free_below run) (replicate 18 one)) (replicate 18 one) passes)

pub all_zero_differs : all_zero run ≡ transient_run run → ⊥
all_zero_differs e = let h : ◌≡◌ {A = ℕ} 0 0x400c_0000_0000_0000 = sym all_zero_sees ∙ ap seen e ∙ definition_sees in omega arith

pub free_only_differs : free_only run ≡ transient_run run → ⊥
free_only_differs e = let h : ◌≡◌ {A = ℕ} 0x3ff0_0000_0000_0000 0x400c_0000_0000_0000 = sym free_only_sees ∙ ap seen e ∙ definition_sees in omega arith
