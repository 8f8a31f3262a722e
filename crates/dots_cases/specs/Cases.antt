-- Closed cases of L12, of two points and two orbitals, one in each group: two accepted runs to which the theorem applies, with other second groups and zeros
-- of the other sign; and an accepted run that agrees with the first in the first group, but whose groups couple, and that leaves another first group.
-- Assumes nothing.
use Rattle.std.specs.Prelude.{◌≡◌, ◌∷◌, ◌<◌}
use Rattle.lists.specs.Prelude.{refl, sym, ap, subst, ◌∙◌, Bool, true, false, cond, List, [], ℕ, zero, suc, arith, ltb, get_or, drop, replicate, Float, nan, binary64, to_bits}
use Rattle.std.specs.Float.Ieee as Ieee
use Rattle.lists.specs.Agreement.{never}
use Rattle.complex.specs.declared.Complex.{Complex}
use Rattle.complex.specs.Arithmetic.{plus_zero, one, czero, cone, real}
use Rattle.complex.specs.Zeros.{Zeros, zero-zeros}
use Rattle.refusal.specs.Verdict.{pass, zeroed}
use Rattle.refusal.specs.Checks.{not_empty, within_block}
use Rattle.block.specs.Block.{Entries}
use Rattle.two_time.specs.Layout.{TwoTime, read_as, lay_out_all}
use Rattle.two_time.proofs.ReadBack.{read_back}
use Rattle.two_time.specs.Example.{bits}
use Rattle.transient_run.specs.Form.{Form, g0_of}
use Rattle.transient_run.specs.Form.Form.{occupied}
use Rattle.transient_run.specs.Calls.{Run, run_of, solved, is_accepted, retarded_made, lesser_made, verdict_of, worked, transient_run}
use Rattle.transient_run.specs.Computation.{run_computation}
use Rattle.causality.specs.Statement.{of}
use Rattle.causality.specs.Solvers.{left-made}
use Rattle.two_dots.specs.Statement.{Split, ZeroAcross, SameFirst, Uncoupled, SameGiven, SameLeft}
use Rattle.two_dots.proofs.Theorem.{two_dots}

-- orbital 0 is the first dot
abbrev first : Split
first zero = true
first (suc a) = false

-- x in the first group, y in the second, z across
abbrev entry : Complex → Complex → Complex → Entries
entry x z y zero zero = x
entry x z y zero (suc b) = z
entry x z y (suc a) zero = z
entry x z y (suc a) (suc b) = y

abbrev lower : Complex → Complex → Complex → TwoTime
lower x z y t u a b = cond (ltb t u) czero (entry x z y a b)

abbrev everywhere : Complex → Complex → Complex → TwoTime
everywhere x z y t u = entry x z y

abbrev i : Complex
i = record { re = plus_zero; im = one }

-- g0 is i in the first group
abbrev start : Complex → Complex → Form
start z y = occupied (record { rows = 2; columns = 2; values = i.re ∷ i.im ∷ z.re ∷ z.im ∷ z.re ∷ z.im ∷ y.re ∷ y.im ∷ [] })

-- in the first group P12 to its second point, occupied
abbrev run : Complex → Complex → Run
run z y =
    let before = replicate 32 plus_zero in
    run_of (start z y) (record { products = replicate 8 0 }) 0 (record { points = 2; capacity = 2; orbitals = 2 }) one (plus_zero ∷ one ∷ []) (lay_out_all 2 2 (lower cone z y)) (lay_out_all 2 2 (lower cone z y))
    (lay_out_all 2 2 (everywhere i z y)) before before before before

-- ---- what the theorem supposes

entry_across : (x z y : Complex) → Zeros z → (a b : ℕ) → (first a ≡ first b → ⊥) → Zeros (entry x z y a b)
entry_across x z y h zero zero apart = absurd (apart refl)
entry_across x z y h zero (suc b) apart = h
entry_across x z y h (suc a) zero apart = h
entry_across x z y h (suc a) (suc b) apart = absurd (apart refl)

entry-same : (x z y z' y' : Complex) (a b : ℕ) → first a ≡ true → first b ≡ true → entry x z y a b ≡ entry x z' y' a b
entry-same x z y z' y' zero zero fa fb = refl
entry-same x z y z' y' zero (suc b) fa fb = never fb
entry-same x z y z' y' (suc a) b fa fb = never fa

lower_across : (x z y : Complex) → Zeros z → (t u a b : ℕ) → (first a ≡ first b → ⊥) → Zeros (lower x z y t u a b)
lower_across x z y h t u a b apart = by_flag (ltb t u)
  where
    by_flag : (above : Bool) → Zeros (cond above czero (entry x z y a b))
    by_flag true = zero-zeros
    by_flag false = entry_across x z y h a b apart

-- a function that is laid out is read
laid_across : (f : TwoTime) → ((t u a b : ℕ) → (first a ≡ first b → ⊥) → Zeros (f t u a b)) → (t u : ℕ) → t < 2 → u < 2 → ZeroAcross first 2 (read_as 2 2 (lay_out_all 2 2 f) t u)
laid_across f h t u ht hu a b ha hb apart = subst Zeros (sym (read_back 2 2 f t u a b ht hu ha hb)) (h t u a b apart)

laid_same : (f f' : TwoTime) → ((t u a b : ℕ) → first a ≡ true → first b ≡ true → f t u a b ≡ f' t u a b) → (t u : ℕ) → t < 2 → u < 2
    → SameFirst first 2 (read_as 2 2 (lay_out_all 2 2 f) t u) (read_as 2 2 (lay_out_all 2 2 f') t u)
laid_same f f' h t u ht hu a b ha hb fa fb = read_back 2 2 f t u a b ht hu ha hb ∙ h t u a b fa fb ∙ sym (read_back 2 2 f' t u a b ht hu ha hb)

-- an entry of g0
started : (z y : Complex) (a b : ℕ) → a < 2 → b < 2 → g0_of 2 (start z y) a b ≡ entry i z y a b
unfolding g0_of
started z y zero zero ha hb = refl
started z y zero (suc zero) ha hb = refl
started z y zero (suc (suc b)) ha hb = absurd (omega arith)
started z y (suc zero) zero ha hb = refl
started z y (suc zero) (suc zero) ha hb = refl
started z y (suc zero) (suc (suc b)) ha hb = absurd (omega arith)
started z y (suc (suc a)) b ha hb = absurd (omega arith)

uncoupled : (z y : Complex) → Zeros z → Uncoupled first (run z y)
uncoupled z y h =
    record {
      free = laid_across (lower cone z y) (lower_across cone z y h);
      self_energy = laid_across (lower cone z y) (lower_across cone z y h);
      lesser_self_energy = laid_across (everywhere i z y) (λ t u. entry_across i z y h);
      start = λ a b ha hb apart. subst Zeros (sym (started z y a b ha hb)) (entry_across i z y h a b apart);
    }

same : (z y z' y' : Complex) → SameGiven first (run z y) (run z' y')
same z y z' y' =
    record {
      points = refl;
      orbitals = refl;
      times = λ k hk j hj. refl;
      free = laid_same (lower cone z y) (lower cone z' y') (λ t u a b fa fb. ap (λ (w : Complex). cond (ltb t u) czero w) (entry-same cone z y z' y' a b fa fb));
      self_energy = laid_same (lower cone z y) (lower cone z' y') (λ t u a b fa fb. ap (λ (w : Complex). cond (ltb t u) czero w) (entry-same cone z y z' y' a b fa fb));
      lesser_self_energy = laid_same (everywhere i z y) (everywhere i z' y') (λ t u a b fa fb. entry-same i z y z' y' a b fa fb);
      start = λ a b ha hb fa fb. started z y a b ha hb ∙ entry-same i z y z' y' a b fa fb ∙ sym (started z' y' a b ha hb);
    }

-- ---- the runs

abbrev two : Float
two = Ieee.of_bits binary64 0x4000_0000_0000_0000

abbrev minus : Complex
minus = let x = Ieee.of_bits binary64 0x8000_0000_0000_0000 in record { re = x; im = x }

abbrev one-dot : Run
one-dot = run czero cone

abbrev other-dot : Run
other-dot = run minus (real two)

-- 1 across
abbrev coupled : Run
coupled = run cone cone

passes : (verdict_of 0 2 one-dot ≡ pass) × (verdict_of 0 2 other-dot ≡ pass) × (verdict_of 0 2 coupled ≡ pass)
unfolding run_computation not_empty within_block
passes = (refl, refl, refl)

answered : (r : Run) → verdict_of 0 r.points r ≡ pass → is_accepted (transient_run r).answer ≡ true
unfolding transient_run worked solved is_accepted
answered r e = rw e

-- the theorem applies
pub same-dot : SameLeft first one-dot other-dot (transient_run one-dot) (transient_run other-dot)
unfolding Ieee.of_bits
same-dot =
    two_dots one-dot other-dot first
    (record {
      accepted = answered one-dot passes.0;
      accepted' = answered other-dot passes.1;
      uncoupled = uncoupled czero cone zero-zeros;
      uncoupled' = uncoupled minus (real two) (refl, refl);
      same = same czero cone minus (real two);
    })

-- G^<(1,1) of each: 3.8125i in both first groups, 3.8125 and 104 in the second
lesser-of-both : bits (drop 24 (lesser_made 0 2 one-dot)) ∷ bits (drop 24 (lesser_made 0 2 other-dot)) ∷ []
    ≡ (0 ∷ 0x400e_8000_0000_0000 ∷ 0 ∷ 0 ∷ 0 ∷ 0 ∷ 0x400e_8000_0000_0000 ∷ 0 ∷ []) ∷ (0 ∷ 0x400e_8000_0000_0000 ∷ 0 ∷ 0 ∷ 0 ∷ 0 ∷ 0x405a_0000_0000_0000 ∷ 0 ∷ []) ∷ []
unfolding run_computation
lesser-of-both = refl

-- ---- groups that couple

-- G^R(1,0) at (0,0) is 1.5 and 3
retarded_of-both : to_bits binary64 (get_or (retarded_made 0 2 one-dot) 16 nan) ∷ to_bits binary64 (get_or (retarded_made 0 2 coupled) 16 nan) ∷ [] ≡ 0x3ff8_0000_0000_0000 ∷ 0x4008_0000_0000_0000 ∷ []
unfolding run_computation
retarded_of-both = refl

left : (r : Run) → verdict_of 0 r.points r ≡ pass → (transient_run r).retarded ≡ retarded_made 0 r.points r
unfolding transient_run worked
left r v = left-made zeroed (verdict_of 0 r.points r) _ r.retarded v

-- both are accepted and agree in all that `SameGiven` asks
pub coupled_dots : (is_accepted (transient_run one-dot).answer ≡ true) × (is_accepted (transient_run coupled).answer ≡ true) × SameGiven first one-dot coupled
coupled_dots = (answered one-dot passes.0, answered coupled passes.2, same czero cone cone cone)

pub coupled_differ : SameLeft first one-dot coupled (transient_run one-dot) (transient_run coupled) → ⊥
coupled_differ h =
    let entries : of one-dot (transient_run one-dot).retarded 1 0 0 0 ≡ of coupled (transient_run coupled).retarded 1 0 0 0 = h.retarded 1 0 (omega arith) (omega arith) 0 0 (omega arith) (omega arith) refl refl in
    let made : of one-dot (retarded_made 0 2 one-dot) 1 0 0 0 ≡ of coupled (retarded_made 0 2 coupled) 1 0 0 0 = rw (left one-dot passes.0, left coupled passes.2) at entries in
    let numbers : to_bits binary64 (get_or (retarded_made 0 2 one-dot) 16 nan) ≡ to_bits binary64 (get_or (retarded_made 0 2 coupled) 16 nan) = ap (λ (z : Complex). to_bits binary64 z.re) made in
    let differ : ◌≡◌ {A = ℕ} 0x3ff8_0000_0000_0000 0x4008_0000_0000_0000 = sym (ap (λ (xs : List ℕ). get_or xs 0 0) retarded_of-both) ∙ numbers ∙ ap (λ (xs : List ℕ). get_or xs 1 0) retarded_of-both in
    omega arith
