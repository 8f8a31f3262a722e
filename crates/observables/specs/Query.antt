-- What a query of a bond flow is answered once the checks of the lesser function are passed: there it is the single call's answer. Assumes nothing.
use Rattle.std.specs.Prelude.{Option, Ok, Err, ◌≡◌}
use Rattle.std.specs.Option.{unwrap_or}
use Rattle.lists.specs.Prelude.{refl, sym, ap, ◌∙◌, List, ℕ, Float, binary64, of_bits}
use Rattle.complex.specs.declared.Complex.{Complex}
use Rattle.complex.specs.Arithmetic.{mul, cmul, czero, minus_i}
use Rattle.refusal.specs.declared.Refusal.{Refusal}
use Rattle.refusal.specs.Verdict.{pass, Verdict, ◌then◌}
use Rattle.refusal.specs.Agreement.{then-after, then-refused}
use Rattle.refusal.specs.Checks.{finite_factors, orbital_below, time_below}
use Rattle.two_time.specs.Layout.{read_as, stored_at}
use Rattle.two_time.specs.Places.{read-placed}
use Rattle.observables.specs.declared.Observed.{Observed}
use Rattle.observables.specs.Density.{density}
use Rattle.observables.specs.Calls.{observed, lesser_checks, bond_flow_into}
use Rattle.observables.specs.Passed.{bond_passed, passed-placed}
use Rattle.observables.specs.Answers.{observed-no}

-- an entry that a slice has, and zero where it has none
abbrev pub found : Option Complex → Complex
found s = unwrap_or s czero

-- the flow of an entry of the lesser function
abbrev pub flow : Complex → Float → Complex → Float
flow hopping charge z = mul (mul (of_bits binary64 0x4000_0000_0000_0000) charge) (cmul hopping (cmul minus_i z)).im

-- what is observed counts only where the questions pass
pub observed_agree : (v : Verdict) (x y : Float) → (v ≡ pass → x ≡ y) → observed v x ≡ observed v y
unfolding observed
observed_agree (Ok tt) x y h = ap (observed pass) (h refl)
observed_agree (Err r) x y h = refl

module _ (capacity points orbitals : ℕ) (lesser : List Float) (time a b : ℕ) (hopping : Complex) (charge : Float) where
  abbrev pub asks : Verdict
  asks = finite_factors hopping charge then (orbital_below a orbitals then orbital_below b orbitals) then time_below time points

  unfoldable pub queried : Observed
  queried = observed asks (flow hopping charge (found (stored_at capacity orbitals lesser time time b a)))

  single : observed (lesser_checks capacity points orbitals lesser then asks) (flow hopping charge (read_as capacity orbitals lesser time time b a))
      ≡ bond_flow_into capacity points orbitals lesser time a b hopping charge
  unfolding bond_flow_into density
  single = refl

  -- the entry is there
  there : (lesser_checks capacity points orbitals lesser then asks) ≡ pass → found (stored_at capacity orbitals lesser time time b a) ≡ read_as capacity orbitals lesser time time b a
  there p =
      let l = bond_passed capacity points orbitals lesser time a b (finite_factors hopping charge) p in
      rw (read-placed lesser (passed-placed l.0 l.1.0 l.1.1) l.0.room)

  pub query_passed : lesser_checks capacity points orbitals lesser ≡ pass → queried ≡ bond_flow_into capacity points orbitals lesser time a b hopping charge
  unfolding queried
  query_passed l =
      let after = then-after _ asks l in
      observed_agree asks _ _ (λ p. ap (flow hopping charge) (there (after ∙ p)))
      ∙ ap (λ (v : Verdict). observed v (flow hopping charge (read_as capacity orbitals lesser time time b a))) (sym after)
      ∙ single

  pub query_refused : {r : Refusal} (x : Float) → lesser_checks capacity points orbitals lesser ≡ Err r → observed (Err r) x ≡ bond_flow_into capacity points orbitals lesser time a b hopping charge
  query_refused x l = observed-no x _ (then-refused _ asks _ l) ∙ single
