-- Observables asked of the lesser functions that two runs left: where the functions agree at the index, the answers are the same.
-- Assumes nothing.
use Rattle.std.specs.Prelude.{Ok, Err, ◌≡◌, ◌&&◌, ◌∷◌, ◌+◌, ◌*◌, ◌/◌, ◌%◌, ◌≤◌, ◌<◌}
use Rattle.lists.specs.Prelude.{refl, sym, ap, ap₂, ◌∙◌, true, List, [], ℕ, zero, suc, div-add-mod', mod-lt, div-lt_iff_lt-mul, mul-zero}
use Rattle.lists.specs.Prelude.{dec_lt, arith, ltb, eqb, length, get_or, Float, nan, binary64, of_bits, lt-ltb, ltb-true, eq-eqb, eqb-true, le-leb}
use Rattle.lists.specs.Agreement.{both, all_agree}
use Rattle.complex.specs.declared.Complex.{Complex}
use Rattle.complex.specs.Arithmetic.{plus_zero, mul, finite, cfinite, cmul, minus_i}
use Rattle.refusal.specs.declared.Refusal.{Refusal}
use Rattle.refusal.specs.Verdict.{pass, Verdict, by, ask, ◌then◌, ask_all}
use Rattle.refusal.specs.Agreement.{ask_pass, ask_yes, then-pass, then-agree, asked_agree}
use Rattle.refusal.specs.Checks.{large_enough, within_limits, fitting, finite_entries, time_below, orbital_below, finite_factors, within_capacity}
use Rattle.matrix.specs.declared.DenseMatrix.{DenseMatrix}
use Rattle.block.specs.Block.{Entries}
use Rattle.matrix.specs.Dense.{entries_of, count_of}
use Rattle.block.specs.Operations.{product, trace, all_finite}
use Rattle.block.specs.Agreement.{Agree, product_agree, trace_agree}
use Rattle.two_time.specs.Layout.{read_as, length_of}
use Rattle.two_time.specs.Calls.{point_entries, point_checks}
use Rattle.two_time.specs.SizeChecks.{SizesPassed}
use Rattle.two_time.specs.Lengths.{lengths}
use Rattle.two_time.specs.CapacityChecks.{capacity_pass}
use Rattle.two_time.proofs.PointsFinite.{points-finite}
use Rattle.observables.specs.Density.{density}
use Rattle.observables.specs.Calls.{observed, lesser_checks, lesser_block_checks, particle_number, one_body_expectation, bond_flow_into}
use Rattle.causality.specs.Statement.{SameBlock}

-- a lesser function that an accepted run left: its sizes passed checks 1, 2, 3 and 16, and its entries at the points are finite
pub record Left (capacity points n : ℕ) (xs : List Float) : Type 0 where
  pub least : 2 ≤ points
  pub within : points ≤ capacity
  pub sizes : SizesPassed capacity n true (xs ∷ [])
  pub numbers : (t u a b : ℕ) → t < points → u < points → a < n → b < n → cfinite (read_as capacity n xs t u a b) ≡ true

module _ (capacity points n : ℕ) (xs : List Float) (left : Left capacity points n xs) where
  entries_pass : point_entries capacity points n 0 xs ≡ pass
  entries_pass = points-finite capacity points n xs left.sizes.orbitals-least left.numbers 0

  checks_pass : lesser_checks capacity points n xs ≡ pass
  unfolding lesser_checks point_checks
  checks_pass = rw (capacity_pass left.least left.within left.sizes, entries_pass)

  -- checks 1, 2, 3 and 16, each by itself
  large : large_enough points n ≡ pass
  unfolding large_enough
  large = ask_yes _ _ (rw (le-leb 2 points left.least, le-leb 1 n left.sizes.orbitals-least))

  small : within_limits capacity n ≡ pass
  unfolding within_limits
  small = ask_yes _ _ (rw (le-leb capacity 256 left.sizes.points-most, le-leb n 16 left.sizes.orbitals-most))

  long : eqb (length xs) (length_of capacity n) ≡ true
  long = eq-eqb (length xs) (length_of capacity n) (lengths left.sizes).0

  room : within_capacity points capacity ≡ pass
  unfolding within_capacity
  room = ask_yes _ _ (le-leb points capacity left.within)

below_pass : (t points : ℕ) → t < points → time_below t points ≡ pass
unfolding time_below
below_pass t points h = ask_yes (ltb t points) (by 11) (lt-ltb t points h)

orbital_below_lem : (a n : ℕ) → orbital_below a n ≡ pass → a < n
unfolding orbital_below
orbital_below_lem a n h = ltb-true a n (ask_pass (ltb a n) (by 12) h)

pub observed_agree : (v v' : Verdict) (x x' : Float) → v ≡ v' → (v ≡ pass → x ≡ x') → observed v x ≡ observed v' x'
unfolding observed
observed_agree v v' x x' e h = ap (λ (w : Verdict). observed w x) e ∙ by_case v' (λ p. h (e ∙ p))
  where
    by_case : (w : Verdict) → (w ≡ pass → x ≡ x') → observed w x ≡ observed w x'
    by_case (Ok tt) k = rw (k refl)
    by_case (Err r) k = refl

-- a bond flow reads one entry, and asks of the time only whether it is one of the points
module _ (n capacity capacity' points points' : ℕ) (xs xs' : List Float) (left : Left capacity points n xs) (left' : Left capacity' points' n xs') (t : ℕ)
    (inside : ltb t points ≡ ltb t points') (a b : ℕ) (same : t < points → a < n → b < n → read_as capacity n xs t t b a ≡ read_as capacity' n xs' t t b a) where
  pub flow_agree : (hopping : Complex) (charge : Float) → bond_flow_into capacity points n xs t a b hopping charge ≡ bond_flow_into capacity' points' n xs' t a b hopping charge
  unfolding bond_flow_into time_below density
  flow_agree hopping charge =
      observed_agree _ _ _ _
      (rw (checks_pass capacity points n xs left, checks_pass capacity' points' n xs' left', inside))
      (λ passed.
      let factors = (then-pass (lesser_checks capacity points n xs) _ passed).1 in
      let asked = then-pass _ _ (then-pass (finite_factors hopping charge) _ factors).1 in
      let orbitals = then-pass (orbital_below a n) (orbital_below b n) asked.0 in
      let below : t < points = ltb-true t points (ask_pass (ltb t points) (by 11) asked.1) in
      ap (λ (z : Complex). mul (mul (of_bits binary64 0x4000_0000_0000_0000) charge) (cmul hopping (cmul minus_i z)).im)
      (same below (orbital_below_lem a n orbitals.0) (orbital_below_lem b n orbitals.1)))

-- ---- blocks with the same shape and entries have the same numbers

columns_pos : (m c q : ℕ) → q < m * c → 0 < c
columns_pos m zero q h = absurd (omega (arith, mul-zero m))
columns_pos m (suc c) q h = omega arith

numbers-same : (x x' : DenseMatrix) → SameBlock x x' → (i : ℕ) → i < count_of x → get_or x.values i nan ≡ get_or x'.values i nan
numbers-same x x' s i h =
    let c : ℕ = x.columns in
    let q : ℕ = i / 2 in
    let inside : q < x.rows * c = omega arith in
    let some : 0 < c = columns_pos x.rows c q inside in
    let a : ℕ = q / c in
    let b : ℕ = q % c in
    let e : entries_of x a b ≡ entries_of x' a b = s.entries a b ((div-lt_iff_lt-mul some).1 inside) (mod-lt q some) in
    let whole : a * c + b ≡ q = div-add-mod' q c in
    let whole' : a * x'.columns + b ≡ q = ap (λ (m : ℕ). a * m + b) (sym s.columns) ∙ whole in
    elim (dec_lt (i % 2) 1) [
      | yes even ↦ at x (omega arith) ∙ ap (λ (z : Complex). z.re) e ∙ sym (at x' (omega arith))
      | no odd ↦ at x (omega arith) ∙ ap (λ (z : Complex). z.im) e ∙ sym (at x' (omega arith))
    ]
  where
    at : (y : DenseMatrix) {j : ℕ} → i ≡ j → get_or y.values i nan ≡ get_or y.values j nan
    at y h = ap (λ (j : ℕ). get_or y.values j nan) h

block-asked : (x x' : DenseMatrix) → SameBlock x x' → finite_entries 1 x.values (count_of x) ≡ finite_entries 1 x'.values (count_of x')
unfolding finite_entries
block-asked x x' s =
    asked_agree (count_of x) _ _ (λ i h. ap (λ (v : Float). ask (finite v) (place i)) (numbers-same x x' s i h))
    ∙ ap₂ (λ (rows columns : ℕ). ask_all (2 * (rows * columns)) (λ i. ask (finite (get_or x'.values i nan)) (place i))) s.rows s.columns
  where
    place : ℕ → Refusal
    place i = record { number = 7; operand = 1; first = i; second = 0; part = plus_zero }

-- ---- two functions that two runs left, which agree at (t,t)

module _ (n capacity capacity' points points' : ℕ) (xs xs' : List Float) (left : Left capacity points n xs) (left' : Left capacity' points' n xs') (t : ℕ) (ht : t < points) (ht' : t < points')
    (same : Agree n (read_as capacity n xs t t) (read_as capacity' n xs' t t)) where
  abbrev rho : Entries
  rho = density (read_as capacity n xs) t

  abbrev rho' : Entries
  rho' = density (read_as capacity' n xs') t

  density_agree : Agree n rho rho'
  unfolding density
  density_agree a b ha hb = ap (λ (z : Complex). cmul minus_i z) (same a b ha hb)

  pub particles_agree : (tolerance : Float) → particle_number capacity points n xs t tolerance ≡ particle_number capacity' points' n xs' t tolerance
  unfolding particle_number
  particles_agree tolerance =
      rw (checks_pass capacity points n xs left, checks_pass capacity' points' n xs' left', below_pass t points ht, below_pass t points' ht', trace_agree n rho rho' density_agree)

  pub flows_agree : (a b : ℕ) (hopping : Complex) (charge : Float) → bond_flow_into capacity points n xs t a b hopping charge ≡ bond_flow_into capacity' points' n xs' t a b hopping charge
  flows_agree a b hopping charge =
      flow_agree n capacity capacity' points points' xs xs' left left' t (lt-ltb t points ht ∙ sym (lt-ltb t points' ht')) a b (λ l ha hb. same b a hb ha) hopping charge

  -- the block's checks: all but the block's own shape and numbers pass
  block_checks_agree : (x x' : DenseMatrix) → SameBlock x x' → lesser_block_checks capacity points n xs x ≡ lesser_block_checks capacity' points' n xs' x'
  unfolding lesser_block_checks
  block_checks_agree x x' s =
      rw (
        large capacity points n xs left,
        large capacity' points' n xs' left',
        small capacity points n xs left,
        small capacity' points' n xs' left',
        long capacity points n xs left,
        long capacity' points' n xs' left',
        room capacity points n xs left,
        room capacity' points' n xs' left',
        entries_pass capacity points n xs left,
        entries_pass capacity' points' n xs' left',
        block-asked x x' s,
        s.rows,
        s.columns,
      )

  module _ (x x' : DenseMatrix) (s : SameBlock x x') (passed : lesser_block_checks capacity points n xs x ≡ pass) where
    -- past check 3 the block is n by n
    shape : (x.rows ≡ n) × (x.columns ≡ n)
    unfolding lesser_block_checks fitting
    shape =
        let fits = ask_pass _ (by 3) (then-pass _ _ (then-pass _ _ (then-pass _ _ passed).1).1).0 in
        let square = both (eqb x.rows n) (eqb x.columns n) (both (eqb (length xs) (length_of capacity n)) (eqb x.rows n && eqb x.columns n) fits).1 in
        (eqb-true x.rows n square.0, eqb-true x.columns n square.1)

    made_agree : Agree n (product n (entries_of x) rho) (product n (entries_of x') rho')
    made_agree = product_agree n (entries_of x) (entries_of x') (λ a b ha hb. s.entries a b (omega (arith, shape.0)) (omega (arith, shape.1))) rho rho' density_agree

    finite_agree : all_finite n n (product n (entries_of x) rho) ≡ all_finite n n (product n (entries_of x') rho')
    unfolding all_finite
    finite_agree = all_agree n _ _ (λ a ha. all_agree n _ _ (λ b hb. ap cfinite (made_agree a b ha hb)))

    traced : trace n (product n (entries_of x) rho) ≡ trace n (product n (entries_of x') rho')
    traced = trace_agree n (product n (entries_of x) rho) (product n (entries_of x') rho') made_agree

  pub expectations_agree : (x x' : DenseMatrix) (tolerance : Float) → SameBlock x x' → one_body_expectation capacity points n xs t x tolerance ≡ one_body_expectation capacity' points' n xs' t x' tolerance
  unfolding one_body_expectation
  expectations_agree x x' tolerance s =
      observed_agree _ _ _ _
      (then-agree _ _ _ _ (block_checks_agree x x' s)
      (λ passed. rw (below_pass t points ht, below_pass t points' ht', finite_agree x x' s passed, traced x x' s passed)))
      (λ passed. ap (λ (z : Complex). z.re) (traced x x' s (then-pass (lesser_block_checks capacity points n xs x) _ passed).0))
