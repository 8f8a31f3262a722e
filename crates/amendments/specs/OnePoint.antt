-- Document 02, L2: "Runs that had an answer keep it." Document 01 first formed the term also where an interval has one point. Each call that was
-- accepted then is accepted now and leaves the same bits; the transient run is in OnePointRun. Assumes nothing.
use Rattle.std.specs.Prelude.{◌≡◌, ◌&&◌, ◌∷◌, ◌++◌, ◌⊎◌, ◌+◌, ◌-◌, ◌<◌}
use Rattle.lists.specs.Prelude.{refl, sym, ap, ap₂, subst, ◌∙◌, Bool, true, List, [], inl, inr, ℕ, suc, dec_lt, arith, Float, le-leb}
use Rattle.lists.specs.Indexed.{all_below}
use Rattle.lists.specs.Agreement.{both, join_agree, each_all}
use Rattle.complex.specs.declared.Complex.{Complex}
use Rattle.complex.specs.Arithmetic.{plus_zero, czero, real, cadd, cmul, cfinite}
use Rattle.complex.specs.Numbers.{pair}
use Rattle.complex.specs.Zeros.{weightless}
use Rattle.refusal.specs.Verdict.{pass, ask, ◌then◌, afterwards}
use Rattle.refusal.specs.Checks.{finite_work}
use Rattle.refusal.specs.Agreement.{ask_pass, then-pass}
use Rattle.block.specs.Block.{Entries, lay_out}
use Rattle.block.specs.Operations.{product, scaled, adjoint}
use Rattle.grid.specs.Weights.{interval_weight}
use Rattle.two_time.specs.declared.sums.Sums.{Sums}
use Rattle.two_time.specs.declared.sums.Sums.TheVariants.{Full, Causal, LesserAdvanced, Lesser, AntiCausal}
use Rattle.two_time.specs.Layout.{TwoTime, read_as, lay_out_all, everywhere}
use Rattle.two_time.specs.WeightedSum.{Terms, product_at, partial_sum, weighted_sum, finite_sum}
use Rattle.two_time.specs.Sums.{interval_count, interval, terms_at, sums_of, sums_of_finite, sums_numbers, sums_finite}
use Rattle.two_time.specs.Calls.{input_checks}
use Rattle.two_time.specs.Intervals.{interval_count_lem}
use Rattle.two_time.specs.OneTest.{partial_none, partial_more}
use Rattle.two_time.specs.Finite.{everywhere-each}
use Rattle.convolution.specs.Calls.{convolved_by}
use Rattle.dyson.specs.Retarded.{retarded_numbers, retarded_finite}
use Rattle.dyson.specs.Calls.{Equation, equation_of, kernel_of, retarded_of, solved_finite, checks_before, dyson_verdict, dyson_with_tolerance}
use Rattle.langreth.specs.Calls.{Components, components_of, listed, correlation_finite, product_of, product_finite, product_verdict, langreth_product}

-- ---- the sums as document 01 first had them

-- how many terms the sum at (t, u) had
abbrev count_before : Sums → ℕ → ℕ → ℕ → ℕ
count_before Full points t u = points
count_before Causal points t u = suc t - u
count_before LesserAdvanced points t u = suc u - 0
count_before Lesser points t u = suc t - 0
count_before AntiCausal points t u = suc u - t

abbrev pub with_count : ℕ → Terms → Terms
with_count count x = record { start = x.start; weight = x.weight; left = x.left; right = x.right; from = x.from; count = count }

module _ (sums : Sums) (points n : ℕ) (times left right : List Float) where
  abbrev pub now : ℕ → ℕ → Terms
  now = terms_at sums points times (read_as points n left) (read_as points n right)

  abbrev pub before : ℕ → ℕ → Terms
  before t u = with_count (count_before sums points t u) (now t u)

  -- the sums at all places laid out, and whether every block made for them was finite
  abbrev pub numbers_before : List Float
  numbers_before = lay_out_all points n (λ t u. weighted_sum n (before t u))

  abbrev pub finite_before : Bool
  finite_before = everywhere points n (λ t u a b. finite_sum n (before t u) a b)

-- ---- one place

-- an interval has the terms that it had, or one point alone
interval-or_point : (start end : ℕ) → (interval_count start end ≡ suc end - start) ⊎ (start ≡ end)
interval-or_point start end =
    elim (dec_lt start end) [
      | yes l ↦ inl (omega (arith, interval_count_lem start end))
      | no l ↦ elim (dec_lt end start) [
        | yes k ↦ inl (omega (arith, interval_count_lem start end))
        | no k ↦ inr (omega arith)
      ]
    ]

-- a sum that begins at +0 and had one term, of weight +0, and has none now
record Point (x : Terms) (count : ℕ) : Type 0 where
  none : x.count ≡ 0
  one : count ≡ 1
  weight : x.weight (x.from + 0) ≡ plus_zero
  start : (a b : ℕ) → x.start a b ≡ czero

module _ (n : ℕ) (x : Terms) (a b : ℕ) where
  -- what was finite with that many terms is finite and the same now
  abbrev Kept : ℕ → Type 0
  Kept count = finite_sum n (with_count count x) a b ≡ true → (finite_sum n x a b ≡ true) × (weighted_sum n (with_count count x) a b ≡ weighted_sum n x a b)

  same_count : (count : ℕ) → x.count ≡ count → Kept count
  same_count count e = subst Kept e (λ h. (h, refl))

  -- the one term was a finite number times +0
  one_point : (count : ℕ) → Point x count → Kept count
  unfolding finite_sum all_below weighted_sum product_at scaled
  one_point count p = subst Kept (sym p.one) (λ h.
      let formed = product n (x.left (x.from + 0)) (x.right (x.from + 0)) a b in
      let made : cfinite formed ≡ true = (both (cfinite (product_at n x (x.from + 0) a b)) _ h).0 in
      let nothing : weighted_sum n x a b ≡ czero = ap (λ (k : ℕ). partial_sum n x k a b) p.none ∙ partial_none n x a b ∙ p.start a b in (
        ap (λ (k : ℕ). finite_sum n (with_count k x) a b) p.none,
        partial_more n (with_count 1 x) a b 0
            ∙ ap₂ (λ (z : Complex) (w : Float). cadd z (cmul formed (real w))) (partial_none n (with_count 1 x) a b ∙ p.start a b) p.weight
            ∙ weightless formed made ∙ sym nothing,
      ))

module _ (points n : ℕ) (times : List Float) (x y : TwoTime) (t u a b : ℕ) where
  -- the weight of an interval's only point
  point_weight : (s : ℕ) → interval_weight times (s + 0) s s ≡ plus_zero
  unfolding interval_weight
  point_weight s = rw (le-leb s s (omega arith))

  by-interval : (start end : ℕ) (left right : ℕ → Entries) → Kept n (interval times start end left right) a b (suc end - start)
  by-interval start end left right =
      elim (interval-or_point start end) [
        | inl e ↦ same_count n (interval times start end left right) a b (suc end - start) e
        | inr e ↦ one_point n (interval times start end left right) a b (suc end - start)
            (record { none = omega (arith, interval_count_lem start end); one = omega arith; weight = ap (λ (k : ℕ). interval_weight times (start + 0) start k) (sym e) ∙ point_weight start; start = λ c d. refl })
      ]

  pub kept : (sums : Sums) → Kept n (terms_at sums points times x y t u) a b (count_before sums points t u)
  unfolding terms_at
  kept Full = λ h. (h, refl)
  kept Causal = by-interval u t (λ s. x t s) (λ s. y s u)
  kept LesserAdvanced = by-interval 0 u (λ s. x t s) (λ s. adjoint (y u s))
  kept Lesser = by-interval 0 t (λ s. x t s) (λ s. y s u)
  kept AntiCausal = by-interval t u (λ s. x t s) (λ s. y s u)

-- ---- all places

module _ (sums : Sums) (points n : ℕ) (times left right : List Float) (h : finite_before sums points n times left right ≡ true) where
  at : (t u a b : ℕ) → t < points → u < points → a < n → b < n
      → (finite_sum n (now sums points n times left right t u) a b ≡ true)
      × (weighted_sum n (before sums points n times left right t u) a b ≡ weighted_sum n (now sums points n times left right t u) a b)
  at t u a b ht hu ha hb =
      kept points n times (read_as points n left) (read_as points n right) t u a b sums
      (everywhere-each points n (λ v w c d. finite_sum n (before sums points n times left right v w) c d) h t u a b ht hu ha hb)

  pub finite-kept : sums_finite sums points n times left right ≡ true
  unfolding sums_finite sums_of_finite everywhere
  finite-kept = each_all points _ (λ t ht. each_all points _ (λ u hu. each_all n _ (λ a ha. each_all n _ (λ b hb. (at t u a b ht hu ha hb).0))))

  pub numbers-kept : numbers_before sums points n times left right ≡ sums_numbers sums points n times left right
  unfolding sums_numbers sums_of lay_out_all lay_out
  numbers-kept = join_agree points _ _ (λ t ht. join_agree points _ _ (λ u hu. join_agree n _ _ (λ a ha. join_agree n _ _ (λ b hb. ap pair (at t u a b ht hu ha hb).1))))

-- ---- each call

-- `causal_volterra_convolution`, and the full convolution, whose sums are as they were
module _ (sums : Sums) (points n : ℕ) (times left right out : List Float) where
  pub convolution_kept : (input_checks points n times (left ∷ right ∷ []) (out ∷ []) then finite_work (finite_before sums points n times left right)) ≡ pass
      → convolved_by sums points n times left right out ≡ record { answer = pass; out = numbers_before sums points n times left right }
  unfolding convolved_by finite_work ask afterwards
  convolution_kept h =
      let p = then-pass (input_checks points n times (left ∷ right ∷ []) (out ∷ [])) _ h in
      let e = ask_pass _ _ p.1 in
      rw (p.0, finite-kept sums points n times left right e, numbers-kept sums points n times left right e)

-- K and G
module _ (q : Equation) where
  abbrev pub kernel_before : List Float
  kernel_before = numbers_before Causal q.points q.orbitals q.times q.free q.self_energy

  abbrev pub retarded_before : List Float
  retarded_before = retarded_numbers q.points q.orbitals q.times q.free kernel_before

  abbrev pub solved_before : Bool
  solved_before = finite_before Causal q.points q.orbitals q.times q.free q.self_energy && retarded_finite q.points q.orbitals q.times q.free kernel_before

  kernel-kept : solved_before ≡ true → (solved_finite q ≡ true) × (kernel_before ≡ kernel_of q)
  unfolding solved_finite
  kernel-kept h =
      let p = both (finite_before Causal q.points q.orbitals q.times q.free q.self_energy) _ h in
      let k = numbers-kept Causal q.points q.orbitals q.times q.free q.self_energy p.0 in
      (rw (finite-kept Causal q.points q.orbitals q.times q.free q.self_energy p.0) (ap (retarded_finite q.points q.orbitals q.times q.free) (sym k) ∙ p.1), k)

  retarded-kept : solved_before ≡ true → retarded_before ≡ retarded_of q
  retarded-kept h = ap (retarded_numbers q.points q.orbitals q.times q.free) (kernel-kept h).1

-- `retarded_dyson_with_tolerance`; `retarded_dyson` is it at one tolerance
module _ (points n : ℕ) (tolerance : Float) (times free self_energy retarded kernel : List Float) where
  abbrev equation : Equation
  equation = equation_of points n times free self_energy

  pub dyson-kept : (checks_before equation tolerance [] (retarded ∷ kernel ∷ []) then finite_work (solved_before equation)) ≡ pass
      → dyson_with_tolerance points n tolerance times free self_energy retarded kernel
      ≡ record { answer = pass; retarded = retarded_before equation; kernel = kernel_before equation }
  unfolding dyson_with_tolerance dyson_verdict finite_work ask afterwards
  dyson-kept h =
      let p = then-pass (checks_before equation tolerance [] (retarded ∷ kernel ∷ [])) _ h in
      let e = ask_pass (solved_before equation) _ p.1 in
      rw (p.0, (kernel-kept equation e).0, retarded-kept equation e, (kernel-kept equation e).1)

-- `langreth_product`; lesser and greater are full convolutions, as they were
module _ (points n : ℕ) (times : List Float) (left right out : Components) where
  abbrev made : Components
  made = product_of points n times left right

  abbrev pub product_before : Components
  product_before =
      components_of (numbers_before Causal points n times left.retarded right.retarded) (numbers_before AntiCausal points n times left.advanced right.advanced) made.lesser made.greater

  abbrev pub product_finite_before : Bool
  product_finite_before =
      let finite : List Float → List Float → Bool = λ x y. correlation_finite points n times left.retarded y x right.advanced in
      finite_before Causal points n times left.retarded right.retarded
      && (finite_before AntiCausal points n times left.advanced right.advanced && (finite left.lesser right.lesser && finite left.greater right.greater))

  pub product-kept : (input_checks points n times (listed left ++ listed right) (listed out) then finite_work product_finite_before) ≡ pass
      → langreth_product points n times left right out ≡ record { answer = pass; out = product_before }
  unfolding langreth_product product_verdict product_finite finite_work ask afterwards
  product-kept h =
      let p = then-pass (input_checks points n times (listed left ++ listed right) (listed out)) _ h in
      let f = both (finite_before Causal points n times left.retarded right.retarded) _ (ask_pass product_finite_before _ p.1) in
      let g = both (finite_before AntiCausal points n times left.advanced right.advanced) _ f.1 in
      rw (
        p.0,
        finite-kept Causal points n times left.retarded right.retarded f.0,
        finite-kept AntiCausal points n times left.advanced right.advanced g.0,
        g.1,
        numbers-kept Causal points n times left.retarded right.retarded f.0,
        numbers-kept AntiCausal points n times left.advanced right.advanced g.0,
      )
