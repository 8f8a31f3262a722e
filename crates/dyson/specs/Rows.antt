-- Row t of G from the rows before it, as they stand in a slice laid out for a capacity: where these are G's, so is row t. Assumes nothing.
use Rattle.std.specs.Prelude.{◌≡◌, ◌⊎◌, ◌&&◌, ◌||◌, ◌+◌, ◌-◌, ◌*◌, ◌≤◌, ◌<◌}
use Rattle.lists.specs.Prelude.{refl, sym, ap, ap₂, ◌∙◌, inl, inr, ⊎_elim, Bool, true, false, not, cond, and-true, List, ℕ, max, zero-mul, add-zero, zero-add, dec_lt, arith, ltb}
use Rattle.lists.specs.Prelude.{leb, eqb, length, Float, leb-true, ltb-true, ltb-false, lt-ltb, le-ltb, eq-eqb, put_mid}
use Rattle.lists.specs.Indexed.{all_below, all_in, join}
use Rattle.lists.specs.Agreement.{all_agree, join_agree, each_all, both}
use Rattle.lists.specs.Steps.{all_more, all-add}
use Rattle.refusal.specs.Search.{all-no}
use Rattle.complex.specs.declared.Complex.{Complex}
use Rattle.complex.specs.Arithmetic.{czero, cfinite}
use Rattle.complex.specs.Numbers.{pair}
use Rattle.block.specs.Block.{lay_out}
use Rattle.block.specs.Operations.{zeros}
use Rattle.block.specs.Agreement.{Agree}
use Rattle.two_time.specs.Layout.{TwoTime, read_as, length_of}
use Rattle.two_time.specs.New.{is_new, written, every_new, cleared_new}
use Rattle.two_time.specs.WeightedSum.{Terms, weighted_sum, finite_sum}
use Rattle.two_time.specs.Sums.{dyson_terms}
use Rattle.two_time.specs.OneTest.{one_test}
use Rattle.two_time.specs.Written.{laid_agree, put-blocks, new_is, old-is}
use Rattle.two_time.proofs.Written.{read-written}
use Rattle.groups.specs.Forward.{forward_sum, forward_entry, forward_block, forward_finite, row_at}
use Rattle.dyson.specs.Retarded.{onward_from, new_retarded, new_retarded_finite}
use Rattle.dyson.specs.Recursion.{same-terms, recursion, held-is, above}

-- what it says to be new
new_said : (old points t u : ℕ) → is_new old points t u ≡ true → (old ≤ max t u) × (max t u < points)
unfolding is_new
new_said old points t u e = let h = both (leb old (max t u)) (ltb (max t u) points) e in (leb-true _ _ h.0, ltb-true _ _ h.1)

-- what forward substitution is given, and what its slice held
pub record Substitution : Type 0 where
  pub capacity : ℕ
  pub orbitals : ℕ
  pub old : ℕ
  pub points : ℕ
  pub times : List Float
  pub free : List Float
  pub kernel : List Float
  pub held : List Float

module _ (f : Substitution) where
  abbrev capacity : ℕ
  capacity = f.capacity

  abbrev n : ℕ
  n = f.orbitals

  abbrev old : ℕ
  old = f.old

  abbrev points : ℕ
  points = f.points

  abbrev free : TwoTime
  free = read_as capacity n f.free

  abbrev kernel : TwoTime
  kernel = read_as capacity n f.kernel

  abbrev held : TwoTime
  held = read_as capacity n f.held

  abbrev pub retarded : TwoTime
  retarded = onward_from capacity n old points f.times f.free f.kernel f.held

  abbrev terms : ℕ → ℕ → Terms
  terms t u = dyson_terms f.times free kernel retarded t u

  -- G in the rows before t, +0 at the new places of the others
  abbrev rows : ℕ → TwoTime
  rows t i u a b = cond (ltb i t) (retarded i u a b) czero

  unfoldable pub rows_to : ℕ → List Float
  rows_to t = written capacity n old points (rows t) f.held

  -- all that is made for row t is finite; nothing is made for a row before `old`
  abbrev pub row_finite : ℕ → Bool
  row_finite t = all_below (t + 1) (λ u. all_in n n (finite_sum n (terms t u)))

  abbrev pub row_asked : ℕ → Bool
  row_asked t = ltb t old || row_finite t

  -- nothing is made above the diagonal
  none_above : (t u : ℕ) → t < u → all_in n n (finite_sum n (terms t u)) ≡ true
  none_above t u h = each_all n _ (λ a ha. each_all n _ (λ b hb. one_test n (terms t u) a b ∙ rw (eq-eqb (t - u) 0 (omega arith))))

  zero-above : (t u a b : ℕ) → t < u → retarded t u a b ≡ czero
  zero-above t u a b h = above n f.times free kernel old held t u a b h

  module _ (within : old ≤ points) (room : points ≤ capacity) where
    -- cleared: no row is made
    pub rows_none : cleared_new capacity n old points f.held ≡ rows_to old
    unfolding rows_to written
    rows_none = laid_agree capacity n _ _ (λ t u ht hu a b ha hb. by_flag t u a b (is_new old points t u) refl)
      where
        at_new : (t u a b : ℕ) → is_new old points t u ≡ true → zeros a b ≡ rows old t u a b
        at_new t u a b e =
            let said = new_said old points t u e in
            elim (dec_lt t old) [
              | yes l ↦ rw (lt-ltb t old l) (sym (zero-above t u a b (omega arith)))
              | no l ↦ rw (le-ltb t old (omega arith))
            ]

        by_flag : (t u a b : ℕ) (c : Bool) → is_new old points t u ≡ c → cond c (λ (a b : ℕ). zeros a b) (held t u) a b ≡ cond c (rows old t u) (held t u) a b
        by_flag t u a b true e = at_new t u a b e
        by_flag t u a b false e = refl

    -- a row that is made, or held, is read as G's
    pub rows-read : (t : ℕ) → t ≤ points → (s u c e : ℕ) → s < t → u ≤ s → c < n → e < n → read_as capacity n (rows_to t) s u c e ≡ retarded s u c e
    unfolding rows_to
    rows-read t ht s u c e hs hu hc he =
        read-written capacity n old points (rows t) f.held s u c e (omega arith) (omega arith) hc he
        ∙ elim (dec_lt s old) [
          | yes l ↦ rw (old-is old points s u l (omega arith)) (sym (held-is n f.times free kernel old held s u c e l hu))
          | no l ↦ rw (new_is old points s u (omega arith) (omega arith) (omega arith), lt-ltb s t hs)
        ]

    -- row t, of a slice whose rows before t are G's
    module _ (t : ℕ) (new : old ≤ t) (out : List Float) (read : (s u c e : ℕ) → s < t → u ≤ s → c < n → e < n → read_as capacity n out s u c e ≡ retarded s u c e) where
      module _ (u : ℕ) (hu : u < t + 1) (a b : ℕ) (ha : a < n) (hb : b < n) where
        sum_is : weighted_sum n (forward_sum capacity n f.times f.free f.kernel out t u) a b ≡ weighted_sum n (terms t u) a b
        sum_is = same-terms n f.times free kernel (read_as capacity n out) retarded t u (λ s lo hi c e hc he. read s u c e hi lo hc he) a b ha hb

        finite-is : finite_sum n (forward_sum capacity n f.times f.free f.kernel out t u) a b ≡ finite_sum n (terms t u) a b
        finite-is = one_test n (forward_sum capacity n f.times f.free f.kernel out t u) a b ∙ ap (λ (z : Complex). eqb (t - u) 0 || cfinite z) sum_is ∙ sym (one_test n (terms t u) a b)

        entry-is : forward_entry capacity n f.times f.free f.kernel out t u a b ≡ retarded t u a b
        unfolding forward_entry
        entry-is = rw (le-ltb t u (omega arith)) (sum_is ∙ sym (recursion n f.times free kernel old held t u new (omega arith) a b ha hb))

      pub row_finite-is : all_below (t + 1) (forward_finite capacity n f.times f.free f.kernel out t) ≡ row_finite t
      unfolding forward_finite
      row_finite-is = all_agree (t + 1) _ _ (λ u hu. all_agree n _ _ (λ a ha. all_agree n _ _ (λ b hb. finite-is u hu a b ha hb)))

      pub row_is : join (t + 1) (forward_block capacity n f.times f.free f.kernel out t) ≡ join (t + 1) (λ p. lay_out n n (retarded t (0 + p)))
      unfolding lay_out
      row_is = join_agree (t + 1) _ _ (λ u hu. join_agree n _ _ (λ a ha. join_agree n _ _ (λ b hb. ap pair (entry-is u hu a b ha hb ∙ ap (λ (k : ℕ). retarded t k a b) (sym (zero-add u))))))

    -- row t is written
    module _ (t : ℕ) (new : old ≤ t) (ht : t < points) where
      abbrev state : ℕ → TwoTime
      state k i u = cond (is_new old points i u) (rows k i u) (held i u)

      made : (u : ℕ) → 0 ≤ u → u < 0 + (t + 1) → Agree n (retarded t u) (state (t + 1) t u)
      made u lo hi a b ha hb = rw (new_is old points t u (omega arith) ht (omega arith), lt-ltb t (t + 1) (omega arith))

      others : (i u : ℕ) → i < capacity → u < capacity → ((i ≡ t) → (u < 0) ⊎ (0 + (t + 1) ≤ u)) → Agree n (state t i u) (state (t + 1) i u)
      others i u hi hu h a b ha hb = by_flag (is_new old points i u)
        where
          same : rows t i u a b ≡ rows (t + 1) i u a b
          same =
              elim (dec_lt i t) [
                | yes l ↦ rw (lt-ltb i t l, lt-ltb i (t + 1) (omega arith))
                | no l ↦ elim (dec_lt t i) [
                  | yes k ↦ rw (le-ltb i t (omega arith), le-ltb i (t + 1) (omega arith))
                  | no k ↦ (let e : i ≡ t = omega arith in rw (le-ltb i t (omega arith), lt-ltb i (t + 1) (omega arith)) (sym (zero-above i u a b (⊎_elim (λ g. absurd (omega arith)) (λ g. omega arith) (h e)))))
                ]
              ]

          by_flag : (c : Bool) → cond c (rows t i u) (held i u) a b ≡ cond c (rows (t + 1) i u) (held i u) a b
          by_flag true = same
          by_flag false = refl

      pub row_step : put_mid (row_at capacity n t) ((t + 1) * (2 * (n * n))) (rows_to t) (join (t + 1) (λ p. lay_out n n (retarded t (0 + p)))) ≡ rows_to (t + 1)
      unfolding rows_to written
      row_step =
          let w = 2 * (n * n) in
          let at : row_at capacity n t ≡ t * (capacity * w) + 0 * w = sym (ap (λ (k : ℕ). t * (capacity * w) + k) (zero-mul w) ∙ add-zero (t * (capacity * w))) in
          ap (λ (k : ℕ). put_mid k ((t + 1) * w) (rows_to t) (join (t + 1) (λ p. lay_out n n (retarded t (0 + p))))) at
          ∙ put-blocks capacity n retarded (state t) (state (t + 1)) t 0 (t + 1) (omega arith) (omega arith) made others

      -- one row more, of a slice that holds the rows before
      pub next_row : (out after : List Float) → all_below t row_asked ≡ true → out ≡ rows_to t → all_below (t + 1) (forward_finite capacity n f.times f.free f.kernel out t) ≡ true
          → after ≡ put_mid (row_at capacity n t) ((t + 1) * (2 * (n * n))) out (join (t + 1) (forward_block capacity n f.times f.free f.kernel out t))
          → (all_below (t + 1) row_asked ≡ true) × (after ≡ rows_to (t + 1))
      next_row out after passed is finite left =
          let read : (s u c e : ℕ) → s < t → u ≤ s → c < n → e < n → read_as capacity n out s u c e ≡ retarded s u c e =
          λ s u c e hs hu hc he. ap (λ (xs : List Float). read_as capacity n xs s u c e) is ∙ rows-read t (omega arith) s u c e hs hu hc he in (
            all_more t row_asked ∙ ap₂ ◌&&◌ passed (rw (le-ltb t old new) (sym (row_finite-is t new out read) ∙ finite)),
            left ∙ ap₂ (λ (xs ys : List Float). put_mid (row_at capacity n t) ((t + 1) * (2 * (n * n))) xs ys) is (row_is t new out read) ∙ row_step,
          )

    -- all rows
    pub rows_all : rows_to points ≡ new_retarded capacity n old points f.times f.free f.kernel f.held
    unfolding rows_to new_retarded written
    rows_all = laid_agree capacity n _ _ (λ t u ht hu a b ha hb. by_flag t u a b (is_new old points t u) refl)
      where
        by_flag : (t u a b : ℕ) (c : Bool) → is_new old points t u ≡ c → cond c (rows points t u) (held t u) a b ≡ cond c (retarded t u) (held t u) a b
        by_flag t u a b true e = let said = new_said old points t u e in rw (lt-ltb t points (omega arith))
        by_flag t u a b false e = refl

    -- the rows asked are the new places asked
    row_asked_lem : (t : ℕ) → t < points → all_below points (λ u. not (is_new old points t u) || all_in n n (finite_sum n (terms t u))) ≡ row_asked t
    row_asked_lem t ht =
        elim (dec_lt t old) [
          | yes l ↦ rw (lt-ltb t old l) (each_all points _ (λ u hu. early u l (is_new old points t u) refl))
          | no l ↦ rw (le-ltb t old (omega arith)) (later (omega arith))
        ]
      where
        early : (u : ℕ) → t < old → (c : Bool) → is_new old points t u ≡ c → not c || all_in n n (finite_sum n (terms t u)) ≡ true
        early u l true e = let said = new_said old points t u e in none_above t u (omega arith)
        early u l false e = refl

        later : old ≤ t → all_below points (λ u. not (is_new old points t u) || all_in n n (finite_sum n (terms t u))) ≡ row_finite t
        later l =
            let asked : ℕ → Bool = λ u. not (is_new old points t u) || all_in n n (finite_sum n (terms t u)) in
            let e : points ≡ t + 1 + (points - (t + 1)) = omega arith in
            ap (λ (k : ℕ). all_below k asked) e ∙ all-add (t + 1) (points - (t + 1)) asked
            ∙ ap₂ ◌&&◌
            (all_agree (t + 1) asked _ (λ u hu. rw (new_is old points t u (omega arith) ht (omega arith))))
            (each_all (points - (t + 1)) _ (λ p hp. rw (new_is old points t (t + 1 + p) (omega arith) ht (omega arith)) (none_above t (t + 1 + p) (omega arith))))
            ∙ and-true (row_finite t)

    pub asked-all : new_retarded_finite capacity n old points f.times f.free f.kernel f.held ≡ all_below points row_asked
    unfolding new_retarded_finite every_new
    asked-all = all_agree points _ _ (λ t ht. row_asked_lem t ht)

    -- a row before `old` asks nothing
    pub early-asked : all_below old row_asked ≡ true
    early-asked = each_all old row_asked (λ t ht. rw (lt-ltb t old ht))

    pub one_lost : (t : ℕ) → old ≤ t → t < points → row_finite t ≡ false → new_retarded_finite capacity n old points f.times f.free f.kernel f.held ≡ false
    one_lost t new ht h = asked-all ∙ all-no row_asked points t ht (rw (le-ltb t old new) h)
