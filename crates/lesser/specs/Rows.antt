-- G^< from an occupied start at one place, and what the first product of its row says of it. Assumes nothing.
use Rattle.refusal.specs.Verdict.{pass}
use Rattle.std.specs.Prelude.{is_ok, ◌≡◌, ◌&&◌, ◌∷◌, ◌++◌, ◌+◌, ◌*◌, ◌≤◌, ◌<◌}
use Rattle.lists.specs.Prelude.{refl, sym, subst, ap, ap₂, ◌∙◌, Bool, true, false, List, [], ℕ, arith, digits_lt, get_or, length, length-take, length-drop, ltb, take, drop, get_or-append, Float, nan, mid_of, post_of, put_mid}
use Rattle.lists.specs.Indexed.{join, all_in}
use Rattle.lists.specs.Agreement.{both, never, all_agree, join_agree, all-each, each_all}
use Rattle.complex.specs.Arithmetic.{cfinite}
use Rattle.complex.specs.Numbers.{pair, entry_at}
use Rattle.block.specs.Block.{Entries, entries_in, lay_out}
use Rattle.block.specs.Operations.{product, adjoint, all_finite}
use Rattle.block.specs.Length.{length-block}
use Rattle.block.specs.Agreement.{Agree, product_agree}
use Rattle.two_time.specs.declared.sums.Sums.TheVariants.{Lesser}
use Rattle.two_time.specs.Summed.{Summed}
use Rattle.two_time.specs.Calls.{size_checks}
use Rattle.two_time.specs.Layout.{place, read_as, lay_out_all}
use Rattle.two_time.proofs.ReadBack.{read_back}
use Rattle.two_time.specs.WeightedSum.{weighted_sum, finite_sum}
use Rattle.two_time.specs.Sums.{terms_at}
use Rattle.two_time.specs.Start.{occupied_first, occupied_block, lesser_at, occupied_by, holds_block}
use Rattle.two_time.specs.Agreement.{AgreeTerms, weighted_agree}
use Rattle.two_time.specs.FiniteAgreement.{finite_agree}
use Rattle.two_time.specs.Started.{started_agree, same-terms}
use Rattle.groups.specs.Onto.{group_made, group_failed}
use Rattle.starts.specs.Calls.{first_of, first_factor, start_of, from_at, from_finite, from_block}

-- all that is made for the block at (t,u), and the block
module _ (capacity n : ℕ) (times retarded lesser_advanced g0 : List Float) (t u : ℕ) where
  unfoldable pub lesser_finite : Bool
  lesser_finite =
      let start = occupied_by capacity n g0 retarded in
      all_in n n (λ a b. start.finite t u a b && finite_sum n (lesser_at start capacity n times retarded lesser_advanced t u) a b)

  abbrev pub lesser_block : Entries
  lesser_block = weighted_sum n (lesser_at (occupied_by capacity n g0 retarded) capacity n times retarded lesser_advanced t u)

-- a list that begins with a block's numbers holds the block
module _ (n : ℕ) (f : Entries) (xs : List Float) where
  abbrev begun : List Float
  begun = put_mid 0 (2 * (n * n)) xs (lay_out n n f)

  number : (i : ℕ) → i < 2 * (n * n) → get_or begun i nan ≡ get_or (lay_out n n f) i nan
  number i h = get_or-append (lay_out n n f) (post_of 0 (2 * (n * n)) xs) nan i (omega (arith, length-block n f))

  itself : lay_out_all 1 n (λ t u. f) ≡ lay_out n n f
  unfolding lay_out_all join
  itself = refl

  pub block_read : Agree n (entries_in n begun) f
  block_read a b ha hb =
      let at = 2 * (a * n + b) in
      let inside : at + 1 < 2 * (n * n) = omega (arith, digits_lt ha hb) in
      (λ i. record { re = number at (omega arith) i; im = number (at + 1) inside i })
      ∙ ap (λ (ys : List Float). entry_at ys at) (sym itself)
      ∙ ap (entry_at (lay_out_all 1 n (λ t u. f))) (let same : at ≡ place 1 n 0 0 a b = omega arith in same)
      ∙ read_back n 1 (λ t u. f) 0 0 a b (omega arith) (omega arith) ha hb

-- what `first_factor` says of the front of a slice that it is lent
module _ (capacity n : ℕ) (retarded g0 : List Float) (t : ℕ) (xs : List Float)
    (passed : size_checks capacity n (ltb t capacity && holds_block n g0) (retarded ∷ []) ≡ pass) (room : 2 * (n * n) ≤ length xs) where
  abbrev part : List Float
  part = mid_of 0 (2 * (n * n)) xs

  part-long : length part ≡ 1 * (2 * (n * n))
  part-long = simp (length-take, length-drop) (omega (arith, room))

  first_said : {answer : Summed} {out : List Float} → answer ≡ (first_factor capacity n retarded g0 t part).answer → out ≡ (first_factor capacity n retarded g0 t part).out
      → (ok : Bool) → ok ≡ is_ok answer
      → (ok ≡ all_finite n n (first_of capacity n retarded g0 t)) × (ok ≡ true → Agree n (entries_in n (put_mid 0 (2 * (n * n)) xs out)) (first_of capacity n retarded g0 t))
  unfolding first_factor
  first_said {answer} {out} a o true e =
      let m = group_made n 1 _ _ _ part passed part-long answer out a o (sym e) in
      (sym m.0, λ h. rw m.1 (block_read n (first_of capacity n retarded g0 t) xs))
  first_said {answer} {out} a o false e = (sym (group_failed n 1 _ _ _ part passed part-long answer out a o (sym e)), λ h. never h)

  -- where the part's length is written otherwise
  pub first_part : (v : ℕ) → 2 * (n * n) ≡ v → {answer : Summed} {out : List Float} → answer ≡ (first_factor capacity n retarded g0 t (mid_of 0 v xs)).answer → out ≡ (first_factor capacity n retarded g0 t (mid_of 0 v xs)).out
      → (ok : Bool) → ok ≡ is_ok answer
      → (ok ≡ all_finite n n (first_of capacity n retarded g0 t)) × (ok ≡ true → Agree n (entries_in n (put_mid 0 v xs out)) (first_of capacity n retarded g0 t))
  first_part v is {answer} {out} =
      subst (λ (k : ℕ). answer ≡ (first_factor capacity n retarded g0 t (mid_of 0 k xs)).answer → out ≡ (first_factor capacity n retarded g0 t (mid_of 0 k xs)).out → (ok : Bool) → ok ≡ is_ok answer
      → (ok ≡ all_finite n n (first_of capacity n retarded g0 t)) × (ok ≡ true → Agree n (entries_in n (put_mid 0 k xs out)) (first_of capacity n retarded g0 t))) is first_said

module _ (capacity n : ℕ) (times retarded lesser_advanced g0 : List Float) (t : ℕ) where
  abbrev first : Entries
  first = first_of capacity n retarded g0 t

  -- where the row's first product is finite and held by a list, G^< is the one from that list
  module _ (filled : List Float) (held : Agree n (entries_in n filled) first) (finite : all_finite n n first ≡ true) (u : ℕ) where
    start_agree : Agree n (start_of capacity n retarded filled u) (occupied_block n (entries_in n g0) (read_as capacity n retarded) t u)
    unfolding occupied_block
    start_agree = product_agree n (entries_in n filled) first held (adjoint (read_as capacity n retarded u 0)) (adjoint (read_as capacity n retarded u 0)) (λ a b ha hb. refl)

    terms : AgreeTerms n (from_at capacity n times retarded lesser_advanced filled t u) (lesser_at (occupied_by capacity n g0 retarded) capacity n times retarded lesser_advanced t u)
    terms =
        let x = terms_at Lesser capacity times (read_as capacity n retarded) (read_as capacity n lesser_advanced) t u in
        started_agree n (start_of capacity n retarded filled u) (occupied_block n (entries_in n g0) (read_as capacity n retarded) t u) x x start_agree (same-terms n x)

    first-finite : (a b : ℕ) → a < n → b < n → cfinite (first a b) ≡ true
    unfolding all_finite
    first-finite a b ha hb = all-each n _ (all-each n _ finite a ha) b hb

    pub finite-is : from_finite capacity n times retarded lesser_advanced filled t u ≡ lesser_finite capacity n times retarded lesser_advanced g0 t u
    unfolding from_finite lesser_finite
    finite-is =
        all_agree n _ _ (λ a ha. all_agree n _ _ (λ b hb.
        ap₂ ◌&&◌ (ap cfinite (start_agree a b ha hb) ∙ sym (ap (λ (f : Bool). f && cfinite (occupied_block n (entries_in n g0) (read_as capacity n retarded) t u a b)) (first-finite a b ha hb)))
        (finite_agree n _ _ terms a b ha hb)))

    pub block-is : from_block capacity n times retarded lesser_advanced filled t u ≡ lay_out n n (lesser_block capacity n times retarded lesser_advanced g0 t u)
    unfolding lay_out
    block-is = join_agree n _ _ (λ a ha. join_agree n _ _ (λ b hb. ap pair (weighted_agree n _ _ terms a b ha hb)))

  -- where it is not finite no place of the row is
  pub first-fails : all_finite n n first ≡ false → (u : ℕ) → lesser_finite capacity n times retarded lesser_advanced g0 t u ≡ false
  unfolding lesser_finite all_finite
  first-fails h u = by_flag (lesser_finite capacity n times retarded lesser_advanced g0 t u) refl
    where
      each : lesser_finite capacity n times retarded lesser_advanced g0 t u ≡ true → (a b : ℕ) → a < n → b < n → cfinite (first a b) ≡ true
      each e a b ha hb = (both _ _ (both _ _ (all-each n _ (all-each n _ e a ha) b hb)).0).0

      by_flag : (f : Bool) → lesser_finite capacity n times retarded lesser_advanced g0 t u ≡ f → f ≡ false
      by_flag true e = never (sym h ∙ each_all n _ (λ a ha. each_all n _ (λ b hb. each e a b ha hb)))
      by_flag false e = refl
