-- What the sums of a product say on the way: at the first that is not finite the work ends. Assumes nothing.
use Rattle.std.specs.Prelude.{is_ok, Ok, Err, ◌≡◌, ◌∷◌, ◌++◌}
use Rattle.lists.specs.Prelude.{sym, ap, ◌∙◌, Bool, true, false, cond, List, [], ℕ, arith, length, Float}
use Rattle.lists.specs.Agreement.{never}
use Rattle.refusal.specs.Verdict.{zeroed}
use Rattle.two_time.specs.declared.sums.Sums.{Sums}
use Rattle.two_time.specs.declared.sums.Sums.TheVariants.{Full, Causal, AntiCausal}
use Rattle.two_time.specs.declared.sums.SumError.{SumError}
use Rattle.two_time.specs.Summed.{Summed}
use Rattle.two_time.specs.Sums.{sums_numbers, sums_finite}
use Rattle.two_time.specs.Outcome.{summed, sums_said}
use Rattle.two_time.specs.SizeChecks.{SizesPassed}
use Rattle.two_time.specs.Lengths.{lengths, none-asked, also_asked}
use Rattle.langreth.specs.Calls.{Components, components_of, listed, correlation_numbers, correlation_finite, product_of, product_finite}
use Rattle.langreth.specs.Added.{plus, numbers_finite}
use Rattle.langreth.specs.Finite.{first-fails, second-fails, both-added, lesser-fails, greater-fails, retarded-fails, advanced_says}

-- the sums at all places of slices that have their length
module _ (sums : Sums) {points n : ℕ} (times : List Float) {left right out : List Float} (z : SizesPassed points n true (left ∷ right ∷ out ∷ [])) {answer : Summed} {after : List Float}
    (e : let made = summed sums points n times left right out in (answer ≡ made.answer) × (after ≡ made.out)) where
  said : (ok : Bool) → ok ≡ is_ok answer → (sums_finite sums points n times left right ≡ ok) × (after ≡ cond ok (sums_numbers sums points n times left right) (zeroed out))
  said ok h = sums_said sums points n times left right out z e.0 e.1 ok h

  sum-made : answer ≡ Ok tt → (sums_finite sums points n times left right ≡ true) × (after ≡ sums_numbers sums points n times left right)
  sum-made h = said true (ap is_ok (sym h))

  sum_lost : {x : SumError} → answer ≡ Err x → sums_finite sums points n times left right ≡ false
  sum_lost h = (said false (ap is_ok (sym h))).0

-- one correlation
module _ (points n : ℕ) (times a b c d out scratch : List Float) (z : SizesPassed points n true (a ∷ b ∷ c ∷ d ∷ out ∷ scratch ∷ [])) where
  abbrev Says : Bool → List Float → Type 0
  Says ok after = (ok ≡ correlation_finite points n times a b c d) × (ok ≡ true → after ≡ correlation_numbers points n times a b c d)

  first-sized : SizesPassed points n true (a ∷ b ∷ out ∷ [])
  first-sized = let l = lengths z in also_asked (omega arith) (also_asked (omega arith) (also_asked (omega arith) (none-asked z)))

  second-sized : SizesPassed points n true (c ∷ d ∷ scratch ∷ [])
  second-sized = let l = lengths z in also_asked (omega arith) (also_asked (omega arith) (also_asked (omega arith) (none-asked z)))

  pub one-length : (first second : List Float) → length first ≡ length out → length second ≡ length scratch → length first ≡ length second
  one-length first second h k = let l = lengths z in omega arith

  module _ {answer : Summed} {first : List Float} (e : let made = summed Full points n times a b out in (answer ≡ made.answer) × (first ≡ made.out)) where
    pub first_lost : {x : SumError} → answer ≡ Err x → {ok : Bool} → ok ≡ false → {after : List Float} → Says ok after
    first_lost h f = (f ∙ first-fails _ _ _ _ _ _ _ (sum_lost Full times first-sized e h), λ k. never (sym f ∙ k))

    module _ {answer' : Summed} {second : List Float} (e' : let made = summed Full points n times c d scratch in (answer' ≡ made.answer) × (second ≡ made.out)) where
      pub second_lost : {x : SumError} → answer' ≡ Err x → {ok : Bool} → ok ≡ false → {after : List Float} → Says ok after
      second_lost h f = (f ∙ second-fails _ _ _ _ _ _ _ (sum_lost Full times second-sized e' h), λ k. never (sym f ∙ k))

      pub both-said : answer ≡ Ok tt → answer' ≡ Ok tt → {ok : Bool} {after : List Float} → (ok ≡ numbers_finite (plus first second)) × (after ≡ plus first second) → Says ok after
      both-said h h' t =
          let m = sum-made Full times first-sized e h in
          let m' = sum-made Full times second-sized e' h' in
          let both = both-added _ _ _ _ _ _ _ m.0 m'.0 m.1 m'.1 t.0 t.1 in
          (both.0, λ k. both.1)

-- the four components
module _ (points n : ℕ) (times : List Float) (left right out : Components) (z : SizesPassed points n true (listed left ++ listed right ++ listed out)) where
  abbrev Product : Bool → Components → Type 0
  Product ok after = (ok ≡ product_finite points n times left right) × (ok ≡ true → after ≡ product_of points n times left right)

  -- where the outputs, as scratch, keep their length
  module _ {xs ys : List Float} (h : length xs ≡ length out.lesser) (k : length ys ≡ length out.greater) where
    pub lesser-sized : SizesPassed points n true (left.retarded ∷ right.lesser ∷ left.lesser ∷ right.advanced ∷ xs ∷ ys ∷ [])
    lesser-sized =
        let l = lengths z in
        also_asked (omega arith) (also_asked (omega arith) (also_asked (omega arith) (also_asked (omega arith) (also_asked (omega arith) (also_asked (omega arith) (none-asked z))))))

  module _ {xs ys : List Float} (h : length xs ≡ length out.greater) (k : length ys ≡ length out.advanced) where
    pub greater-sized : SizesPassed points n true (left.retarded ∷ right.greater ∷ left.greater ∷ right.advanced ∷ xs ∷ ys ∷ [])
    greater-sized =
        let l = lengths z in
        also_asked (omega arith) (also_asked (omega arith) (also_asked (omega arith) (also_asked (omega arith) (also_asked (omega arith) (also_asked (omega arith) (none-asked z))))))

  retarded-sized : SizesPassed points n true (left.retarded ∷ right.retarded ∷ out.retarded ∷ [])
  retarded-sized = let l = lengths z in also_asked (omega arith) (also_asked (omega arith) (also_asked (omega arith) (none-asked z)))

  advanced-sized : {xs : List Float} → length xs ≡ length out.advanced → SizesPassed points n true (left.advanced ∷ right.advanced ∷ xs ∷ [])
  advanced-sized h = let l = lengths z in also_asked (omega arith) (also_asked (omega arith) (also_asked (omega arith) (none-asked z)))

  module _ (lesser-answer : Summed) (lesser : List Float)
      (l : (is_ok lesser-answer ≡ correlation_finite points n times left.retarded right.lesser left.lesser right.advanced)
      × (is_ok lesser-answer ≡ true → lesser ≡ correlation_numbers points n times left.retarded right.lesser left.lesser right.advanced)) where
    pub lesser_lost : {x : SumError} → lesser-answer ≡ Err x → {ok : Bool} → ok ≡ false → {after : Components} → Product ok after
    lesser_lost h f = (f ∙ lesser-fails _ _ _ _ _ (sym l.0 ∙ ap is_ok h), λ k. never (sym f ∙ k))

    module _ (greater-answer : Summed) (greater : List Float)
        (g : (is_ok greater-answer ≡ correlation_finite points n times left.retarded right.greater left.greater right.advanced)
        × (is_ok greater-answer ≡ true → greater ≡ correlation_numbers points n times left.retarded right.greater left.greater right.advanced)) where
      pub greater_lost : {x : SumError} → greater-answer ≡ Err x → {ok : Bool} → ok ≡ false → {after : Components} → Product ok after
      greater_lost h f = (f ∙ greater-fails _ _ _ _ _ (sym g.0 ∙ ap is_ok h), λ k. never (sym f ∙ k))

      module _ {answer : Summed} {retarded : List Float}
          (e : let made = summed Causal points n times left.retarded right.retarded out.retarded in (answer ≡ made.answer) × (retarded ≡ made.out)) where
        pub retarded_lost : {x : SumError} → answer ≡ Err x → {ok : Bool} → ok ≡ false → {after : Components} → Product ok after
        retarded_lost h f = (f ∙ retarded-fails _ _ _ _ _ (sum_lost Causal times retarded-sized e h), λ k. never (sym f ∙ k))

        -- the last
        module _ (one : lesser-answer ≡ Ok tt) (two : greater-answer ≡ Ok tt) (three : answer ≡ Ok tt) (before : List Float) (kept : length before ≡ length out.advanced)
            {last : Summed} {advanced : List Float} (e' : let made = summed AntiCausal points n times left.advanced right.advanced before in (last ≡ made.answer) × (advanced ≡ made.out)) where
          pub advanced-said : Product (is_ok last) (components_of retarded advanced lesser greater)
          advanced-said =
              let m = sum-made Causal times retarded-sized e three in
              let ok = ap is_ok one in let ok' = ap is_ok two in (
                advanced_says _ _ _ _ _ (sym l.0 ∙ ok) (sym g.0 ∙ ok') m.0 (sym (said AntiCausal times (advanced-sized kept) e' _ (λ _. is_ok last)).0),
                λ h i. components_of (m.1 i) ((said AntiCausal times (advanced-sized kept) e' true (sym h)).1 i) (l.1 ok i) (g.1 ok' i),
              )
