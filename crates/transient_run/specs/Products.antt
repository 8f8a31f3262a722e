-- Document 02, L3: "An accepted transient run carries the count it formed, N(N+1)(2N+1)/6 + N·N·(N+1) − 3N"; L5: "The two products of an entry are counted:
-- 2·N·N more per run." The products that the sums of a run and their starts form, counted place by place, and that they are so many.
use Rattle.std.specs.Prelude.{◌≡◌, ◌&&◌, ◌+◌, ◌-◌, ◌*◌, ◌/◌, ◌≤◌, ◌<◌}
use Rattle.lists.specs.Prelude.{refl, sym, ap, ap₂, ◌∙◌, Bool, true, false, cond, List, Float, ℕ, zero, suc, max, leb, ltb, arith, leb-true, le-leb, lt-ltb, le-ltb, mul-add, add-mul, suc-mul, mul_assoc, mul_left_comm, mul-one, mul_comm, mul-zero, zero-mul, add-one, dec_lt}
use Rattle.two_time.specs.New.{is_new}
use Rattle.two_time.specs.declared.sums.Sums.TheVariants.{Causal, LesserAdvanced, Lesser}
use Rattle.two_time.specs.Layout.{TwoTime}
use Rattle.two_time.specs.Places.{product-most}
use Rattle.two_time.specs.Sums.{interval_count, terms_at, dyson_terms}

-- f 0 + f 1 + .. + f (n - 1)
unfoldable pub total : ℕ → (ℕ → ℕ) → ℕ
total zero f = 0
total (suc n) f = total n f + f n

-- the products of the sums at (t,u): of K from u to t, of G^R from u to t − 1, of X from 0 to u, of G^< from 0 to t
abbrev pub products_at : ℕ → ℕ → ℕ
products_at t u = interval_count u t + (t - u) + interval_count 0 u + interval_count 0 t

-- a count over the new places
unfoldable pub over_new : ℕ → ℕ → (ℕ → ℕ → ℕ) → ℕ
over_new old points f = total points (λ t. total points (λ u. cond (is_new old points t u) (f t u) 0))

-- those at the new places, where the start of G^< takes `start` products at each
unfoldable pub formed : ℕ → ℕ → ℕ → ℕ
formed start old points = over_new old points (λ t u. products_at t u + start)

-- ---- laws of sums

total_agree : (n : ℕ) (f g : ℕ → ℕ) → ((k : ℕ) → k < n → f k ≡ g k) → total n f ≡ total n g
unfolding total
total_agree zero f g h = refl
total_agree (suc n) f g h = ap₂ ◌+◌ (total_agree n f g (λ k l. h k (omega arith))) (h n (omega arith))

total-zero : (n : ℕ) → total n (λ k. 0) ≡ 0
unfolding total
total-zero zero = refl
total-zero (suc n) = let e = total-zero n in omega arith

total-add : (n : ℕ) (f g : ℕ → ℕ) → total n (λ k. f k + g k) ≡ total n f + total n g
unfolding total
total-add zero f g = refl
total-add (suc n) f g = let e = total-add n f g in omega arith

-- a square with one row and one column more
module _ (f : ℕ → ℕ → ℕ) where
  total-square : (p : ℕ) → total (suc p) (λ t. total (suc p) (f t)) ≡ total p (λ t. total p (f t)) + (total p (λ v. f p v + f v p) + f p p)
  unfolding total
  total-square p =
      let columns = total-add p (λ t. total p (f t)) (λ t. f t p) in
      let sides = total-add p (f p) (λ t. f t p) in
      omega arith

-- ---- the new row and column

module _ (old p : ℕ) (within : old ≤ p) where
  new_here : (t u : ℕ) → max t u ≡ p → is_new old (suc p) t u ≡ true
  unfolding is_new
  new_here t u e = rw (e, le-leb old p within, lt-ltb p (suc p) (omega arith))

  same-before : (t u : ℕ) → t < p → u < p → is_new old (suc p) t u ≡ is_new old p t u
  unfolding is_new
  same-before t u ht hu = rw (lt-ltb (max t u) (suc p) (omega arith), lt-ltb (max t u) p (omega arith))

-- the new row and column of point p
abbrev line_at : (ℕ → ℕ → ℕ) → ℕ → ℕ
line_at f p = total p (λ v. f p v + f v p) + f p p

module _ (f : ℕ → ℕ → ℕ) where
  over-more : (old p : ℕ) → old ≤ p → over_new old (suc p) f ≡ over_new old p f + line_at f p
  unfolding over_new
  over-more old p within =
      total-square (λ t u. cond (is_new old (suc p) t u) (f t u) 0) p
      ∙ ap₂ ◌+◌
      (total_agree p _ _ (λ t ht. total_agree p _ _ (λ u hu. rw (same-before old p within t u ht hu))))
      (ap₂ ◌+◌
      (total_agree p _ _ (λ v hv. rw (new_here old p within p v (omega arith), new_here old p within v p (omega arith))))
      (rw (new_here old p within p p (omega arith))))

  -- no place is new where there is no new point
  over_none : (p : ℕ) → over_new p p f ≡ 0
  unfolding over_new is_new
  over_none p = total_agree p _ (λ t. 0) (λ t ht. total_agree p _ (λ u. 0) (λ u hu. none t u (leb p (max t u)) refl) ∙ total-zero p) ∙ total-zero p
    where
      none : (t u : ℕ) (b : Bool) → leb p (max t u) ≡ b → cond (b && ltb (max t u) p) (f t u) 0 ≡ 0
      none t u true e = rw (le-ltb (max t u) p (leb-true p (max t u) e))
      none t u false e = refl

  over-on : (old points : ℕ) → old ≤ points → over_new 0 old f + over_new old points f ≡ over_new 0 points f
  over-on old zero l = let e : old ≡ 0 = omega arith in rw e (unfold over_new total in refl)
  over-on old (suc p) l =
      elim (dec_lt p old) [
        | yes more ↦ (let e : old ≡ suc p = omega arith in rw e (let z = over_none (suc p) in omega arith))
        | no less ↦ (let h : old ≤ p = omega arith in let a = over-on old p h in let b = over-more old p h in let c = over-more 0 p (omega arith) in omega arith)
      ]

-- two counts together
over_add : (old points : ℕ) (f g : ℕ → ℕ → ℕ) → over_new old points (λ t u. f t u + g t u) ≡ over_new old points f + over_new old points g
unfolding over_new
over_add old points f g =
    total_agree points _ _ (λ t ht. total_agree points _ _ (λ u hu. split (is_new old points t u) (f t u) (g t u)) ∙ total-add points _ _) ∙ total-add points _ _
  where
    split : (b : Bool) (x y : ℕ) → cond b (x + y) 0 ≡ cond b x 0 + cond b y 0
    split true x y = refl
    split false x y = refl

-- place v beside the diagonal, and its mirror
module _ (p : ℕ) where
  pair-first : 0 < p → products_at p 0 + products_at 0 p ≡ 4 * p + 3
  unfolding interval_count
  pair-first h = rw (lt-ltb 0 p h, le-ltb p 0 (omega arith)) (omega arith)

  pair-later : (v : ℕ) → 0 < v → v < p → products_at p v + products_at v p ≡ 4 * p + 5
  unfolding interval_count
  pair-later v h l = rw (lt-ltb v p l, le-ltb p v (omega arith), lt-ltb 0 v h, lt-ltb 0 p (omega arith)) (omega arith)

  on-diagonal : 0 < p → products_at p p ≡ 2 * p + 2
  unfolding interval_count
  on-diagonal h = rw (le-ltb p p (omega arith), lt-ltb 0 p h) (omega arith)

  pairs : (k : ℕ) → k < p → total (suc k) (λ v. products_at p v + products_at v p) + 2 ≡ suc k * (4 * p + 5)
  unfolding total
  pairs zero l = let e = pair-first l in omega arith
  pairs (suc k) l = let e = pairs k (omega arith) in let f = pair-later (suc k) (omega arith) l in let g = suc-mul (suc k) (4 * p + 5) in omega arith

new-at : (p : ℕ) → line_at products_at p ≡ p * (4 * p + 7)
unfolding total interval_count
new-at zero = refl
new-at (suc q) =
    let p = suc q in
    let e = pairs p q (omega arith) in
    let d = on-diagonal p (omega arith) in
    let m : p * (4 * p + 7) ≡ p * (4 * p) + p * 7 = mul-add p (4 * p) 7 in
    let n : p * (4 * p + 5) ≡ p * (4 * p) + p * 5 = mul-add p (4 * p) 5 in
    omega arith

-- ---- how many they are

times-suc : (m p : ℕ) → m * suc p ≡ m * p + m
times-suc m p = ap (λ (k : ℕ). m * k) (sym (add-one p)) ∙ mul-add m p 1 ∙ ap (λ (k : ℕ). m * p + k) (mul-one m)

-- powers of p and of one more
module _ (p : ℕ) where
  squares : suc p * suc p ≡ p * p + 2 * p + 1
  squares = let a = suc-mul p (suc p) in let b : p * suc p ≡ p * p + p = times-suc p p in omega arith

  cubes : suc p * suc p * suc p ≡ p * p * p + 3 * (p * p) + 3 * p + 1
  cubes =
      let s = squares in
      let a : suc p * suc p * suc p ≡ suc p * suc p * p + suc p * suc p = times-suc (suc p * suc p) p in
      let b : suc p * suc p * p ≡ (p * p + 2 * p + 1) * p = ap (λ (k : ℕ). k * p) s in
      let c : (p * p + 2 * p + 1) * p ≡ (p * p + 2 * p) * p + 1 * p = add-mul (p * p + 2 * p) 1 p in
      let d : (p * p + 2 * p) * p ≡ p * p * p + 2 * p * p = add-mul (p * p) (2 * p) p in
      let f : 2 * p * p ≡ 2 * (p * p) = mul_assoc 2 p p in
      omega arith

  pyramid : p * (p + 1) * (2 * p + 1) ≡ 2 * (p * p * p) + 3 * (p * p) + p
  pyramid =
      let a : p * (p + 1) ≡ p * p + p * 1 = mul-add p p 1 in
      let b : p * (p + 1) * (2 * p + 1) ≡ p * (p + 1) * (2 * p) + p * (p + 1) * 1 = mul-add (p * (p + 1)) (2 * p) 1 in
      let c : p * (p + 1) * (2 * p) ≡ (p * p + p * 1) * (2 * p) = ap (λ (k : ℕ). k * (2 * p)) a in
      let d : (p * p + p * 1) * (2 * p) ≡ p * p * (2 * p) + p * 1 * (2 * p) = add-mul (p * p) (p * 1) (2 * p) in
      let f : p * p * (2 * p) ≡ 2 * (p * p * p) = mul_left_comm (p * p) 2 p in
      let g : p * 1 * (2 * p) ≡ 2 * (p * p) = ap (λ (k : ℕ). k * (2 * p)) (mul-one p) ∙ mul_left_comm p 2 p in
      omega arith

  slab : p * p * (p + 1) ≡ p * p * p + p * p
  slab = let a : p * p * (p + 1) ≡ p * p * p + p * p * 1 = mul-add (p * p) p 1 in omega arith

  newly : p * (4 * p + 7) ≡ 4 * (p * p) + 7 * p
  newly = let a : p * (4 * p + 7) ≡ p * (4 * p) + p * 7 = mul-add p (4 * p) 7 in let b : p * (4 * p) ≡ 4 * (p * p) = mul_left_comm p 4 p in omega arith

-- so many at each place
total-same : (n k : ℕ) → total n (λ i. k) ≡ n * k
unfolding total
total-same zero k = sym (zero-mul k)
total-same (suc n) k = let e = total-same n k in let m = suc-mul n k in omega arith

starts : (k n : ℕ) → over_new 0 n (λ t u. k) ≡ k * (n * n)
starts k zero = unfold over_new total in sym (mul-zero k)
starts k (suc p) =
    let e = starts k p in
    let m = over-more (λ t u. k) 0 p (omega arith) in
    let l : total p (λ v. k + k) ≡ p * (k + k) = total-same p (k + k) in
    let d : p * (k + k) ≡ p * k + p * k = mul-add p k k in
    let c : p * k ≡ k * p = mul_comm p k in
    let s : k * (suc p * suc p) ≡ k * (p * p + 2 * p + 1) = ap (λ (j : ℕ). k * j) (squares p) in
    let a : k * (p * p + 2 * p + 1) ≡ k * (p * p + 2 * p) + k * 1 = mul-add k (p * p + 2 * p) 1 in
    let b : k * (p * p + 2 * p) ≡ k * (p * p) + k * (2 * p) = mul-add k (p * p) (2 * p) in
    let f : k * (2 * p) ≡ 2 * (k * p) = mul_left_comm k 2 p in
    let g : k * 1 ≡ k = mul-one k in
    omega arith

-- "N(N+1)(2N+1)/6 + N·N·(N+1) − 3N", and `start`·N·N more
abbrev pub count_of : ℕ → ℕ → ℕ
count_of start n = n * (n + 1) * (2 * n + 1) / 6 + n * n * (n + 1) - 3 * n + start * (n * n)

sixfold : (n : ℕ) → 6 * (over_new 0 n products_at + 3 * n) ≡ 8 * (n * n * n) + 9 * (n * n) + n
sixfold zero = unfold over_new total in refl
sixfold (suc p) =
    let e = sixfold p in
    let m = over-more products_at 0 p (omega arith) in
    let a = new-at p in
    let b = newly p in
    let s = squares p in
    let c = cubes p in
    omega arith

-- the products of a run over n points
pub formed-count : (start n : ℕ) → formed start 0 n ≡ count_of start n
unfolding formed
formed-count start n =
    let e = sixfold n in
    let a = pyramid n in
    let b = slab n in
    over_add 0 n products_at (λ t u. start) ∙ ap₂ ◌+◌ (let h : over_new 0 n products_at ≡ n * (n + 1) * (2 * n + 1) / 6 + n * n * (n + 1) - 3 * n = omega arith in h) (starts start n)

-- those of a call that goes on from `old`: "A run and its appends count like the run over all points."
pub formed-on : (start old points : ℕ) → old ≤ points → formed start 0 old + formed start old points ≡ formed start 0 points
unfolding formed
formed-on start old points l = over-on (λ t u. products_at t u + start) old points l

-- an append to p points: those of the sums, and "2·(2p + 1) more" for a start of two
pub formed-append : (start p : ℕ) → formed start p (suc p) ≡ formed 0 p (suc p) + start * (2 * p + 1)
unfolding formed
formed-append start p =
    let one = over-more (λ t u. products_at t u + start) p p (omega arith) in
    let none = over_none (λ t u. products_at t u + start) p in
    let both = over_add p (suc p) products_at (λ t u. start) in
    let bare = over_add p (suc p) products_at (λ t u. 0) in
    let more = over-more (λ t u. start) p p (omega arith) in
    let zeros = over-more (λ t u. 0) p p (omega arith) in
    let nothing = over_none (λ t u. start) p in
    let nothing' = over_none (λ t u. 0) p in
    let l : total p (λ v. start + start) ≡ p * (start + start) = total-same p (start + start) in
    let l' : total p (λ v. 0 + 0) ≡ 0 = total-zero p in
    let d : p * (start + start) ≡ p * start + p * start = mul-add p start start in
    let c : p * start ≡ start * p = mul_comm p start in
    let a : start * (2 * p + 1) ≡ start * (2 * p) + start * 1 = mul-add start (2 * p) 1 in
    let f : start * (2 * p) ≡ 2 * (start * p) = mul_left_comm start 2 p in
    let g : start * 1 ≡ start = mul-one start in
    omega arith

-- the counts of the terms that the sums at (t,u) are made of
pub counted : (capacity : ℕ) (times : List Float) (x y : TwoTime) (t u : ℕ)
    → (terms_at Causal capacity times x y t u).count + (dyson_terms times x x y t u).count + (terms_at LesserAdvanced capacity times x y t u).count + (terms_at Lesser capacity times x y t u).count ≡ products_at t u
unfolding terms_at
counted capacity times x y t u = refl

-- every step of the formula fits a word to 256 points
pub record Steps (n : ℕ) : Type 0 where
  pub square-most : n * n ≤ 65536
  pub pyramid-most : n * (n + 1) * (2 * n + 1) ≤ 33751296
  pub slab-most : n * n * (n + 1) ≤ 16842752
  pub whole : 3 * n ≤ n * (n + 1) * (2 * n + 1) / 6 + n * n * (n + 1)

pub steps : (n : ℕ) → n ≤ 256 → Steps n
steps n h =
    record {
      square-most = product-most n n h h;
      pyramid-most = product-most (n * (n + 1)) (2 * n + 1) (product-most n (n + 1) h (let l : n + 1 ≤ 257 = omega arith in l)) (let l : 2 * n + 1 ≤ 513 = omega arith in l);
      slab-most = product-most (n * n) (n + 1) (product-most n n h h) (let l : n + 1 ≤ 257 = omega arith in l);
      whole = let e = sixfold n in let a = pyramid n in let b = slab n in omega arith;
    }
