-- A run of places, which a row, or a function that is passed, writes group by group.
use Rattle.std.specs.Prelude.{is_ok, ◌≡◌, ◌&&◌, ◌+◌, ◌-◌, ◌*◌, ◌/◌, ◌≤◌, ◌<◌}
use Rattle.std.specs.Borrow.{MutBor}
use Rattle.lists.specs.Prelude.{refl, sym, subst, ap, ◌∙◌, ℕ, zero, suc, Bool, true, false, cond, eqb, leb, ltb, min, ne_eqb, arith, List, length, Float, replicate}
use Rattle.lists.specs.Prelude.{ltb-true, ltb-false, leb-true, eqb-true, lt-ltb, le-ltb, le-leb, eq-eqb, mul-le-mul_right, add-mul, add_assoc, not-le_of_lt, length-take, length-drop, mid_of, put_mid}
use Rattle.lists.specs.Indexed.{all_below, join}
use Rattle.lists.specs.Agreement.{both, all_agree, join_agree}
use Rattle.lists.specs.Reading.{length-join}
use Rattle.complex.specs.Arithmetic.{plus_zero}
use Rattle.refusal.specs.Verdict.{zeroed}
use Rattle.two_time.specs.Places.{product-most}
use Rattle.two_time.specs.Summed.{Summed}
use Rattle.lanes.specs.Filled.{Filled, filled_none, filled_more, filled-all, all_failed}
use Rattle.groups.specs.Steps.{few-places, put_long}

-- how many places the next group has where `rest` are left: at most 16 columns of n orbitals
unfoldable pub group_places : ℕ → ℕ → ℕ
group_places rest n = cond (eqb n 0) 0 (min rest (16 / n))

-- so they are some, are there, and fit the lanes
pub places_fit : (rest n m : ℕ) → 0 < rest → 0 < n → n ≤ 16 → m ≡ group_places rest n → (0 < m) × (m ≤ rest) × (m ≤ 16) × (m * n ≤ 16)
unfolding group_places
places_fit rest n m z l h e = few-places n rest m l h z (e ∙ ap (λ (b : Bool). cond b 0 (min rest (16 / n))) (ne_eqb n 0 (λ p. omega arith)))

-- `count` places from column `from` on, of n orbitals, and a slice of `long` numbers for their blocks, fit one another
pub record FitsRun (n from count long : ℕ) : Type 0 where
  pub some : 0 < n
  pub few : n ≤ 16
  pub inside : from + count ≤ 256
  pub whole : long ≡ count * (2 * (n * n))

-- whether they do
abbrev pub fits_run : ℕ → ℕ → ℕ → ℕ → Bool
fits_run n from count long = (ltb 0 n && leb n 16) && (leb (from + count) 256 && eqb long (count * (2 * (n * n))))

-- what a run answers and leaves
pub record RunOutcome : Type 0 where
  pub answer : Bool
  pub out : List Float

-- the part of a slice that m places from place p on have, and the slice with them written
abbrev pub part_of : ℕ → ℕ → ℕ → List Float → List Float
part_of n p m xs = mid_of (p * (2 * (n * n))) (m * (2 * (n * n))) xs

abbrev pub part_put : ℕ → ℕ → ℕ → List Float → List Float → List Float
part_put n p m xs ys = put_mid (p * (2 * (n * n))) (m * (2 * (n * n))) xs ys

-- a row answers a group of places from column u on with `answer u places xs`, and leaves `left u places xs` of the slice xs that it is lent for them
module _ (answer : ℕ → ℕ → List Float → Summed) (left : ℕ → ℕ → List Float → List Float) (n from count : ℕ) where
  -- the groups from place p on, at most `groups` of them: where one is refused the run ends, and +0 stands throughout
  unfoldable pub runs : ℕ → ℕ → List Float → RunOutcome
  runs zero p xs = record { answer = true; out = xs }
  runs (suc groups) p xs =
      let m = group_places (count - p) n in
      let part = part_of n p m xs in
      cond (ltb p count) (cond (is_ok (answer (from + p) m part)) (runs groups (p + m) (part_put n p m xs (left (from + p) m part))) (record { answer = false; out = zeroed xs }))
      (record { answer = true; out = xs })

  -- `row_by_groups`: there are no more groups than places
  unfoldable pub run : List Float → RunOutcome
  run xs = cond (fits_run n from count (length xs)) (runs count 0 xs) (record { answer = false; out = xs })

-- the row says whether all that is made for a group is finite, and if so leaves the group's blocks, each of n by n entries: at every group from column
-- `from` to before `end`
pub record RowWrites (n from end : ℕ) (finite : ℕ → Bool) (made : ℕ → List Float) (answer : ℕ → ℕ → List Float → Summed) (left : ℕ → ℕ → List Float → List Float) : Type 0 where
  pub wide : (u : ℕ) → length (made u) ≡ 2 * (n * n)
  pub said : (u places : ℕ) (xs : List Float)
      → from ≤ u → u + places ≤ end → 0 < places → places ≤ 16 → places * n ≤ 16 → length xs ≡ places * (2 * (n * n))
      → (is_ok (answer u places xs) ≡ all_below places (λ p. finite (u + p))) × (is_ok (answer u places xs) ≡ true → left u places xs ≡ join places (λ p. made (u + p)))

-- the same of a function that is passed, of which `post u places x r y` says that a call at the places from u on, which is lent x, may answer r and leave y:
-- then r says whether all that is made for them is finite, and if so y holds their blocks
pub record Writes (n from end : ℕ) (finite : ℕ → Bool) (made : ℕ → List Float) (post : ℕ → ℕ → MutBor (List Float) → Summed → MutBor (List Float) → Type 0) : Type 0 where
  pub wide : (u : ℕ) → length (made u) ≡ 2 * (n * n)
  pub said : (u places : ℕ) (x y : MutBor (List Float)) (r : Summed) → post u places x r y
      → from ≤ u → u + places ≤ end → 0 < places → places ≤ 16 → places * n ≤ 16 → length x.now ≡ places * (2 * (n * n))
      → (is_ok r ≡ all_below places (λ p. finite (u + p))) × (is_ok r ≡ true → y.now ≡ join places (λ p. made (u + p)))

-- from what an answer says either way
pub said_of : {P : Type 0} (r : Summed) (finite : Bool) → (is_ok r ≡ true → (finite ≡ true) × P) → (is_ok r ≡ false → finite ≡ false) → (is_ok r ≡ finite) × (is_ok r ≡ true → P)
said_of r finite passes fails = (by_flag (is_ok r) refl, λ e. (passes e).1)
  where
    by_flag : (ok : Bool) → is_ok r ≡ ok → is_ok r ≡ finite
    by_flag true e = e ∙ sym (passes e).0
    by_flag false e = e ∙ sym (fails e)

-- ---- laws

pub fits_of : (n from count long : ℕ) → fits_run n from count long ≡ true → FitsRun n from count long
fits_of n from count long e =
    let f = both (ltb 0 n && leb n 16) (leb (from + count) 256 && eqb long (count * (2 * (n * n)))) e in
    let g = both (ltb 0 n) (leb n 16) f.0 in
    let h = both (leb (from + count) 256) (eqb long (count * (2 * (n * n)))) f.1 in
    record { some = ltb-true _ _ g.0; few = leb-true _ _ g.1; inside = leb-true _ _ h.0; whole = eqb-true _ _ h.1 }

pub fits-is : (n from count long : ℕ) → FitsRun n from count long → fits_run n from count long ≡ true
fits-is n from count long f = rw (lt-ltb _ _ f.some, le-leb _ _ f.few, le-leb _ _ f.inside, eq-eqb _ _ f.whole)

-- where the next group stands
pub record Next (n count p m len : ℕ) : Type 0 where
  pub inside : p + m ≤ count
  pub room : p * (2 * (n * n)) + m * (2 * (n * n)) ≤ len
  pub all : len ≤ 131072

pub next : (n from count p m len : ℕ) → FitsRun n from count len → p < count → m ≤ count - p → Next n count p m len
next n from count p m len s h fit =
    let v = 2 * (n * n) in
    let within : p + m ≤ count = omega arith in
    let block : n * n ≤ 256 = product-most n n s.few s.few in
    record {
      inside = within;
      room = omega (arith, mul-le-mul_right v within, add-mul p m v, s.whole);
      all = omega (arith, s.whole, product-most count v (let c : count ≤ 256 = omega (arith, s.inside) in c) (let l : v ≤ 512 = omega arith in l));
    }

-- its part of the slice
pub part_long : (n p m : ℕ) (xs : List Float) → p * (2 * (n * n)) + m * (2 * (n * n)) ≤ length xs → length (part_of n p m xs) ≡ m * (2 * (n * n))
part_long n p m xs room = simp (length-take, length-drop) (omega (arith, room))

module _ (answer : ℕ → ℕ → List Float → Summed) (left : ℕ → ℕ → List Float → List Float) (n from count : ℕ) where
  pub run_unfit : (xs : List Float) → (FitsRun n from count (length xs) → ⊥) → run answer left n from count xs ≡ record { answer = false; out = xs }
  unfolding run
  run_unfit xs h = by_flag (fits_run n from count (length xs)) refl
    where
      by_flag : (b : Bool) → fits_run n from count (length xs) ≡ b → cond (fits_run n from count (length xs)) (runs answer left n from count count 0 xs) (record { answer = false; out = xs }) ≡ record { answer = false; out = xs }
      by_flag true e = absurd (h (fits_of n from count (length xs) e))
      by_flag false e = rw e refl

  pub run-fit : (xs : List Float) → FitsRun n from count (length xs) → run answer left n from count xs ≡ runs answer left n from count count 0 xs
  unfolding run
  run-fit xs f = rw (fits-is n from count (length xs) f) refl

  -- at the end, and where a group is left
  pub runs_end : (groups p : ℕ) (xs : List Float) → count ≤ p → runs answer left n from count groups p xs ≡ record { answer = true; out = xs }
  unfolding runs
  runs_end zero p xs h = refl
  runs_end (suc groups) p xs h = rw (le-ltb p count h) refl

  module _ (groups p m : ℕ) (xs : List Float) (h : p < count) (e : m ≡ group_places (count - p) n) where
    pub runs_next : is_ok (answer (from + p) m (part_of n p m xs)) ≡ true
        → runs answer left n from count (suc groups) p xs ≡ runs answer left n from count groups (p + m) (part_put n p m xs (left (from + p) m (part_of n p m xs)))
    unfolding runs
    runs_next ok = rw (lt-ltb p count h, ← e, ok) refl

    pub runs_refused : is_ok (answer (from + p) m (part_of n p m xs)) ≡ false → runs answer left n from count (suc groups) p xs ≡ record { answer = false; out = zeroed xs }
    unfolding runs
    runs_refused fails = rw (lt-ltb p count h, ← e, fails) refl

  -- the groups before place p are passed, and what is left of the run is that from there on
  pub record Reached (old : List Float) (p : ℕ) (xs : List Float) : Type 0 where
    pub most : p ≤ count
    pub long : length xs ≡ length old
    pub groups : ℕ
    pub enough : count ≤ p + groups
    pub same : runs answer left n from count count 0 old ≡ runs answer left n from count groups p xs

  pub reached_none : (old : List Float) → Reached old 0 old
  reached_none old = record { most = omega arith; long = refl; groups = count; enough = omega arith; same = refl }

  module _ (old : List Float) (p : ℕ) (xs : List Float) (r : Reached old p xs) where
    pub reached-all : count ≤ p → runs answer left n from count count 0 old ≡ record { answer = true; out = xs }
    reached-all h = r.same ∙ runs_end r.groups p xs h

    module _ (m : ℕ) (h : p < count) (e : m ≡ group_places (count - p) n) where
      pub reached_more : 0 < m → p + m ≤ count → is_ok (answer (from + p) m (part_of n p m xs)) ≡ true
          → let ys = part_put n p m xs (left (from + p) m (part_of n p m xs)) in length ys ≡ length xs → Reached old (p + m) ys
      reached_more some inside ok long = by_groups r.groups r.enough r.same
        where
          by_groups : (groups : ℕ) → count ≤ p + groups → runs answer left n from count count 0 old ≡ runs answer left n from count groups p xs → Reached old (p + m) (part_put n p m xs (left (from + p) m (part_of n p m xs)))
          by_groups zero enough same = absurd (not-le_of_lt h (omega arith))
          by_groups (suc groups) enough same = record { most = inside; long = long ∙ r.long; groups = groups; enough = omega arith; same = same ∙ runs_next groups p m xs h e ok }

      pub reached_refused : is_ok (answer (from + p) m (part_of n p m xs)) ≡ false → runs answer left n from count count 0 old ≡ record { answer = false; out = zeroed xs }
      reached_refused fails = by_groups r.groups r.enough r.same
        where
          by_groups : (groups : ℕ) → count ≤ p + groups → runs answer left n from count count 0 old ≡ runs answer left n from count groups p xs → runs answer left n from count count 0 old ≡ record { answer = false; out = zeroed xs }
          by_groups zero enough same = absurd (not-le_of_lt h (omega arith))
          by_groups (suc groups) enough same = same ∙ runs_refused groups p m xs h e fails

-- what a run answers and leaves: whether all that is made for its places is finite, and if so their blocks, otherwise +0 throughout
abbrev pub Ran : ℕ → (ℕ → Bool) → (ℕ → List Float) → List Float → Bool → List Float → Type 0
Ran count finite made old r new = (r ≡ all_below count finite) × (new ≡ cond r (join count made) (zeroed old))

module _ (answer : ℕ → ℕ → List Float → Summed) (left : ℕ → ℕ → List Float → List Float) (n from count : ℕ) (finite : ℕ → Bool) (made : ℕ → List Float)
    (w : RowWrites n from (from + count) finite made answer left) (old : List Float) (f : FitsRun n from count (length old)) where
  abbrev has : RunOutcome → Type 0
  has r = Ran count (λ p. finite (from + p)) (λ p. made (from + p)) old r.answer r.out

  abbrev filled : ℕ → List Float → Type 0
  filled p xs = Filled count (λ p. finite (from + p)) (λ p. made (from + p)) p old xs

  ended : (p : ℕ) (xs : List Float) → filled p xs → count ≤ p → has (record { answer = true; out = xs })
  ended p xs g h = let all = filled-all count _ _ (2 * (n * n)) (λ k. w.wide (from + k)) old p xs g h f.whole in (all.0, all.1 refl)

  -- one group more
  module _ (groups p : ℕ) (xs : List Float) (g : filled p xs) (less : p < count) where
    abbrev m : ℕ
    m = group_places (count - p) n

    abbrev v : ℕ
    v = 2 * (n * n)

    abbrev part : List Float
    part = part_of n p m xs

    abbrev written : List Float
    written = part_put n p m xs (left (from + p) m part)

    places : (0 < m) × (m ≤ count - p) × (m ≤ 16) × (m * n ≤ 16)
    places = places_fit (count - p) n m (omega (arith, less)) f.some f.few refl

    stands : Next n count p m (length old)
    stands = next n from count p m (length old) f less places.1

    room : p * v + m * v ≤ length xs
    room = omega (arith, stands.room, g.long)

    told : (is_ok (answer (from + p) m part) ≡ all_below m (λ c. finite (from + p + c))) × (is_ok (answer (from + p) m part) ≡ true → left (from + p) m part ≡ join m (λ c. made (from + p + c)))
    told = w.said (from + p) m part (omega arith) (omega (arith, stands.inside)) places.0 places.2 places.3 (part_long n p m xs room)

    passes : all_below m (λ c. finite (from + (p + c))) ≡ is_ok (answer (from + p) m part)
    passes = sym (all_agree m _ _ (λ k h. ap finite (add_assoc from p k))) ∙ sym told.0

    more : is_ok (answer (from + p) m part) ≡ true → filled (p + m) written
    more e =
        let blocks : left (from + p) m part ≡ join m (λ c. made (from + (p + c))) = told.1 e ∙ join_agree m _ _ (λ k h. ap made (add_assoc from p k)) in
        let long : length (left (from + p) m part) ≡ m * v = ap length blocks ∙ length-join m v (λ c. made (from + (p + c))) (λ c h. w.wide (from + (p + c))) in
        filled_more count (λ k. finite (from + k)) (λ k. made (from + k)) v (λ k. w.wide (from + k)) old p m (m * v) xs _ g stands.inside (passes ∙ e) blocks refl
        (put_long (p * v) (m * v) xs _ room (long ∙ sym (part_long n p m xs room)))

    either : (b : Bool) → is_ok (answer (from + p) m part) ≡ b → (filled (p + m) written → has (runs answer left n from count groups (p + m) written)) → has (runs answer left n from count (suc groups) p xs)
    either true e rest = subst has (sym (runs_next answer left n from count groups p m xs less refl e)) (rest (more e))
    either false e rest =
        subst has (sym (runs_refused answer left n from count groups p m xs less refl e))
        (sym (all_failed (λ k. finite (from + k)) p m count stands.inside (passes ∙ e)), ap (λ (k : ℕ). replicate k plus_zero) g.long)

  from_place : (groups p : ℕ) (xs : List Float) → filled p xs → count ≤ p + groups → has (runs answer left n from count groups p xs)
  from_place zero p xs g h = subst has (sym (runs_end answer left n from count 0 p xs (omega arith))) (ended p xs g (omega arith))
  from_place (suc groups) p xs g h = by_flag (ltb p count) refl (λ q ys g2 l. from_place groups q ys g2 (omega arith))
    where
      by_flag : (b : Bool) → ltb p count ≡ b → ((q : ℕ) (ys : List Float) → filled q ys → p < q → has (runs answer left n from count groups q ys)) → has (runs answer left n from count (suc groups) p xs)
      by_flag false e rest = subst has (sym (runs_end answer left n from count (suc groups) p xs (ltb-false p count e))) (ended p xs g (ltb-false p count e))
      by_flag true e rest = let less : p < count = ltb-true p count e in either groups p xs g less _ refl (λ g2. rest _ _ g2 (let some = (places groups p xs g less).0 in omega (arith, some)))

  pub ran : has (run answer left n from count old)
  ran = subst has (sym (run-fit answer left n from count old f)) (from_place count 0 old (filled_none _ _ _ _) (omega arith))

-- so a row that writes blocks has them there where the answer is yes
pub blocks_of : {answer : ℕ → ℕ → List Float → Summed} {left : ℕ → ℕ → List Float → List Float} {n from count : ℕ} (old : List Float) {new : List Float} {r : Bool}
    → (r ≡ (run answer left n from count old).answer) × (new ≡ (run answer left n from count old).out)
    → (finite : ℕ → Bool) (made : ℕ → List Float) → FitsRun n from count (length old) → RowWrites n from (from + count) finite made answer left
    → (r ≡ all_below count (λ p. finite (from + p))) × (r ≡ true → new ≡ join count (λ p. made (from + p)))
blocks_of {answer} {left} {n} {from} {count} old {new} {r} h finite made f w =
    let s = ran answer left n from count finite made w old f in
    (h.0 ∙ s.0, λ e. h.1 ∙ s.1 ∙ ap (λ (b : Bool). cond b (join count (λ p. made (from + p))) (zeroed old)) (sym h.0 ∙ e))
