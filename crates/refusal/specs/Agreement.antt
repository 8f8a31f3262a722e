-- Laws of questions in order: when all were answered yes, when two calls get the same answer, and what is measured after them. Assumes nothing.
use Rattle.std.specs.Prelude.{Ok, Err, ◌≡◌, ◌<◌}
use Rattle.lists.specs.Prelude.{refl, sym, ap, ◌∙◌, Bool, true, false, ℕ, zero, suc, le_refl, arith, Float}
use Rattle.refusal.specs.declared.Refusal.{Refusal}
use Rattle.refusal.specs.Verdict.{pass, Verdict, ask, ◌then◌, ask_all, measured}

-- a refusal is no yes
pub not_pass : {P : Type 0} (r : Refusal) → Err r ≡ pass → P
not_pass r e = absurd (let z : ◌≡◌ {A = ℕ} 0 1 = cc in omega arith)

pub ask_pass : (b : Bool) (r : Refusal) → ask b r ≡ pass → b ≡ true
unfolding ask
ask_pass true r e = refl
ask_pass false r e = not_pass r e

pub ask_yes : (b : Bool) (r : Refusal) → b ≡ true → ask b r ≡ pass
unfolding ask
ask_yes b r e = rw e

pub then-pass : (x y : Verdict) → (x then y) ≡ pass → (x ≡ pass) × (y ≡ pass)
then-pass (Ok tt) y e = (refl, e)
then-pass (Err r) y e = not_pass r e

-- later questions count only where the earlier ones pass
pub then-agree : (x x' y y' : Verdict) → x ≡ x' → (x ≡ pass → y ≡ y') → (x then y) ≡ (x' then y')
then-agree x x' y y' e h = ap (λ (v : Verdict). v then y) e ∙ later x' (λ p. h (e ∙ p))
  where
    later : (v : Verdict) → (v ≡ pass → y ≡ y') → (v then y) ≡ (v then y')
    later (Ok tt) k = k refl
    later (Err r) k = refl

pub all_asked : (n : ℕ) (f : ℕ → Verdict) → ((k : ℕ) → k < n → f k ≡ pass) → ask_all n f ≡ pass
unfolding ask_all
all_asked zero f h = refl
all_asked (suc n) f h = rw (all_asked n f (λ k l. h k (omega arith)), h n (le_refl (suc n)))

pub asked_agree : (n : ℕ) (f g : ℕ → Verdict) → ((k : ℕ) → k < n → f k ≡ g k) → ask_all n f ≡ ask_all n g
unfolding ask_all
asked_agree zero f g h = refl
asked_agree (suc n) f g h = rw (asked_agree n f g (λ k l. h k (omega arith)), h n (le_refl (suc n)))

pub then-assoc : (x y z : Verdict) → ((x then y) then z) ≡ (x then (y then z))
then-assoc (Ok tt) y z = refl
then-assoc (Err r) y z = refl

pub then-end : (x : Verdict) → (x then pass) ≡ x
then-end (Ok tt) = refl
then-end (Err r) = refl

-- what follows a verdict that is known
pub then-after : (x y : Verdict) → x ≡ pass → (x then y) ≡ y
then-after x y e = rw e

pub then-refused : (x y : Verdict) (r : Refusal) → x ≡ Err r → (x then y) ≡ Err r
then-refused x y r e = rw e

-- a measured number, by the verdict before it
pub measured_yes : {v : Verdict} {x y : Float} → v ≡ pass → y ≡ x → Ok y ≡ measured v x
unfolding measured
measured_yes p e = rw (p, e)

pub measured-no : {v : Verdict} {r : Refusal} (x : Float) → v ≡ Err r → Err r ≡ measured v x
unfolding measured
measured-no x p = rw p

-- two tests of which each is passed where the other is
pub same_test : (x y : Bool) → (x ≡ true → y ≡ true) → (y ≡ true → x ≡ true) → x ≡ y
same_test true y f g = sym (f refl)
same_test false true f g = g refl
same_test false false f g = refl
