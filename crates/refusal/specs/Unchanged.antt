-- Answers that leave a lent slice as it was: a refusal is by one of the checks to 22, and never by 10. Assumes nothing.
use Rattle.std.specs.Prelude.{Err, ◌≡◌, ◌&&◌}
use Rattle.lists.specs.Prelude.{refl, Bool, true, false, not, List, ℕ, zero, suc, arith, leb, eqb, Float}
use Rattle.lists.specs.Agreement.{never, both}
use Rattle.refusal.specs.declared.Refusal.{Refusal}
use Rattle.refusal.specs.Verdict.{pass, Verdict, ask, ◌then◌, ask_all, zeroed, clears, afterwards}

-- a check's number other than 10
abbrev keeps : ℕ → Bool
keeps number = leb number 22 && not (eqb number 10)

pub data Keeping : Verdict → Type 0 where
  passed : Keeping pass
  refused : (r : Refusal) → keeps r.number ≡ true → Keeping (Err r)

pub ask_keeping : (b : Bool) (r : Refusal) → keeps r.number ≡ true → Keeping (ask b r)
unfolding ask
ask_keeping true r e = passed
ask_keeping false r e = refused r e

pub then-keeping : {x y : Verdict} → Keeping x → Keeping y → Keeping (x then y)
then-keeping passed k = k
then-keeping (refused r e) k = refused r e

pub all_keeping : (n : ℕ) (f : ℕ → Verdict) → ((k : ℕ) → Keeping (f k)) → Keeping (ask_all n f)
unfolding ask_all
all_keeping zero f h = passed
all_keeping (suc n) f h = then-keeping (all_keeping n f h) (h n)

no : (b : Bool) → not b ≡ true → b ≡ false
no true h = never h
no false h = refl

-- the refusal clears no slice
pub keeping_clears : {v : Verdict} → Keeping v → (r : Refusal) → v ≡ Err r → clears r.number ≡ false
keeping_clears passed r h = absurd (let z : ◌≡◌ {A = ℕ} 0 1 = cc in omega arith)
keeping_clears (refused s e) r h = let n : s.number ≡ r.number = cc in rw n at (no (eqb s.number 10) (both (leb s.number 22) _ e).1)

pub keeping_slice : {v : Verdict} → Keeping v → (r : Refusal) (made before : List Float) → v ≡ Err r → afterwards zeroed v made before ≡ before
unfolding afterwards
keeping_slice k r made before h = rw (h, keeping_clears k r h)
