-- What is asked of an entry's place and slice is what the test says.
use Rattle.std.proofs.Common.{Some, ◌≡◌, ◌&&◌, ℕ, Bool, List, length}
use Rattle.lists.specs.Prelude.{sym, ap, ◌∙◌, leb, leb-true, min, Float}
use Rattle.lists.specs.Agreement.{both}
use Rattle.two_time.specs.Layout.{length_of, is_place, stored_at}
use Rattle.two_time.specs.Places.{is-placed, within-asked}
use Rattle.two_time.proofs.layout.read.Goals as goal

-- the test is the definition's
test : (stride n : ℕ) (xs : List Float) (t u a b long : ℕ) (there f : Bool) → there ≡ is_place stride n t u a b → long ≡ length_of (min stride 256) (min n 16)
    → there && leb long (length xs) ≡ f → is_place stride n t u a b && leb (length_of stride n) (length xs) ≡ f
test stride n xs t u a b long there f p l e = sym (within-asked stride n xs t u a b) ∙ rw (← p, ← l) e

pub entry-requires : goal.entry-requires
entry-requires c =
    let x = c.args in
    let p = both (is_place x.stride x.orbitals x.t x.u x.a x.b) _ (test _ _ x.xs.now _ _ _ _ _ _ _ c.is_place.ensures c.function_length.ensures c.if-is_place-room.true) in
    record { placed = is-placed x.stride x.orbitals x.t x.u x.a x.b p.0; orbitals_in_bounds = leb-true _ _ p.1 }

pub returns-then-is_place-room : goal.returns-then-is_place-room
unfolding stored_at
returns-then-is_place-room c = rw (test _ _ c.args.xs.now _ _ _ _ _ _ _ c.is_place.ensures c.function_length.ensures c.if-is_place-room.true) (ap Some c.entry.ensures)

pub returns : goal.returns
unfolding stored_at
returns c = rw (test _ _ c.args.xs.now _ _ _ _ _ _ _ c.is_place.ensures c.function_length.ensures c.if-is_place-room.false)
