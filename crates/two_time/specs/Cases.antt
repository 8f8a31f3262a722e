-- Closed cases of reading an entry.
use Rattle.std.specs.Prelude.{Some, None, ◌≡◌, ◌∷◌}
use Rattle.lists.specs.Prelude.{refl, List, [], replicate, Float}
use Rattle.complex.specs.Arithmetic.{plus_zero, one}
use Rattle.two_time.specs.Layout.{is_place, stored_at}

-- i everywhere, two points, one orbital
abbrev imaginaries : List Float
imaginaries = plus_zero ∷ one ∷ plus_zero ∷ one ∷ plus_zero ∷ one ∷ plus_zero ∷ one ∷ []

-- an entry; past the slice, past the stride and past the block there is none
reads : stored_at 2 1 imaginaries 1 0 0 0 ∷ stored_at 2 1 (replicate 7 one) 1 0 0 0 ∷ stored_at 2 1 imaginaries 2 0 0 0 ∷ stored_at 2 1 imaginaries 1 0 1 0 ∷ []
    ≡ Some (record { re = plus_zero; im = one }) ∷ None ∷ None ∷ None ∷ []
unfolding stored_at is_place
reads = refl
