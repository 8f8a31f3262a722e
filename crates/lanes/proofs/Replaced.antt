-- A list keeps its length where a part of it is replaced by as many elements.
use Rattle.std.proofs.Common.{◌≡◌, ◌+◌, ◌≤◌, ℕ, List, length, arith}
use Rattle.lists.specs.Prelude.{length-append, length-take, length-drop, Float, put_mid}

pub length-put : (at w : ℕ) (xs ys : List Float) → length ys ≡ w → at + w ≤ length xs → length (put_mid at w xs ys) ≡ length xs
length-put at w xs ys h l = simp (length-append, length-take, length-drop) (omega arith)
