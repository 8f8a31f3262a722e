-- Closed cases of the question that check 10 asks of a trace.
use Rattle.std.specs.Prelude.{◌≡◌, ◌∷◌}
use Rattle.lists.specs.Prelude.{refl, true, false, List, [], map, ℕ, binary64}
use Rattle.std.specs.Float.Ieee as Ieee
use Rattle.lists.specs.Indexed.{fold}
use Rattle.complex.specs.declared.Complex.{Complex}
use Rattle.complex.specs.Arithmetic.{finite, cadd, cfinite}
use Rattle.complex.specs.Sum.{sum_from}
use Rattle.block.specs.Block.{Entries, entries_in}
use Rattle.block.specs.Operations.{trace, finite_trace}

-- a diagonal of three numbers, by their parts
abbrev diagonal : ℕ → ℕ → ℕ → ℕ → ℕ → ℕ → Entries
diagonal a a' b b' c c' =
    entries_in 3 (map (Ieee.of_bits binary64) (a ∷ a' ∷ 0 ∷ 0 ∷ 0 ∷ 0 ∷ 0 ∷ 0 ∷ b ∷ b' ∷ 0 ∷ 0 ∷ 0 ∷ 0 ∷ 0 ∷ 0 ∷ c ∷ c' ∷ []))

-- the largest finite number, and its negative
abbrev most : ℕ
most = 0x7fef_ffff_ffff_ffff

abbrev least : ℕ
least = 0xffef_ffff_ffff_ffff

-- the largest and its negative, and the largest again: finite. The largest twice in the real part; in the imaginary part; twice and then back, where
-- the sum stays infinite.
asked : finite_trace 3 (diagonal most least least most most least) ∷ finite_trace 3 (diagonal most 0 0 0 most 0) ∷ finite_trace 3 (diagonal 0 most 0 most 0 0)
    ∷ finite_trace 3 (diagonal most 0 most 0 least 0) ∷ []
    ≡ true ∷ false ∷ false ∷ false ∷ []
unfolding trace sum_from fold cadd cfinite finite Ieee.of_bits Ieee.add
asked = refl
