-- Complex numbers in a list of numbers, the real part before the imaginary (document 01, "Kept, renewed, left behind").
use Rattle.std.specs.Prelude.{◌+◌, ◌∷◌}
use Rattle.lists.specs.Prelude.{ℕ, List, [], get_or, Float, nan}
use Rattle.complex.specs.declared.Complex.{Complex}

-- the complex number whose real part stands at place i of xs
abbrev pub entry_at : List Float → ℕ → Complex
entry_at xs i = record { re = get_or xs i nan; im = get_or xs (i + 1) nan }

-- a complex number's two numbers
abbrev pub pair : Complex → List Float
pair z = z.re ∷ z.im ∷ []
