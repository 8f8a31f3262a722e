-- Document 01, observables: "Density is (0 − 1i) times each entry of G^<(t,t)."
use Rattle.lists.specs.Prelude.{List, ℕ, Float}
use Rattle.complex.specs.Arithmetic.{minus_i, cmul}
use Rattle.block.specs.Block.{Entries, entries_in}
use Rattle.block.specs.Operations.{product}
use Rattle.two_time.specs.Layout.{TwoTime, read_as}

unfoldable pub density : TwoTime → ℕ → Entries
density lesser t a b = cmul minus_i (lesser t t a b)

-- of a lesser function as numbers
abbrev pub density_of : ℕ → ℕ → List Float → ℕ → Entries
density_of capacity orbitals lesser = density (read_as capacity orbitals lesser)

-- its product by an n by n block of these numbers
abbrev pub product_of : ℕ → ℕ → List Float → List Float → ℕ → Entries
product_of capacity orbitals values lesser time = product orbitals (entries_in orbitals values) (density_of capacity orbitals lesser time)
