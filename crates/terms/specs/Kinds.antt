-- For each kind of sums: its right factor, which places have s, with what weight, and which s a row of places has.
use Rattle.std.specs.Prelude.{◌+◌, ◌≤◌, ◌<◌}
use Rattle.lists.specs.Prelude.{Bool, true, false, List, ℕ, max, ltb, Float}
use Rattle.complex.specs.declared.Complex.{Complex}
use Rattle.complex.specs.Arithmetic.{conj}
use Rattle.block.specs.Block.{Entries}
use Rattle.block.specs.Operations.{adjoint}
use Rattle.grid.specs.Weights.{full_weight, interval_weight}
use Rattle.two_time.specs.declared.sums.Sums.{Sums}
use Rattle.two_time.specs.declared.sums.Sums.TheVariants.{Full, Causal, LesserAdvanced, Lesser, AntiCausal}
use Rattle.two_time.specs.Layout.{TwoTime}
use Rattle.two_time.specs.Sums.{interval_count}
use Rattle.terms.specs.declared.Factor.{Factor}
use Rattle.terms.specs.declared.Factor.TheVariants.{Stored, Adjoint}

-- which right factor a kind has
unfoldable pub factor_of : Sums → Factor
factor_of Full = Stored
factor_of Causal = Stored
factor_of LesserAdvanced = Adjoint
factor_of Lesser = Stored
factor_of AntiCausal = Stored

-- the right factor at (s, u): the block as it is stored, or the adjoint of the block (u, s)
unfoldable pub right_by : Factor → TwoTime → ℕ → ℕ → Entries
right_by Stored y s u = y s u
right_by Adjoint y s u = adjoint (y u s)

-- a number of it, of the one that is stored
unfoldable pub right_number : Factor → Complex → Complex
right_number Stored z = z
right_number Adjoint z = conj z

-- s belongs to the sums at places before s, and after s
unfoldable pub lanes_below : Sums → Bool
lanes_below Full = true
lanes_below Causal = true
lanes_below LesserAdvanced = false
lanes_below Lesser = true
lanes_below AntiCausal = false

unfoldable pub lanes_above : Sums → Bool
lanes_above Full = true
lanes_above Causal = false
lanes_above LesserAdvanced = true
lanes_above Lesser = true
lanes_above AntiCausal = true

-- s, which row t has, belongs to the sum at place s, unless the interval there is s alone
unfoldable pub lanes_here : Sums → ℕ → ℕ → Bool
lanes_here Full t s = true
lanes_here Causal t s = ltb s t
lanes_here LesserAdvanced t s = ltb 0 s
lanes_here Lesser t s = true
lanes_here AntiCausal t s = ltb t s

-- the weight of s at every place but s that has it, and at place s
unfoldable pub common_weight : Sums → List Float → ℕ → ℕ → ℕ → Float
common_weight Full times points t s = full_weight points times s
common_weight Causal times points t s = interval_weight times s 0 t
common_weight LesserAdvanced times points t s = interval_weight times s 0 (s + 1)
common_weight Lesser times points t s = interval_weight times s 0 t
common_weight AntiCausal times points t s = interval_weight times s t (s + 1)

unfoldable pub end_weight : Sums → List Float → ℕ → ℕ → ℕ → Float
end_weight Full times points t s = full_weight points times s
end_weight Causal times points t s = interval_weight times s s t
end_weight LesserAdvanced times points t s = interval_weight times s 0 s
end_weight Lesser times points t s = interval_weight times s 0 t
end_weight AntiCausal times points t s = interval_weight times s t s

-- row t has s
unfoldable pub Reaches : Sums → ℕ → ℕ → Type 0
Reaches Full t s = 0 ≤ s
Reaches Causal t s = s ≤ t
Reaches LesserAdvanced t s = 0 ≤ s
Reaches Lesser t s = (0 < t) × (s ≤ t)
Reaches AntiCausal t s = t ≤ s

-- the first s of the places of row t from u on, and the s after their last
unfoldable pub first_of : Sums → ℕ → ℕ → ℕ
first_of Full t u = 0
first_of Causal t u = u
first_of LesserAdvanced t u = 0
first_of Lesser t u = 0
first_of AntiCausal t u = t

unfoldable pub last_of : Sums → ℕ → ℕ → ℕ → ℕ → ℕ
last_of Full points t u places = points
last_of Causal points t u places = max u (t + 1)
last_of LesserAdvanced points t u places = u + places
last_of Lesser points t u places = interval_count 0 t
last_of AntiCausal points t u places = max t (u + places)
