-- Document 02, L5: "Tunable pumps begin a pulse with an electron in place, and document 01 starts empty. A second form of the run takes a block g0, as
-- operand 3, meant as the lesser function at (0,0) (it is that by value where G^R(0,0) is −i times the identity, which is not asked)." What each form asks
-- of its block, what G^< starts from, and how many products that takes.
use Rattle.std.specs.Prelude.{◌≡◌, ◌≤◌, ◌&&◌}
use Rattle.lists.specs.Prelude.{ℕ, Bool, true, List, eqb, Float}
use Rattle.refusal.specs.Verdict.{pass, Verdict, ◌then◌}
use Rattle.refusal.specs.Checks.{large_enough, within_limits, fitting, within_capacity, finite_entries}
use Rattle.block.specs.Block.{Entries, entries_in}
use Rattle.block.specs.Operations.{zeros}
use Rattle.matrix.specs.declared.DenseMatrix.{DenseMatrix}
use Rattle.matrix.specs.Dense.{count_of}
use Rattle.two_time.specs.Calls.{block_sizes}
use Rattle.two_time.specs.Start.{Start, empty as from_nothing, occupied_by, holds_block}
use Rattle.transient_run.specs.declared.Initial.{Initial}
use Rattle.transient_run.specs.declared.Kind.{Kind}
use Rattle.transient_run.specs.declared.Kind.TheVariants.{Empty, Occupied}

pub data Form : Type 0 where
  empty : Form
  occupied : DenseMatrix → Form

-- the form of a call in the code, whose block has those numbers
unfoldable pub form_by : Kind → ℕ → ℕ → List Float → Form
form_by Empty rows columns values = empty
form_by Occupied rows columns values = occupied (record { rows = rows; columns = columns; values = values })

abbrev pub form_of : Initial → List Float → Form
form_of x values = form_by x.kind x.rows x.columns values

-- checks 1, 2, 3 and 16, the block's in their lines: `fits` says whether each slice has its length
unfoldable pub form_sizes : Form → ℕ → ℕ → ℕ → Bool → Verdict
form_sizes empty capacity points n fits = large_enough points n then within_limits capacity n then fitting fits then within_capacity points capacity
form_sizes (occupied g0) capacity points n fits = block_sizes capacity points n g0.rows g0.columns (fits && (eqb g0.rows n && eqb g0.columns n))

-- check 7 of operand 3
unfoldable pub form_entries : Form → Verdict
form_entries empty = pass
form_entries (occupied g0) = finite_entries 3 g0.values (count_of g0)

-- "G^<(t,t') then starts from (G^R(t,0)·g0)·G^A(0,t') instead of zero", of G^R in a slice laid out for the capacity
unfoldable pub start_of : Form → ℕ → ℕ → List Float → Start
start_of empty capacity n retarded = from_nothing
start_of (occupied g0) capacity n retarded = occupied_by capacity n g0.values retarded

-- "The two products of an entry are counted"
unfoldable pub start_products : Form → ℕ
start_products empty = 0
start_products (occupied g0) = 2

-- "demand 3's premise adds g0 equal in bits, and the old form counts as g0 at +0"
unfoldable pub g0_of : ℕ → Form → Entries
g0_of n empty = zeros
g0_of n (occupied g0) = entries_in n g0.values

-- ---- what a step of the code is promised of the block

abbrev pub Small : Form → Type 0
Small empty = Unit {0}
Small (occupied g0) = (g0.rows ≤ 16) × (g0.columns ≤ 16)

abbrev pub HoldsBlock : ℕ → Form → Type 0
HoldsBlock n empty = Unit {0}
HoldsBlock n (occupied g0) = holds_block n g0.values ≡ true
