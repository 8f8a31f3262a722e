-- Document 01, transient, and document 02, L1, L3, L13 and L5.
-- Behind the contracts: how many products the sums form; what a form is; what a run or an append is given, what it makes, what it answers and leaves.
pub mod Products
pub mod Form
pub mod Calls
pub mod Inputs
-- Closed cases: P12 made stage by stage, and what others compute with; those are in crate `run_cases`.
pub mod P12
pub mod Computation
-- Laws: what the answers of a call's steps say; the checks of a form's block; the checks as the code makes them; how a call ends; points past every capacity.
pub mod Steps
pub mod FormChecks
pub mod Checks
pub mod Ends
pub mod Past
-- and that G^R(t,0), from which G^< starts, is finite where K and G^R are
pub mod Column
