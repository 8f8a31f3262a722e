-- The proof of demand 3 of the transient run and of Dyson calls: what two calls make agrees, so the solver meets the demand.
pub mod Made
pub mod Theorem
pub mod Dyson
-- A run and any list of appends leave what the run over all points leaves and count like it, so demand 3 holds of them too.
pub mod Appends
-- Closed cases: two accepted runs to which the demand applies; a run with an append to which the law of appends does; a solver that is excluded.
pub mod Prefix
pub mod Appended
pub mod Excluded
