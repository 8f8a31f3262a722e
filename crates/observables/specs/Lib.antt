-- Document 01, observables, and document 02, L1.
-- Behind the contracts: the density matrix; the checks and the outcome of each call.
pub mod Density
pub mod Calls
-- Closed cases: P10, traces that are not finite, the run with two orbitals, each refusal, and functions in a capacity.
pub mod Cases
-- Laws: what passed checks say of a lesser function; the checks of a block beside it, as the code joins them; what is answered where a check
-- refuses, and where all pass.
pub mod Passed
pub mod LesserChecks
pub mod Answers
-- A query of a bond flow, as the single call and a list of queries ask it.
pub mod Query
-- What each observable measures by its questions in order.
pub mod Measured
