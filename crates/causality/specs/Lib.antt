-- Document 01, "Words of demand 3", over outcomes.
-- What is claimed: that two calls which agree up to an index leave the same rows up to it.
pub mod Statement
-- The proof: each stage of a run reads no later data, so what two calls make agrees; observables of functions that agree answer the same; so a solver
-- that leaves functions which read no later data meets the demand. In proofs/: the transient run does, and so do Dyson calls.
pub mod Stages
pub mod Made
pub mod Starts
pub mod Observables
pub mod Solvers
pub mod Dyson
-- Document 02, L3 and L13: lists of calls in a session, and what the counters of its desks hold.
pub mod Sessions
pub mod Counter
-- L1: a run and a list of appends to it. In proofs/: they leave what the run over all points leaves and count like it, so demand 3 holds of them too.
pub mod History
-- Closed cases: two accepted runs to which the demand applies; a desk's counter that is filled to its last product; a run with an append to which the law of
-- appends does; two wrong solvers that meet the demand; one that it excludes.
pub mod Prefix
pub mod Full
pub mod Appended
pub mod Weakness
pub mod Excluded
