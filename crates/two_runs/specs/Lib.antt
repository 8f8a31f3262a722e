-- Demand 3 and the law of appends of the running code.
-- Behind the contracts: what a run and its observables answer, and demand 3 of two calls; what a run and appends after it answer. Laws: the demand and
-- the law of appends follow from the calls' own contracts.
pub mod Promises
pub mod Appending
pub mod Demand
pub mod Appended
