-- Document 01, convolutions.
-- Behind the contracts: the outcome of each call.
pub mod Calls
-- Closed cases: both convolutions, each refusal, what 10 leaves.
pub mod Cases
