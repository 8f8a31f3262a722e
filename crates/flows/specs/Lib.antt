-- Document 02, L6, many bond flows in a call.
-- Behind the contract: the queries, their answers by the single call, the checks and the outcome of the call.
pub mod Calls
-- Closed cases: refused queries among others, lists that are refused whole, none and 1,025 of them, flows that are not finite.
pub mod Cases
-- Laws: the checks as the code asks them, and what it says that they pass.
pub mod Asked
-- The queries that are held by the slices lent for them.
pub mod Held
