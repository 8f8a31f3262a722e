-- Document 01, "a view of one two-time function: the lent numbers, N and n".
-- Behind the contract of `entry`: Calls, the checks of an entry in their order, and what stands there.
pub mod Calls
-- Closed cases: an entry, and each refusal.
pub mod Cases
-- Laws: where the checks pass the entry is stored, and the answer is what was read.
pub mod EntryRead
