-- Document 01, "Questions in order", and document 02's checks 16, 17, 18 and 22.
-- Behind the contracts: what an answer is, how questions are asked in order and what a call leaves in a slice; the checks 1 to 18 and 22.
pub mod Verdict
pub mod Checks
-- Closed cases: each check at its edge, and questions in order.
pub mod Cases
-- Laws: of questions in order; of a search for the first answer no; of refusals that leave a slice as it was.
pub mod Agreement
pub mod Search
pub mod Unchanged
pub mod Outcome
