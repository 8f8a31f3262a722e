-- Document 01, report.
-- Behind the contracts: the six residuals and the differences of check 10; the outcome of each call.
pub mod Residuals
pub mod Calls
-- Closed cases: a report, 10 by a subtraction, an infinite residual, and the consistency question.
pub mod Cases
-- The definitions, of the components that are lent.
pub mod Components
-- Laws: what passed checks say of the components; check 10 number by number; what is answered where a check refuses, and where all pass.
pub mod Passed
pub mod Differences
pub mod Answers
