-- Document 01, grid.
-- Behind the contracts: the trapezoid weights; the checks and the outcome of each call.
pub mod Weights
pub mod Calls
-- Closed cases: P6 and P7, the weights of four times, and each refusal.
pub mod Cases
-- Laws: a weight inside an interval is half one step; weights read the times of their interval alone; a weight past the times is a NaN;
-- what an accepted call says of its lengths, and what a refused one leaves.
pub mod Inside
pub mod Agreement
pub mod Past
pub mod Outcome
