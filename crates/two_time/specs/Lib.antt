-- Document 01, two-time functions. What contracts cite: where an entry stands, and which places a call works out; the one weighted sum, what is summed at a place, and the outcome of
-- the sums; checks 1 to 7 of a call. A shared example and closed cases. Then laws: of places, of a function that is laid out and read back, of slices
-- laid out for a capacity or written part by part, of checks 1 to 7 and what a call answers after them, of sums that are finite on the way, and of sums that agree.
pub mod Layout
pub mod Calls
pub mod New
pub mod WeightedSum
pub mod Sums
pub mod Summed
pub mod Outcome
pub mod Start
pub mod Example
pub mod Cases
pub mod Places
pub mod ReadBack
pub mod Parts
pub mod Written
pub mod Cleared
pub mod NewPlaces
pub mod SizeChecks
pub mod Checks
pub mod CapacityChecks
pub mod Intervals
pub mod OneTest
pub mod Factors
pub mod Column
pub mod Zeros
pub mod Finite
pub mod Relation
pub mod Agreement
pub mod FiniteAgreement
pub mod Started
pub mod Lengths
pub mod Computation
pub mod StartCases
