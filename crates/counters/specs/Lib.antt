-- A run or an append as it leaves, with its session's counters. Agreement: with document 01's numbers. Counting: laws for those who export a run or an append.
pub mod Counters
pub mod Agreement
pub mod Counting
