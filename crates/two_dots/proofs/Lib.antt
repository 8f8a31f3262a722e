-- The proof for two runs, for the calls that the code makes, and for runs with appends.
pub mod Theorem
pub mod TwoCalls
pub mod Histories
