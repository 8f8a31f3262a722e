-- Document 01, Dyson.
-- Behind the contracts: G from K by the document's recursion; what each call answers and leaves.
pub mod Retarded
pub mod Calls
-- Closed cases: P11, a case with two orbitals, each refusal.
pub mod Cases
-- Laws: the recursion as the document writes it; the rows of G one after another; the checks as the code makes them, and what an answer says.
pub mod Recursion
pub mod Rows
pub mod Checks
pub mod NewSolved
