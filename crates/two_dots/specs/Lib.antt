-- Document 02, L12: two dots that do not couple.
-- What is claimed: that two accepted runs with one split, which agree in the first group, leave the same first group; and of what a contract cites.
pub mod Statement
pub mod Promises
-- The proof: the split is a relation that every sum over times keeps, and what G^< starts from keeps it too. In proofs/: so all that two runs make is
-- related by it; by the law of appends it holds of histories, and by the calls' own contracts of the running code.
pub mod Bound
pub mod Starts
