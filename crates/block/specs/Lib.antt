-- Document 01, matrix: a block's entries and how they are laid out, and the operations on them, with closed cases; then laws: how long a block is,
-- blocks of +0, what is made of blocks that agree, and the sums on the way to a finite trace.
pub mod Block
pub mod Operations
pub mod Cases
pub mod Length
pub mod Zero
pub mod Agreement
pub mod Finite
